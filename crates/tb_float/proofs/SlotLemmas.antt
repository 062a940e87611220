-- What lists of slots show.
use Rattle.std.proofs.Common.{◌≡◌, ◌≢◌, ℕ, zero, suc, ◌-◌, ◌≤◌, ◌==◌, Bool, true, false, ◌||◌, List, [], ◌∷◌, ◌++◌, length, take, drop, map, Some, slice_get, refl, sym, ap, ◌∙◌, subst, arith, replicate}
use Rattle.std.specs.Prelude.{◌+ℤ◌, ◌-ℤ◌, slice_set, All}
use Rattle.std.proofs.lemmas.Int.{ints}
use Rattle.std.proofs.Math.Bool.{or-true, or-false}
use Rattle.std.proofs.lemmas.List.{map-append}
use Rattle.std.proofs.lemmas.List.Elements.{All-nil, All-cons}
use Rattle.std.proofs.lemmas.Bool.{true≢false}
use Rattle.std.proofs.lemmas.Option.{same_Some}
use Rattle.tb_node.specs.declared.Float.{Float}
use Rattle.tb_float.specs.declared.Part.{Part}
use Rattle.tb_float.specs.declared.Entry.{Entry}
use Rattle.tb_float.specs.declared.Entry.TheVariants as entries
use Rattle.tb_float.specs.Slots.{SlotView}
use Rattle.tb_float.specs.Lists.{has_class, float_before, floats_among, float_entries, without_place, holds_notes, holds_marks}
use Rattle.tb_float.specs.Ranges.{IsSizedEntry, IsSizedFloat}
use Rattle.tb_float.specs.Rooms.{total_height}
use Rattle.tb_float.specs.Heights.{IsSumOf}
use Rattle.tb_float.specs.Shelves.{entries_in, floats_in, marks_in, is_float, IsSlotOf, AreSlotsOf, unmarked_slot, flagged_slots}
use Rattle.tb_float.specs.Pool.{flagged}

-- a slot that shows no float of the class is passed
pub class-passed : (k n : ℕ) (s : SlotView) (ss : List SlotView) → n ≢ 0 → has_class k (float_before s.entry []) ≡ false → has_class k (floats_in (take n (s ∷ ss))) ≡ has_class k (floats_in (take (n - 1) ss))
class-passed k zero s ss ne another = absurd (ne refl)
class-passed k (suc n) s ss ne another = by_entry s.entry another ∙ ap (λ m. has_class k (floats_in (take m ss))) (omega arith)
  where
    by_entry : (e : Entry) → has_class k (float_before e []) ≡ false → has_class k (float_before e (floats_in (take n ss))) ≡ has_class k (floats_in (take n ss))
    by_entry (entries.Float f) not = grind arith
    by_entry (entries.Left m) not = refl
    by_entry (entries.Right m) not = refl

-- a float of the class is in a list if it is there from a place on or before it
pub class-parts : (k n : ℕ) (ss : List SlotView) → (has_class k (floats_in (drop n ss)) || has_class k (floats_in (take n ss))) ≡ has_class k (floats_in ss)
class-parts k zero ss = or-false (has_class k (floats_in ss))
class-parts k (suc n) [] = refl
class-parts k (suc n) (s ∷ ss) = by_entry s.entry (class-parts k n ss)
  where
    by_entry : (e : Entry) → (has_class k (floats_in (drop n ss)) || has_class k (floats_in (take n ss))) ≡ has_class k (floats_in ss) → (has_class k (floats_in (drop n ss)) || has_class k (float_before e (floats_in (take n ss)))) ≡ has_class k (float_before e (floats_in ss))
    by_entry (entries.Float f) parts = by_test (f.class == k)
      where
        by_test : (t : Bool) → (has_class k (floats_in (drop n ss)) || (t || has_class k (floats_in (take n ss)))) ≡ (t || has_class k (floats_in ss))
        by_test true = or-true (has_class k (floats_in (drop n ss)))
        by_test false = parts
    by_entry (entries.Left m) parts = parts
    by_entry (entries.Right m) parts = parts

-- ---- joined lists

float_before-append : (e : Entry) (fs gs : List Float) → float_before e (fs ++ gs) ≡ float_before e fs ++ gs
float_before-append (entries.Float f) fs gs = refl
float_before-append e fs gs = refl

pub floats_among-append : (es ds : List Entry) → floats_among (es ++ ds) ≡ floats_among es ++ floats_among ds
floats_among-append [] ds = refl
floats_among-append (e ∷ es) ds = ap (float_before e) (floats_among-append es ds) ∙ float_before-append e (floats_among es) (floats_among ds)

pub floats_in-append : (ss ts : List SlotView) → floats_in (ss ++ ts) ≡ floats_in ss ++ floats_in ts
floats_in-append ss ts = ap floats_among (map-append (λ s. s.entry) ss ts) ∙ floats_among-append (entries_in ss) (entries_in ts)

pub total_height-append : (fs gs : List Float) → total_height (fs ++ gs) ≡ total_height fs +ℤ total_height gs
total_height-append [] gs = omega (arith, ints)
total_height-append (f ∷ fs) gs = omega (arith, ints, total_height-append fs gs)

-- ---- slots that may be in a list

module _ (p : Part) where
  pub slots-append : (ss ts : List SlotView) → AreSlotsOf p ss → AreSlotsOf p ts → AreSlotsOf p (ss ++ ts)
  slots-append [] ts h k = k
  slots-append (s ∷ ss) ts h k = (h.0, slots-append ss ts h.1 k)

  pub slots-without : (k : ℕ) (ss : List SlotView) → AreSlotsOf p ss → AreSlotsOf p (without_place k ss)
  slots-without zero [] h = tt
  slots-without (suc k) [] h = tt
  slots-without zero (s ∷ ss) h = h.1
  slots-without (suc k) (s ∷ ss) h = (h.0, slots-without k ss h.1)

  pub slot-there : (k : ℕ) (ss : List SlotView) (s : SlotView) → AreSlotsOf p ss → slice_get ss k ≡ Some s → IsSlotOf p s
  slot-there k [] s h e = cc
  slot-there zero (t ∷ ss) s h e = subst (IsSlotOf p) (grind arith) h.0
  slot-there (suc k) (t ∷ ss) s h e = slot-there k ss s h.1 e

  pub slots-set : (k : ℕ) (ss : List SlotView) (s : SlotView) → AreSlotsOf p ss → IsSlotOf p s → AreSlotsOf p (slice_set ss k s)
  slots-set k [] s h is = tt
  slots-set zero (t ∷ ss) s h is = (is, h.1)
  slots-set (suc k) (t ∷ ss) s h is = (h.0, slots-set k ss s h.1 is)

  float-first : (e : Entry) (fs : List Float) → is_float e ≡ true → e ∷ float_entries fs ≡ float_entries (float_before e fs)
  float-first (entries.Float f) fs is = refl
  float-first (entries.Left m) fs is = cc
  float-first (entries.Right m) fs is = cc

  length-first : (e : Entry) (fs : List Float) → is_float e ≡ true → length (float_before e fs) ≡ suc (length fs)
  length-first (entries.Float f) fs is = refl
  length-first (entries.Left m) fs is = cc
  length-first (entries.Right m) fs is = cc

  -- if there are no notes, all entries are floats
  pub entries-are_floats : (ss : List SlotView) → holds_notes p ≡ false → AreSlotsOf p ss → entries_in ss ≡ float_entries (floats_in ss)
  entries-are_floats [] no_notes h = refl
  entries-are_floats (s ∷ ss) no_notes h =
      ap (λ es. s.entry ∷ es) (entries-are_floats ss no_notes h.1) ∙ float-first s.entry (floats_in ss) (h.0.float no_notes)

  pub length-floats_in : (ss : List SlotView) → holds_notes p ≡ false → AreSlotsOf p ss → length (floats_in ss) ≡ length ss
  length-floats_in [] no_notes h = refl
  length-floats_in (s ∷ ss) no_notes h =
      length-first s.entry (floats_in ss) (h.0.float no_notes) ∙ ap suc (length-floats_in ss no_notes h.1)

  float-sized : (e : Entry) (fs : List Float) → IsSizedEntry e → All IsSizedFloat fs → All IsSizedFloat (float_before e fs)
  float-sized (entries.Float f) fs is h = All-cons IsSizedFloat f fs is h
  float-sized (entries.Left m) fs is h = h
  float-sized (entries.Right m) fs is h = h

  -- each float is sized
  pub floats-sized : (ss : List SlotView) → AreSlotsOf p ss → All IsSizedFloat (floats_in ss)
  floats-sized [] h = All-nil IsSizedFloat
  floats-sized (s ∷ ss) h = float-sized s.entry (floats_in ss) h.0.sized (floats-sized ss h.1)

  -- if there are no marks, none is set
  pub marks-none : (ss : List SlotView) → holds_marks p ≡ false → AreSlotsOf p ss → marks_in ss ≡ replicate (length ss) false
  marks-none [] no_marks h = refl
  marks-none (s ∷ ss) no_marks h =
      ap (λ m. m ∷ marks_in ss) (h.0.unmarked no_marks) ∙ ap (λ ms. false ∷ ms) (marks-none ss no_marks h.1)

-- ---- sums of heights

entry-sum : (e : Entry) (n : ℕ) (fs : List Float) → IsSizedEntry e → IsSumOf n (total_height fs) → IsSumOf (suc n) (total_height (float_before e fs))
entry-sum (entries.Float f) n fs sized h =
    let low = sized.low in let high = sized.high in
    record { low = omega (arith, ints); high = omega (arith, ints) }
entry-sum (entries.Left m) n fs sized h = record { low = h.low; high = omega (arith, ints) }
entry-sum (entries.Right m) n fs sized h = record { low = h.low; high = omega (arith, ints) }

pub slots-sum : (p : Part) (ss : List SlotView) → AreSlotsOf p ss → IsSumOf (length ss) (total_height (floats_in ss))
slots-sum p [] h = record { low = omega (arith, ints); high = omega (arith, ints) }
slots-sum p (s ∷ ss) h = entry-sum s.entry (length ss) (floats_in ss) h.0.sized (slots-sum p ss h.1)

entry-taken : (e : Entry) (fs : List Float) → total_height (float_before e fs) ≡ total_height (float_before e []) +ℤ total_height fs
entry-taken (entries.Float f) fs = omega (arith, ints)
entry-taken e fs = omega (arith, ints)

-- the sum without the float at a place
pub total-without : (k : ℕ) (ss : List SlotView) (s : SlotView) → slice_get ss k ≡ Some s → total_height (floats_in (without_place k ss)) ≡ total_height (floats_in ss) -ℤ total_height (float_before s.entry [])
total-without k [] s e = cc
total-without zero (t ∷ ss) s e =
    let same : t ≡ s = grind arith in
    let all = entry-taken t.entry (floats_in ss) ∙ ap (λ r. total_height (float_before r.entry []) +ℤ total_height (floats_in ss)) same in
    omega (arith, ints, all)
total-without (suc k) (t ∷ ss) s e =
    omega (arith, ints, total-without k ss s e, entry-taken t.entry (floats_in (without_place k ss)), entry-taken t.entry (floats_in ss))

-- marks do not matter to what is shown
pub floats_in-unmarked : (ss : List SlotView) → floats_in (map unmarked_slot ss) ≡ floats_in ss
floats_in-unmarked [] = refl
floats_in-unmarked (s ∷ ss) = ap (float_before s.entry) (floats_in-unmarked ss)

-- ---- floats without marks

-- each slot is a float, and none is marked
abbrev pub AreBare : List SlotView → Type 0
AreBare [] = Unit {0}
AreBare (s ∷ ss) = (is_float s.entry ≡ true) × (s.marked ≡ false) × AreBare ss

pub slots-bare : (p q : Part) (ss : List SlotView) → AreSlotsOf p ss → AreBare ss → AreSlotsOf q ss
slots-bare p q [] h b = tt
slots-bare p q (s ∷ ss) h b = (record { sized = h.0.sized; float = λ n. b.0; unmarked = λ n. b.1 }, slots-bare p q ss h.1 b.2)

pub entries-bare : (ss : List SlotView) → AreBare ss → entries_in ss ≡ float_entries (floats_in ss)
entries-bare [] b = refl
entries-bare (s ∷ ss) b = ap (λ es. s.entry ∷ es) (entries-bare ss b.2) ∙ by_entry s.entry b.0
  where
    by_entry : (e : Entry) → is_float e ≡ true → e ∷ float_entries (floats_in ss) ≡ float_entries (float_before e (floats_in ss))
    by_entry (entries.Float f) is = refl
    by_entry (entries.Left m) is = cc
    by_entry (entries.Right m) is = cc

pub marks-bare : (ss : List SlotView) → AreBare ss → marks_in ss ≡ replicate (length (floats_in ss)) false
marks-bare [] b = refl
marks-bare (s ∷ ss) b = ap (λ m. m ∷ marks_in ss) b.1 ∙ ap (λ ms. false ∷ ms) (marks-bare ss b.2) ∙ by_entry s.entry b.0
  where
    by_entry : (e : Entry) → is_float e ≡ true → false ∷ replicate (length (floats_in ss)) false ≡ replicate (length (float_before e (floats_in ss))) false
    by_entry (entries.Float f) is = refl
    by_entry (entries.Left m) is = cc
    by_entry (entries.Right m) is = cc

few-floats : (es : List Entry) → length (float_entries (floats_among es)) ≤ length es
few-floats [] = omega arith
few-floats (entries.Float f ∷ es) = omega (arith, few-floats es)
few-floats (entries.Left m ∷ es) = omega (arith, few-floats es)
few-floats (entries.Right m ∷ es) = omega (arith, few-floats es)

tail-same : (e : Entry) (es ds : List Entry) → e ∷ es ≡ e ∷ ds → es ≡ ds
tail-same e es ds h = cc

bare-first : (e : Entry) (es : List Entry) → e ∷ es ≡ float_entries (float_before e (floats_among es)) → (is_float e ≡ true) × (es ≡ float_entries (floats_among es))
bare-first (entries.Float f) es h = (refl, tail-same (entries.Float f) es (float_entries (floats_among es)) h)
bare-first (entries.Left m) es h = absurd (omega (arith, ap length h, few-floats es))
bare-first (entries.Right m) es h = absurd (omega (arith, ap length h, few-floats es))

marks-first : (m : Bool) (ms : List Bool) (n : ℕ) → m ∷ ms ≡ replicate (suc n) false → (m ≡ false) × (ms ≡ replicate n false)
marks-first m ms n h = (cc, cc)

-- slots that show floats alone and no mark are bare
pub bare-shown : (ss : List SlotView) → entries_in ss ≡ float_entries (floats_in ss) → marks_in ss ≡ replicate (length ss) false → AreBare ss
bare-shown [] es ms = tt
bare-shown (s ∷ ss) es ms =
    let e = bare-first s.entry (entries_in ss) es in
    let m = marks-first s.marked (marks_in ss) (length ss) ms in
    (e.0, m.0, bare-shown ss e.1 m.1)

-- taking marks away keeps the rest
pub slots-unmarked : (p : Part) (ss : List SlotView) → AreSlotsOf p ss → AreSlotsOf p (map unmarked_slot ss)
slots-unmarked p [] h = tt
slots-unmarked p (s ∷ ss) h = (record { sized = h.0.sized; float = h.0.float; unmarked = λ n. refl }, slots-unmarked p ss h.1)

pub marks-unmarked : (ss : List SlotView) → marks_in (map unmarked_slot ss) ≡ replicate (length (marks_in ss)) false
marks-unmarked [] = refl
marks-unmarked (s ∷ ss) = ap (λ ms. false ∷ ms) (marks-unmarked ss)

-- ---- some of them are marked

flagged-entries : (bs : List Bool) (ss : List SlotView) → entries_in (flagged_slots bs ss) ≡ entries_in ss
flagged-entries [] ss = refl
flagged-entries (b ∷ bs) [] = refl
flagged-entries (b ∷ bs) (s ∷ ss) = ap (λ es. s.entry ∷ es) (flagged-entries bs ss)

flagged-marks : (bs : List Bool) (ss : List SlotView) → marks_in (flagged_slots bs ss) ≡ flagged bs (marks_in ss)
flagged-marks [] ss = refl
flagged-marks (b ∷ bs) [] = refl
flagged-marks (b ∷ bs) (s ∷ ss) = ap (λ ms. (b || s.marked) ∷ ms) (flagged-marks bs ss)

marks-parts : (k : ℕ) (bs : List Bool) (ss : List SlotView) → marks_in (take k ss) ++ flagged bs (marks_in (drop k ss)) ≡ take k (marks_in ss) ++ flagged bs (drop k (marks_in ss))
marks-parts zero bs ss = refl
marks-parts (suc k) bs [] = refl
marks-parts (suc k) bs (s ∷ ss) = ap (λ ms. s.marked ∷ ms) (marks-parts k bs ss)

-- the same entries, from a place on too
pub entries-flagged : (k : ℕ) (bs : List Bool) (ss : List SlotView) → entries_in (take k ss ++ flagged_slots bs (drop k ss)) ≡ entries_in ss
entries-flagged zero bs ss = flagged-entries bs ss
entries-flagged (suc k) bs [] = flagged-entries bs []
entries-flagged (suc k) bs (s ∷ ss) = ap (λ es. s.entry ∷ es) (entries-flagged k bs ss)

-- and the marks that flags set from there on
pub marks-flagged : (k : ℕ) (bs : List Bool) (ss : List SlotView) → marks_in (take k ss ++ flagged_slots bs (drop k ss)) ≡ take k (marks_in ss) ++ flagged bs (drop k (marks_in ss))
marks-flagged k bs ss = map-append (λ s. s.marked) (take k ss) (flagged_slots bs (drop k ss)) ∙ ap (λ ms. marks_in (take k ss) ++ ms) (flagged-marks bs (drop k ss)) ∙ marks-parts k bs ss

module _ (p : Part) (marks : holds_marks p ≡ true) where
  flagged-are : (bs : List Bool) (ss : List SlotView) → AreSlotsOf p ss → AreSlotsOf p (flagged_slots bs ss)
  flagged-are [] ss h = h
  flagged-are (b ∷ bs) [] h = tt
  flagged-are (b ∷ bs) (s ∷ ss) h = (record { sized = h.0.sized; float = h.0.float; unmarked = λ n. absurd (true≢false (sym marks ∙ n)) }, flagged-are bs ss h.1)

  pub slots-flagged : (k : ℕ) (bs : List Bool) (ss : List SlotView) → AreSlotsOf p ss → AreSlotsOf p (take k ss ++ flagged_slots bs (drop k ss))
  slots-flagged zero bs ss h = flagged-are bs ss h
  slots-flagged (suc k) bs [] h = flagged-are bs [] h
  slots-flagged (suc k) bs (s ∷ ss) h = (h.0, slots-flagged k bs ss h.1)

-- ---- an entry that is seen is in a slot

pub slot-of_entry : (ss : List SlotView) (k : ℕ) (e : Entry) → slice_get (entries_in ss) k ≡ Some e → (s : SlotView) × (slice_get ss k ≡ Some s) × (s.entry ≡ e)
slot-of_entry [] k e h = cc
slot-of_entry (s ∷ ss) zero e h = (s, refl, grind arith)
slot-of_entry (s ∷ ss) (suc k) e h = slot-of_entry ss k e h

-- the float of a slot is seen at the slot's place, if there are no notes
pub float-at_slot : (p : Part) (k : ℕ) (ss : List SlotView) (s : SlotView) (f : Float) → holds_notes p ≡ false → AreSlotsOf p ss → slice_get ss k ≡ Some s → s.entry ≡ entries.Float f → slice_get (floats_in ss) k ≡ Some f
float-at_slot p k [] s f no_notes h e is = cc
float-at_slot p zero (t ∷ ss) s f no_notes h e is =
    let same : t.entry ≡ entries.Float f = ap (λ r. r.entry) (same_Some t s e) ∙ is in
    ap (λ d. slice_get (float_before d (floats_in ss)) 0) same
float-at_slot p (suc k) (t ∷ ss) s f no_notes h e is = by_entry t.entry (h.0.float no_notes) ∙ float-at_slot p k ss s f no_notes h.1 e is
  where
    by_entry : (d : Entry) → is_float d ≡ true → slice_get (float_before d (floats_in ss)) (suc k) ≡ slice_get (floats_in ss) k
    by_entry (entries.Float g) yes_float = refl
    by_entry (entries.Left m) yes_float = cc
    by_entry (entries.Right m) yes_float = cc

-- another entry of the same height at a place
pub total-set : (k : ℕ) (ss : List SlotView) (s : SlotView) (e : Entry) (m : Bool) → slice_get ss k ≡ Some s → total_height (float_before e []) ≡ total_height (float_before s.entry [])
    → total_height (floats_in (slice_set ss k (record { entry = e; marked = m }))) ≡ total_height (floats_in ss)
total-set k [] s e m h same = refl
total-set zero (t ∷ ss) s e m h same =
    let is : t ≡ s = same_Some t s h in
    let before = ap (λ (r : SlotView). total_height (float_before r.entry [])) is in
    omega (arith, ints, entry-taken e (floats_in ss), entry-taken t.entry (floats_in ss))
total-set (suc k) (t ∷ ss) s e m h same =
    omega (arith, ints, total-set k ss s e m h same, entry-taken t.entry (floats_in (slice_set ss k (record { entry = e; marked = m }))), entry-taken t.entry (floats_in ss))

-- the same entry at a place, marked or not
pub entries-set_same : (k : ℕ) (ss : List SlotView) (s : SlotView) (m : Bool) → slice_get ss k ≡ Some s → entries_in (slice_set ss k (record { entry = s.entry; marked = m })) ≡ entries_in ss
entries-set_same k [] s m h = refl
entries-set_same zero (t ∷ ss) s m h = ap (λ (r : SlotView). r.entry ∷ entries_in ss) (sym (same_Some t s h))
entries-set_same (suc k) (t ∷ ss) s m h = ap (λ es. t.entry ∷ es) (entries-set_same k ss s m h)
