-- The pool's lists, sums and places through a change of one list.
use Rattle.std.proofs.Common.{◌≡◌, inl, inr, ℕ, zero, suc, ◌+◌, ◌≤◌, Bool, true, false, List, [], ◌∷◌, ◌++◌, length, take, map, Some, slice_get, replicate, unwrap_or, refl, sym, ap, ◌∙◌, subst, arith}
use Rattle.std.specs.Prelude.{ℤ, pos, slice_set}
use Rattle.std.proofs.lemmas.Int.{ints}
use Rattle.std.proofs.lemmas.List.{map-append, length-map}
use Rattle.std.specs.FinMap.{get}
use Rattle.tb_pool.specs.Lists.{Lists, with_list}
use Rattle.tb_node.specs.declared.Float.{Float}
use Rattle.tb_float.specs.declared.Part.{Part}
use Rattle.tb_float.specs.declared.Part.TheVariants as parts
use Rattle.tb_float.specs.declared.Entry.{Entry}
use Rattle.tb_float.specs.declared.Entry.TheVariants as entries
use Rattle.tb_float.specs.declared.shelves.Shelves.{Shelves}
use Rattle.tb_float.specs.declared.by_part.ByPart.{ByPart}
use Rattle.tb_float.specs.Slots.{SlotView}
use Rattle.tb_float.specs.Lists.{sum_of_lists, live_count, entry_count, entries_of, floats_of, float_entries, float_before, without_place, IsWaiting, holds_notes}
use Rattle.tb_float.specs.Pool.{marks_of, with_contents, without_entry, with_floats_after, with_floats_before, without_entries, with_float_at}
use Rattle.tb_float.specs.Ranges.{IsRoom}
use Rattle.tb_float.specs.Rooms.{total_height}
use Rattle.tb_float.specs.ByPart.{of_part, with_part}
use Rattle.tb_float.specs.Shelves.{shelf_of, slots_of, AreShelves, entries_in, floats_in, marks_in, seen_lists, seen_pool, is_float, AreSlotsOf, slot_count, AreSound, HasPlaces, IsStored}
use Rattle.tb_float.proofs.ListLemmas.{map-without_place}
use Rattle.tb_float.proofs.PartLemmas.{part_cases, put, put-same, put-other, part-same, part-other}
use Rattle.tb_float.proofs.WaitingLemmas.{marks-given, contents-same}
use Rattle.tb_float.proofs.SlotLemmas.{floats_in-append, length-floats_in, entries-are_floats, slots-sum}
use Rattle.tb_float.proofs.ShelfLemmas.{slots-put, shelves-put}

-- ---- counts

pub count-put : (p : Part) (at : Part → List SlotView) (xs : List SlotView) → slot_count (put p xs at) + length (at p) ≡ slot_count at + length xs
count-put parts.Current at xs = omega arith
count-put p at xs = omega arith

pub count-of : (p : Part) (at : Part → List SlotView) → length (at p) ≤ slot_count at
count-of parts.Current at = omega arith
count-of p at = omega arith

-- ---- sums

sound-put : (p : Part) (xs : List SlotView) (w : ℤ) (at : Part → List SlotView) (h : ByPart ℤ) → AreSound at h → AreSlotsOf p xs → w ≡ total_height (floats_in xs) → AreSound (put p xs at) (with_part p w h)
sound-put p xs w at h sound slots is = record {
  slots = λ q. elim (part_cases q p) [
    | inl same ↦ subst (λ (r : Part). AreSlotsOf r (put p xs at r)) (sym same) (subst (AreSlotsOf p) (sym (put-same p xs at)) slots)
    | inr ne ↦ subst (AreSlotsOf q) (sym (put-other p q xs at ne)) (sound.slots q)
  ];
  heights_are = λ q. elim (part_cases q p) [
    | inl same ↦ ap (of_part (with_part p w h)) same ∙ part-same p w h ∙ is ∙ sym (ap (λ r. total_height (floats_in (put p xs at r))) same ∙ ap (λ ss. total_height (floats_in ss)) (put-same p xs at))
    | inr ne ↦ part-other p q w h ne ∙ sound.heights_are q ∙ sym (ap (λ ss. total_height (floats_in ss)) (put-other p q xs at ne))
  ];
}

-- one list was written: what the store holds then
pub record Written (new : Lists SlotView) (shelves : Shelves) (heights : ByPart ℤ) (size : ℕ) (at : Part → List SlotView) : Type 0 where
  pub stored : IsStored new shelves heights size
  pub slots : slots_of new shelves ≡ at

pub written : (store new : Lists SlotView) (sh : Shelves) (h : ByPart ℤ) (size : ℕ) (p : Part) (xs : List SlotView) (w : ℤ) → IsStored store sh h size
    → new.lists ≡ with_list store (shelf_of sh p) xs → AreSlotsOf p xs → w ≡ total_height (floats_in xs)
    → slot_count (slots_of store sh) + length xs ≤ size + length (slots_of store sh p) → new.spare + length xs ≡ store.spare + length (slots_of store sh p)
    → Written new sh (with_part p w h) size (put p xs (slots_of store sh))
written store new sh h size p xs w stored e slots is fits spare =
    let at = slots_of store sh in
    let now = slots-put store new sh p xs stored.shelves_are e in
    let counted = count-put p at xs in
    let old = stored.places in
    let places : HasPlaces (put p xs at) size new.spare = record { within = omega arith; room = omega arith; small = old.small } in
    record {
      stored = record {
        shelves_are = shelves-put store new sh p xs stored.shelves_are e;
        sound = subst (λ (f : Part → List SlotView). AreSound f (with_part p w h)) (sym now) (sound-put p xs w at h stored.sound slots is);
        places = subst (λ (f : Part → List SlotView). HasPlaces f size new.spare) (sym now) places;
      };
      slots = now;
    }

-- ---- what is seen

pub entry_count-seen : (p : Part) (at : Part → List SlotView) → AreSlotsOf p (at p) → entry_count p (seen_lists at) ≡ length (at p)
entry_count-seen parts.Current at h = length-map (at parts.Current) (λ s. s.entry)
entry_count-seen p at h = length-floats_in p (at p) refl h

pub entries_of-seen : (p : Part) (at : Part → List SlotView) → AreSlotsOf p (at p) → entries_of p (seen_lists at) ≡ entries_in (at p)
entries_of-seen parts.Current at h = refl
entries_of-seen p at h = sym (entries-are_floats p (at p) refl h)

pub floats_of-seen : (p : Part) (at : Part → List SlotView) → floats_of p (seen_lists at) ≡ floats_in (at p)
floats_of-seen parts.Current at = refl
floats_of-seen p at = refl

-- the marks that are seen of a list in which floats wait
pub marks_of-seen : (p : Part) (at : Part → List SlotView) (n : ℕ) → IsWaiting p → marks_of p (seen_pool at n) ≡ marks_in (at p)
marks_of-seen p at n is = marks-given p is (seen_lists at) (λ q. marks_in (at q)) n

pub live_count-seen : (at : Part → List SlotView) → ((p : Part) → AreSlotsOf p (at p)) → live_count (seen_lists at) ≡ slot_count at
live_count-seen at h = λ i. sum_of_lists (λ p. entry_count-seen p at (h p) i)

-- the sums that are kept are rooms
pub sums-are_rooms : (at : Part → List SlotView) (h : ByPart ℤ) (size spare : ℕ) (p : Part) → AreSound at h → HasPlaces at size spare → IsRoom (of_part h p)
sums-are_rooms at h size spare p sound places =
    let sum = slots-sum p (at p) (sound.slots p) in
    let few : length (at p) ≤ 4096 = omega (arith, count-of p at, places.within, places.small) in
    let low = sum.low in
    let high = sum.high in
    rw sound.heights_are (record { low = omega (arith, ints); high = omega (arith, ints) })

-- what is seen once one list was written
pub seen-put : (p : Part) (at : Part → List SlotView) (xs : List SlotView) (n : ℕ) → seen_pool (put p xs at) n ≡ with_contents p (entries_in xs) (floats_in xs) (marks_in xs) (seen_pool at n)
seen-put parts.Current at xs n = refl
seen-put p at xs n = refl

pub seen-after : (p : Part) (at : Part → List SlotView) (ss : List SlotView) (n : ℕ) → entries_in ss ≡ float_entries (floats_in ss) → marks_in ss ≡ replicate (length (floats_in ss)) false
    → seen_pool (put p (at p ++ ss) at) n ≡ with_floats_after p (floats_in ss) (seen_pool at n)
seen-after p at ss n are unmarked =
    seen-put p at (at p ++ ss) n
    ∙ contents-same p _ _ _ _ _ _ (seen_pool at n) (λ is. map-append (λ s. s.entry) (at p) ss ∙ (λ i. entries_in (at (is i)) ++ are i)) (λ no_notes. floats_in-append (at p) ss ∙ ap (λ fs. fs ++ floats_in ss) (sym (floats_of-seen p at)))
    (λ waits. map-append (λ s. s.marked) (at p) ss ∙ (λ i. sym (marks_of-seen p at n waits) i ++ unmarked i))

pub seen-before : (p : Part) (at : Part → List SlotView) (ss : List SlotView) (n : ℕ) → entries_in ss ≡ float_entries (floats_in ss) → marks_in ss ≡ replicate (length (floats_in ss)) false
    → seen_pool (put p (ss ++ at p) at) n ≡ with_floats_before p (floats_in ss) (seen_pool at n)
seen-before p at ss n are unmarked =
    seen-put p at (ss ++ at p) n
    ∙ contents-same p _ _ _ _ _ _ (seen_pool at n) (λ is. map-append (λ s. s.entry) ss (at p) ∙ (λ i. are i ++ entries_in (at (is i)))) (λ no_notes. floats_in-append ss (at p) ∙ ap (λ fs. floats_in ss ++ fs) (sym (floats_of-seen p at)))
    (λ waits. map-append (λ s. s.marked) ss (at p) ∙ (λ i. unmarked i ++ sym (marks_of-seen p at n waits) i))

float_before-without : (e : Entry) (k : ℕ) (fs : List Float) → is_float e ≡ true → float_before e (without_place k fs) ≡ without_place (suc k) (float_before e fs)
float_before-without (entries.Float f) k fs is = refl
float_before-without (entries.Left m) k fs is = cc
float_before-without (entries.Right m) k fs is = cc

float_before-gone : (e : Entry) (fs : List Float) → is_float e ≡ true → fs ≡ without_place 0 (float_before e fs)
float_before-gone (entries.Float f) fs is = refl
float_before-gone (entries.Left m) fs is = cc
float_before-gone (entries.Right m) fs is = cc

floats_in-without : (p : Part) (k : ℕ) (ss : List SlotView) → holds_notes p ≡ false → AreSlotsOf p ss → floats_in (without_place k ss) ≡ without_place k (floats_in ss)
floats_in-without p zero [] no_notes h = refl
floats_in-without p (suc k) [] no_notes h = refl
floats_in-without p zero (s ∷ ss) no_notes h = float_before-gone s.entry (floats_in ss) (h.0.float no_notes)
floats_in-without p (suc k) (s ∷ ss) no_notes h = ap (float_before s.entry) (floats_in-without p k ss no_notes h.1) ∙ float_before-without s.entry k (floats_in ss) (h.0.float no_notes)

float_before-take : (e : Entry) (k : ℕ) (fs : List Float) → is_float e ≡ true → float_before e (take k fs) ≡ take (suc k) (float_before e fs)
float_before-take (entries.Float f) k fs is = refl
float_before-take (entries.Left m) k fs is = cc
float_before-take (entries.Right m) k fs is = cc

pub floats_in-take : (p : Part) (k : ℕ) (ss : List SlotView) → holds_notes p ≡ false → AreSlotsOf p ss → floats_in (take k ss) ≡ take k (floats_in ss)
floats_in-take p zero ss no_notes h = refl
floats_in-take p (suc k) [] no_notes h = refl
floats_in-take p (suc k) (s ∷ ss) no_notes h = ap (float_before s.entry) (floats_in-take p k ss no_notes h.1) ∙ float_before-take s.entry k (floats_in ss) (h.0.float no_notes)

pub seen-without : (p : Part) (at : Part → List SlotView) (k n : ℕ) → AreSlotsOf p (at p) → seen_pool (put p (without_place k (at p)) at) n ≡ without_entry p k (seen_pool at n)
seen-without p at k n h =
    seen-put p at (without_place k (at p)) n
    ∙ contents-same p _ _ _ _ _ _ (seen_pool at n) (λ is. map-without_place (λ s. s.entry) k (at p) ∙ (λ i. without_place k (entries_in (at (is i))))) (λ no_notes. floats_in-without p k (at p) no_notes h ∙ ap (without_place k) (sym (floats_of-seen p at)))
    (λ waits. map-without_place (λ s. s.marked) k (at p) ∙ ap (without_place k) (sym (marks_of-seen p at n waits)))

pub seen-emptied : (p : Part) (at : Part → List SlotView) (n : ℕ) → seen_pool (put p [] at) n ≡ without_entries p (seen_pool at n)
seen-emptied p at n = seen-put p at [] n

pub map-set : {X Y : Type 0} (f : X → Y) (k : ℕ) (xs : List X) (x : X) → map f (slice_set xs k x) ≡ slice_set (map f xs) k (f x)
map-set f k [] x = refl
map-set f zero (y ∷ xs) x = refl
map-set f (suc k) (y ∷ xs) x = ap (λ zs. f y ∷ zs) (map-set f k xs x)

float_before-set : (e : Entry) (k : ℕ) (fs : List Float) (f : Float) → is_float e ≡ true → float_before e (slice_set fs k f) ≡ slice_set (float_before e fs) (suc k) f
float_before-set (entries.Float g) k fs f is = refl
float_before-set (entries.Left m) k fs f is = cc
float_before-set (entries.Right m) k fs f is = cc

float_before-other : (e : Entry) (fs : List Float) (f : Float) → is_float e ≡ true → f ∷ fs ≡ slice_set (float_before e fs) 0 f
float_before-other (entries.Float g) fs f is = refl
float_before-other (entries.Left m) fs f is = cc
float_before-other (entries.Right m) fs f is = cc

floats_in-set : (p : Part) (k : ℕ) (ss : List SlotView) (f : Float) (m : Bool) → holds_notes p ≡ false → AreSlotsOf p ss → floats_in (slice_set ss k (record { entry = entries.Float f; marked = m })) ≡ slice_set (floats_in ss) k f
floats_in-set p k [] f m no_notes h = refl
floats_in-set p zero (s ∷ ss) f m no_notes h = float_before-other s.entry (floats_in ss) f (h.0.float no_notes)
floats_in-set p (suc k) (s ∷ ss) f m no_notes h = ap (float_before s.entry) (floats_in-set p k ss f m no_notes h.1) ∙ float_before-set s.entry k (floats_in ss) f (h.0.float no_notes)

pub marks_in-set : (k : ℕ) (ss : List SlotView) (s : SlotView) (e : Entry) → slice_get ss k ≡ Some s → marks_in (slice_set ss k (record { entry = e; marked = s.marked })) ≡ marks_in ss
marks_in-set k [] s e was = refl
marks_in-set zero (t ∷ ss) s e was = let same : t ≡ s = grind arith in ap (λ r. r.marked ∷ marks_in ss) (sym same)
marks_in-set (suc k) (t ∷ ss) s e was = ap (λ ms. t.marked ∷ ms) (marks_in-set k ss s e was)

-- a float is put in the place of another entry, with the same mark
pub seen-set : (p : Part) (at : Part → List SlotView) (k : ℕ) (f : Float) (m : Bool) (n : ℕ) → AreSlotsOf p (at p) → marks_in (slice_set (at p) k (record { entry = entries.Float f; marked = m })) ≡ marks_in (at p)
    → seen_pool (put p (slice_set (at p) k (record { entry = entries.Float f; marked = m })) at) n ≡ with_float_at p k f (seen_pool at n)
seen-set p at k f m n h marks =
    let u : SlotView = record { entry = entries.Float f; marked = m } in
    seen-put p at (slice_set (at p) k u) n
    ∙ contents-same p _ _ _ _ _ _ (seen_pool at n) (λ is. map-set {X = SlotView} (λ s. s.entry) k (at p) u ∙ (λ i. slice_set (entries_in (at (is i))) k (entries.Float f))) (λ no_notes. floats_in-set p k (at p) f m no_notes h ∙ ap (λ fs. slice_set fs k f) (sym (floats_of-seen p at)))
    (λ waits. marks ∙ sym (marks_of-seen p at n waits))

-- ---- a new pool

same-shelves : (store new : Lists SlotView) (sh : Shelves) → AreShelves store sh → new.lists ≡ store.lists → AreShelves new sh
same-shelves store new sh k e = record {
  live = λ p. rw e (k.live p);
  one_live = rw e k.one_live;
  rest_live = rw e k.rest_live;
  apart = k.apart;
  one_apart = k.one_apart;
  rest_apart = k.rest_apart;
  helpers_apart = k.helpers_apart;
  one_empty = rw e k.one_empty;
  rest_empty = rw e k.rest_empty;
}

pub stored-new : (store new : Lists SlotView) (sh : Shelves) (h : ByPart ℤ) (size : ℕ) → AreShelves store sh → ((p : Part) → slots_of store sh p ≡ []) → new.lists ≡ store.lists
    → size ≤ new.spare → size ≤ 4096 → ((p : Part) → of_part h p ≡ pos 0) → Written new sh h size (λ p. [])
stored-new store new sh h size k empty e room small none =
    let now : slots_of new sh ≡ (λ p. []) = λ i p. (ap (λ m. unwrap_or (get m (shelf_of sh p)) []) e ∙ empty p) i in
    let sound : AreSound (λ p. []) h = record { slots = λ p. tt; heights_are = none } in
    let places : HasPlaces (λ p. []) size new.spare = record { within = omega arith; room = omega arith; small = small } in
    record {
      stored = record {
        shelves_are = same-shelves store new sh k e;
        sound = subst (λ (f : Part → List SlotView). AreSound f h) (sym now) sound;
        places = subst (λ (f : Part → List SlotView). HasPlaces f size new.spare) (sym now) places;
      };
      slots = now;
    }
