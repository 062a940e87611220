-- The classes that a pool knows, and how many of its floats are chosen.
use Rattle.std.proofs.Common.{◌≡◌, ℕ, zero, suc, ◌+◌, ◌-◌, ◌≤◌, Bool, true, false, List, [], ◌∷◌, ◌++◌, length, take, drop, Some, slice_get, replicate, sym, ap, subst, ◌∙◌, arith}
use Rattle.std.specs.Prelude.{ℤ, ◌≤ℤ◌, slice_set}
use Rattle.std.proofs.lemmas.Int.{ints}
use Rattle.std.specs.List.{AllByRecursion}
use Rattle.std.proofs.lemmas.List.{append-nil, nil_from_length}
use Rattle.tb_node.specs.declared.Float.{Float}
use Rattle.tb_pool.specs.Lists.{Lists}
use Rattle.tb_float.specs.declared.Part.{Part}
use Rattle.tb_float.specs.declared.Part.TheVariants as parts
use Rattle.tb_float.specs.declared.Entry.{Entry}
use Rattle.tb_float.specs.declared.Entry.TheVariants as entries
use Rattle.tb_float.specs.declared.shelves.Shelves.{Shelves}
use Rattle.tb_float.specs.declared.by_part.ByPart.{ByPart}
use Rattle.tb_float.specs.declared.classes.ClassSet.{ClassSet}
use Rattle.tb_float.specs.Slots.{SlotView}
use Rattle.tb_float.specs.Lists.{FloatLists, entries_of, live_count, floats_of, floats_among, float_before, float_entries, without_place, no_floats, IsWaiting}
use Rattle.tb_float.specs.Classes.{AreAtLeast, AreKnown, AreMarkedFrom, IsTracked, Tracks, chosen_count, set_count}
use Rattle.tb_float.specs.declared.firsts.Firsts.{Firsts}
use Rattle.tb_float.specs.Firsts.{KnowsFirsts}
use Rattle.tb_float.specs.Shelves.{seen_pool, slots_of, IsStored, IsPooled}
use Rattle.tb_float.specs.Pool.{FloatPool, marks_of, marked_among, marked_floats, with_contents, with_current, with_floats_after, without_entry, without_entries, without_marks, moved_float, joined_before, with_float_at, flagged, with_flags, with_mark, with_marks_of}
use Rattle.tb_float.proofs.WaitingLemmas.{HasAllMarks, marks-count, lists-marked}
use Rattle.tb_float.proofs.MarkLemmas.{marked-none, marked-false, marked-append, marks-without_entry, length-replicate_false}

-- ---- what is known of floats, list by list

known-append : (P : Float → Type 0) (fs gs : List Float) → AllByRecursion P fs → AllByRecursion P gs → AllByRecursion P (fs ++ gs)
known-append P [] gs h k = k
known-append P (f ∷ fs) gs h k = (h.0, known-append P fs gs h.1 k)

known-without : (P : Float → Type 0) (n : ℕ) (fs : List Float) → AllByRecursion P fs → AllByRecursion P (without_place n fs)
known-without P zero [] h = tt
known-without P (suc n) [] h = tt
known-without P zero (f ∷ fs) h = h.1
known-without P (suc n) (f ∷ fs) h = (h.0, known-without P n fs h.1)

known-set : (P : Float → Type 0) (n : ℕ) (f : Float) (fs : List Float) → AllByRecursion P (f ∷ []) → AllByRecursion P fs → AllByRecursion P (slice_set fs n f)
known-set P n f [] k h = tt
known-set P zero f (g ∷ fs) k h = (k.0, h.1)
known-set P (suc n) f (g ∷ fs) k h = (h.0, known-set P n f fs k h.1)

-- among entries
among-there : (P : Float → Type 0) (n : ℕ) (f : Float) (es : List Entry) → AllByRecursion P (floats_among es) → slice_get es n ≡ Some (entries.Float f) → AllByRecursion P (f ∷ [])
among-there P n f [] h got = cc
among-there P zero f (entries.Float g ∷ es) h got = let same : g ≡ f = cc in (subst P same h.0, tt)
among-there P zero f (entries.Left m ∷ es) h got = cc
among-there P zero f (entries.Right m ∷ es) h got = cc
among-there P (suc n) f (entries.Float g ∷ es) h got = among-there P n f es h.1 got
among-there P (suc n) f (entries.Left m ∷ es) h got = among-there P n f es h got
among-there P (suc n) f (entries.Right m ∷ es) h got = among-there P n f es h got

floats-there : (P : Float → Type 0) (n : ℕ) (f : Float) (fs : List Float) → AllByRecursion P fs → slice_get (float_entries fs) n ≡ Some (entries.Float f) → AllByRecursion P (f ∷ [])
floats-there P n f [] h got = cc
floats-there P zero f (g ∷ fs) h got = let same : g ≡ f = cc in (subst P same h.0, tt)
floats-there P (suc n) f (g ∷ fs) h got = floats-there P n f fs h.1 got

pub known-entry : (P : Float → Type 0) (p : Part) (n : ℕ) (f : Float) (l : FloatLists) → AllByRecursion P (floats_of p l) → slice_get (entries_of p l) n ≡ Some (entries.Float f) → AllByRecursion P (f ∷ [])
known-entry P parts.Current n f l h got = among-there P n f l.current h got
known-entry P parts.Here n f l h got = floats-there P n f l.here h got
known-entry P parts.Top n f l h got = floats-there P n f l.top h got
known-entry P parts.Bottom n f l h got = floats-there P n f l.bottom h got
known-entry P parts.Deferred n f l h got = floats-there P n f l.deferred h got
known-entry P parts.Double n f l h got = floats-there P n f l.double h got
known-entry P parts.Second n f l h got = floats-there P n f l.second h got

among-append : (P : Float → Type 0) (es ds : List Entry) → AllByRecursion P (floats_among es) → AllByRecursion P (floats_among ds) → AllByRecursion P (floats_among (es ++ ds))
among-append P [] ds h k = k
among-append P (entries.Float f ∷ es) ds h k = (h.0, among-append P es ds h.1 k)
among-append P (entries.Left m ∷ es) ds h k = among-append P es ds h k
among-append P (entries.Right m ∷ es) ds h k = among-append P es ds h k

among-floats : (P : Float → Type 0) (fs : List Float) → AllByRecursion P fs → AllByRecursion P (floats_among (float_entries fs))
among-floats P [] h = tt
among-floats P (f ∷ fs) h = (h.0, among-floats P fs h.1)

among-rest : (P : Float → Type 0) (e : Entry) (fs : List Float) → AllByRecursion P (float_before e fs) → AllByRecursion P fs
among-rest P (entries.Float f) fs h = h.1
among-rest P (entries.Left m) fs h = h
among-rest P (entries.Right m) fs h = h

among-first : (P : Float → Type 0) (e : Entry) (fs gs : List Float) → AllByRecursion P (float_before e fs) → AllByRecursion P gs → AllByRecursion P (float_before e gs)
among-first P (entries.Float f) fs gs h k = (h.0, k)
among-first P (entries.Left m) fs gs h k = k
among-first P (entries.Right m) fs gs h k = k

among-without : (P : Float → Type 0) (n : ℕ) (es : List Entry) → AllByRecursion P (floats_among es) → AllByRecursion P (floats_among (without_place n es))
among-without P zero [] h = tt
among-without P (suc n) [] h = tt
among-without P zero (e ∷ es) h = among-rest P e (floats_among es) h
among-without P (suc n) (e ∷ es) h = among-first P e (floats_among es) (floats_among (without_place n es)) h (among-without P n es (among-rest P e (floats_among es) h))

among-set : (P : Float → Type 0) (n : ℕ) (f : Float) (es : List Entry) → AllByRecursion P (f ∷ []) → AllByRecursion P (floats_among es) → AllByRecursion P (floats_among (slice_set es n (entries.Float f)))
among-set P n f [] k h = tt
among-set P zero f (e ∷ es) k h = (k.0, among-rest P e (floats_among es) h)
among-set P (suc n) f (e ∷ es) k h = among-first P e (floats_among es) (floats_among (slice_set es n (entries.Float f))) h (among-set P n f es k (among-rest P e (floats_among es) h))

-- ---- how many are chosen

count-without : (n : ℕ) (ms : List Bool) (fs : List Float) → length (marked_among (without_place n ms) (without_place n fs)) ≤ length (marked_among ms fs)
count-without zero [] fs = omega arith
count-without (suc n) [] fs = omega arith
count-without zero (m ∷ ms) [] = omega (arith, ap length (marked-none ms))
count-without (suc n) (m ∷ ms) [] = omega arith
count-without zero (true ∷ ms) (f ∷ fs) = omega arith
count-without zero (false ∷ ms) (f ∷ fs) = omega arith
count-without (suc n) (true ∷ ms) (f ∷ fs) = omega (arith, count-without n ms fs)
count-without (suc n) (false ∷ ms) (f ∷ fs) = count-without n ms fs

count-set : (n : ℕ) (f : Float) (ms : List Bool) (fs : List Float) → length (marked_among ms (slice_set fs n f)) ≤ length (marked_among ms fs)
count-set n f [] fs = omega arith
count-set n f (m ∷ ms) [] = omega arith
count-set zero f (true ∷ ms) (g ∷ fs) = omega arith
count-set zero f (false ∷ ms) (g ∷ fs) = omega arith
count-set (suc n) f (true ∷ ms) (g ∷ fs) = omega (arith, count-set n f ms fs)
count-set (suc n) f (false ∷ ms) (g ∷ fs) = count-set n f ms fs

count-mark : (n : ℕ) (ms : List Bool) (fs : List Float) → length (marked_among (slice_set ms n true) fs) ≤ length (marked_among ms fs) + 1
count-mark n [] fs = omega arith
count-mark zero (m ∷ ms) [] = omega arith
count-mark (suc n) (m ∷ ms) [] = omega arith
count-mark zero (true ∷ ms) (f ∷ fs) = omega arith
count-mark zero (false ∷ ms) (f ∷ fs) = omega arith
count-mark (suc n) (true ∷ ms) (f ∷ fs) = omega (arith, count-mark n ms fs)
count-mark (suc n) (false ∷ ms) (f ∷ fs) = count-mark n ms fs

pub marked-few : (ms : List Bool) (fs : List Float) → length (marked_among ms fs) ≤ length fs
marked-few [] fs = omega arith
marked-few (m ∷ ms) [] = omega arith
marked-few (true ∷ ms) (f ∷ fs) = omega (arith, marked-few ms fs)
marked-few (false ∷ ms) (f ∷ fs) = omega (arith, marked-few ms fs)

-- no more than live in the pool
pub few-chosen : (v : FloatPool) → chosen_count v ≤ live_count v.lists
few-chosen v = omega (arith, marked-few v.marks v.lists.deferred, marked-few v.second_marks v.lists.second)

-- if none is chosen, none is marked
pub all-unmarked : (p : Part) (P : Float → Type 0) (v : FloatPool) → IsWaiting p → Tracks P 0 v → marked_floats p v ≡ []
all-unmarked parts.Deferred P v w t = nil_from_length (marked_floats parts.Deferred v) (omega (arith, t.few))
all-unmarked parts.Second P v w t = nil_from_length (marked_floats parts.Second v) (omega (arith, t.few))
all-unmarked p P v w t = absurd w

-- ---- what one list holds is written

known-contents : (P : Float → Type 0) (p q : Part) (es : List Entry) (fs : List Float) (ms : List Bool) (v : FloatPool) → AllByRecursion P (floats_among es) → AllByRecursion P fs → AllByRecursion P (floats_of q v.lists) → AllByRecursion P (floats_of q (with_contents p es fs ms v).lists)
known-contents P parts.Current parts.Current es fs ms v e f h = e
known-contents P parts.Current q es fs ms v e f h = h
known-contents P parts.Here parts.Here es fs ms v e f h = f
known-contents P parts.Top parts.Top es fs ms v e f h = f
known-contents P parts.Bottom parts.Bottom es fs ms v e f h = f
known-contents P parts.Deferred parts.Deferred es fs ms v e f h = f
known-contents P parts.Double parts.Double es fs ms v e f h = f
known-contents P parts.Second parts.Second es fs ms v e f h = f
known-contents P p q es fs ms v e f h = h

chosen-contents : (p : Part) (es : List Entry) (fs : List Float) (ms : List Bool) (v : FloatPool) (more n : ℕ) → chosen_count v ≤ n → (IsWaiting p → length (marked_among ms fs) ≤ length (marked_floats p v) + more) → chosen_count (with_contents p es fs ms v) ≤ n + more
chosen-contents parts.Deferred es fs ms v more n h k = omega (arith, h, k tt)
chosen-contents parts.Second es fs ms v more n h k = omega (arith, h, k tt)
chosen-contents p es fs ms v more n h k = omega (arith, h)

contents-tracked : (P : Float → Type 0) (n : ℕ) (p : Part) (es : List Entry) (fs : List Float) (ms : List Bool) (v : FloatPool) → Tracks P n v → AllByRecursion P (floats_among es) → AllByRecursion P fs → (IsWaiting p → length (marked_among ms fs) ≤ length (marked_floats p v)) → Tracks P n (with_contents p es fs ms v)
contents-tracked P n p es fs ms v t e f k = record {
  floats = λ q. known-contents P p q es fs ms v e f (t.floats q);
  few = omega (arith, chosen-contents p es fs ms v 0 n t.few (λ w. omega (arith, k w)));
}

-- ---- the calls of the pool

pub tracked-new : (P : Float → Type 0) (n : ℕ) → Tracks P 0 (record { lists = no_floats; marks = []; second_marks = []; size = n })
tracked-new P n = record { floats = none; few = omega arith }
  where
    none : (p : Part) → AllByRecursion P (floats_of p no_floats)
    none parts.Current = tt
    none p = tt

pub tracked-put : (P Q : Float → Type 0) (n : ℕ) (e : Entry) (v : FloatPool) → Tracks P n v → ((fs : List Float) → AllByRecursion P fs → AllByRecursion Q fs) → AllByRecursion Q (float_before e []) → Tracks Q n (with_current (e ∷ []) v)
tracked-put P Q n e v t grows k = record { floats = by_part; few = t.few }
  where
    by_part : (p : Part) → AllByRecursion Q (floats_of p (with_current (e ∷ []) v).lists)
    by_part parts.Current = among-append Q v.lists.current (e ∷ []) (grows (floats_among v.lists.current) (t.floats parts.Current)) k
    by_part parts.Here = grows v.lists.here (t.floats parts.Here)
    by_part parts.Top = grows v.lists.top (t.floats parts.Top)
    by_part parts.Bottom = grows v.lists.bottom (t.floats parts.Bottom)
    by_part parts.Deferred = grows v.lists.deferred (t.floats parts.Deferred)
    by_part parts.Double = grows v.lists.double (t.floats parts.Double)
    by_part parts.Second = grows v.lists.second (t.floats parts.Second)

pub tracked-without : (P : Float → Type 0) (n : ℕ) (p : Part) (k : ℕ) (v : FloatPool) → Tracks P n v → Tracks P n (without_entry p k v)
tracked-without P n p k v t =
    contents-tracked P n p (without_place k v.lists.current) (without_place k (floats_of p v.lists)) (without_place k (marks_of p v)) v t
    (among-without P k v.lists.current (t.floats parts.Current)) (known-without P k (floats_of p v.lists) (t.floats p)) (λ w. count-without k (marks_of p v) (floats_of p v.lists))

tracked-after : (P : Float → Type 0) (n : ℕ) (p : Part) (fs : List Float) (v : FloatPool) → HasAllMarks v → Tracks P n v → AllByRecursion P fs → Tracks P n (with_floats_after p fs v)
tracked-after P n p fs v same t k =
    let ms = marks_of p v in
    let gs = floats_of p v.lists in
    let ns = replicate (length fs) false in
    contents-tracked P n p (v.lists.current ++ float_entries fs) (gs ++ fs) (ms ++ ns) v t
    (among-append P v.lists.current (float_entries fs) (t.floats parts.Current) (among-floats P fs k)) (known-append P gs fs (t.floats p) k)
    (λ w. omega (arith, ap length (marked-append ms ns gs fs (marks-count p w v same.deferred same.second) ∙ ap (λ hs. marked_among ms gs ++ hs) (marked-false (length fs) fs) ∙ append-nil (marked_among ms gs))))

pub tracked-moved : (P : Float → Type 0) (n : ℕ) (from : Part) (k : ℕ) (to : Part) (f : Float) (v : FloatPool) → HasAllMarks v → Tracks P n v → AllByRecursion P (f ∷ []) → Tracks P n (moved_float from k to f v)
tracked-moved P n from k to f v same t is =
    tracked-after P n to (f ∷ []) (without_entry from k v) (marks-without_entry from k v same) (tracked-without P n from k v t) is

pub tracked-joined : (P : Float → Type 0) (n : ℕ) (from to : Part) (v : FloatPool) → Tracks P n v → Tracks P n (joined_before from to v)
tracked-joined P n from to v t =
    let fs = floats_of from v.lists in
    let u = without_entries from v in
    let ms = marks_of to u in
    let gs = floats_of to u.lists in
    let ns = replicate (length fs) false in
    let bare = contents-tracked P n from [] [] [] v t tt tt (λ w. omega arith) in
    contents-tracked P n to (float_entries fs ++ u.lists.current) (fs ++ gs) (ns ++ ms) u bare
    (among-append P (float_entries fs) u.lists.current (among-floats P fs (t.floats from)) (bare.floats parts.Current)) (known-append P fs gs (t.floats from) (bare.floats to))
    (λ w. omega (arith, ap length (marked-append ns ms fs gs (length-replicate_false (length fs)) ∙ ap (λ hs. hs ++ marked_among ms gs) (marked-false (length fs) fs))))

pub tracked-set : (P : Float → Type 0) (n : ℕ) (p : Part) (k : ℕ) (f : Float) (v : FloatPool) → Tracks P n v → AllByRecursion P (f ∷ []) → Tracks P n (with_float_at p k f v)
tracked-set P n p k f v t is =
    contents-tracked P n p (slice_set v.lists.current k (entries.Float f)) (slice_set (floats_of p v.lists) k f) (marks_of p v) v t
    (among-set P k f v.lists.current is (t.floats parts.Current)) (known-set P k f (floats_of p v.lists) is (t.floats p)) (λ w. count-set k f (marks_of p v) (floats_of p v.lists))

known-marks : (P : Float → Type 0) (p : Part) (ms : List Bool) (v : FloatPool) → ((q : Part) → AllByRecursion P (floats_of q v.lists)) → (q : Part) → AllByRecursion P (floats_of q (with_marks_of p ms v).lists)
known-marks P p ms v h q = subst (λ l. AllByRecursion P (floats_of q l)) (sym (lists-marked p ms v)) (h q)

pub tracked-mark : (P : Float → Type 0) (n m : ℕ) (p : Part) (k : ℕ) (v : FloatPool) → Tracks P n v → ((c : ℕ) → c ≤ n + 1 → c ≤ 4096 → c ≤ m) → live_count v.lists ≤ 4096 → Tracks P m (with_mark p k v)
tracked-mark P n m p k v t more few = record {
  floats = known-marks P p (slice_set (marks_of p v) k true) v t.floats;
  few = more (chosen_count (with_mark p k v)) (by_part p) (omega (arith, few, few-chosen (with_mark p k v), ap live_count (lists-marked p (slice_set (marks_of p v) k true) v)));
}
  where
    by_part : (q : Part) → chosen_count (with_mark q k v) ≤ n + 1
    by_part parts.Deferred = omega (arith, t.few, count-mark k v.marks v.lists.deferred)
    by_part parts.Second = omega (arith, t.few, count-mark k v.second_marks v.lists.second)
    by_part q = omega (arith, t.few)

count-flagged : (bs ms : List Bool) (fs : List Float) → length (marked_among (flagged bs ms) fs) ≤ length (marked_among ms fs) + set_count bs
count-flagged [] ms fs = omega arith
count-flagged (b ∷ bs) [] fs = omega arith
count-flagged (b ∷ bs) (m ∷ ms) [] = omega arith
count-flagged (true ∷ bs) (true ∷ ms) (f ∷ fs) = omega (arith, count-flagged bs ms fs)
count-flagged (true ∷ bs) (false ∷ ms) (f ∷ fs) = omega (arith, count-flagged bs ms fs)
count-flagged (false ∷ bs) (true ∷ ms) (f ∷ fs) = omega (arith, count-flagged bs ms fs)
count-flagged (false ∷ bs) (false ∷ ms) (f ∷ fs) = omega (arith, count-flagged bs ms fs)

count-flags : (k : ℕ) (bs ms : List Bool) (fs : List Float) → length (marked_among (take k ms ++ flagged bs (drop k ms)) fs) ≤ length (marked_among ms fs) + set_count bs
count-flags zero bs ms fs = count-flagged bs ms fs
count-flags (suc k) bs [] fs = count-flagged bs [] fs
count-flags (suc k) bs (m ∷ ms) [] = omega arith
count-flags (suc k) bs (true ∷ ms) (f ∷ fs) = omega (arith, count-flags k bs ms fs)
count-flags (suc k) bs (false ∷ ms) (f ∷ fs) = omega (arith, count-flags k bs ms fs)

pub tracked-flags : (P : Float → Type 0) (n m more : ℕ) (p : Part) (k : ℕ) (bs : List Bool) (v : FloatPool) → Tracks P n v → more ≡ set_count bs → ((c : ℕ) → c ≤ n + more → c ≤ 4096 → c ≤ m) → live_count v.lists ≤ 4096 → Tracks P m (with_flags p k bs v)
tracked-flags P n m more p k bs v t set grows few = record {
  floats = known-marks P p (take k (marks_of p v) ++ flagged bs (drop k (marks_of p v))) v t.floats;
  few = grows (chosen_count (with_flags p k bs v)) (by_part p) (omega (arith, few, few-chosen (with_flags p k bs v), ap live_count (lists-marked p (take k (marks_of p v) ++ flagged bs (drop k (marks_of p v))) v)));
}
  where
    by_part : (q : Part) → chosen_count (with_flags q k bs v) ≤ n + more
    by_part parts.Deferred = omega (arith, t.few, set, count-flags k bs v.marks v.lists.deferred)
    by_part parts.Second = omega (arith, t.few, set, count-flags k bs v.second_marks v.lists.second)
    by_part q = omega (arith, t.few)

pub tracked-unmarked : (P : Float → Type 0) (n : ℕ) (p : Part) (v : FloatPool) → Tracks P n v → Tracks P n (without_marks p v)
tracked-unmarked P n p v t = record { floats = known-marks P p (replicate (length (marks_of p v)) false) v t.floats; few = by_part p }
  where
    by_part : (q : Part) → chosen_count (without_marks q v) ≤ n
    by_part parts.Deferred = omega (arith, t.few, ap length (marked-false (length v.marks) v.lists.deferred))
    by_part parts.Second = omega (arith, t.few, ap length (marked-false (length v.second_marks) v.lists.second))
    by_part q = omega (arith, t.few)

-- one that was marked has left
pub tracked-fewer : (P : Float → Type 0) (n : ℕ) (p : Part) (k : ℕ) (f : Float) (v : FloatPool) → IsWaiting p → Tracks P n v → marked_floats p v ≡ f ∷ marked_floats p (without_entry p k v) → Tracks P (n - 1) (without_entry p k v)
tracked-fewer P n p k f v w t first = record { floats = (tracked-without P n p k v t).floats; few = by_part p w first }
  where
    by_part : (q : Part) → IsWaiting q → marked_floats q v ≡ f ∷ marked_floats q (without_entry q k v) → chosen_count (without_entry q k v) ≤ n - 1
    by_part parts.Deferred w e = omega (arith, t.few, ap length e)
    by_part parts.Second w e = omega (arith, t.few, ap length e)
    by_part q w e = absurd w

-- ---- what is known of each float

pub known-floats : (known : List Bool) (least : ℤ) (fs : List Float) → AllByRecursion (IsTracked known least) fs → AreKnown known fs
known-floats known least [] h = tt
known-floats known least (f ∷ fs) h = (h.0.0, known-floats known least fs h.1)

pub least-floats : (known : List Bool) (least : ℤ) (fs : List Float) → AllByRecursion (IsTracked known least) fs → AreAtLeast least fs
least-floats known least [] h = tt
least-floats known least (f ∷ fs) h = (h.0.1, least-floats known least fs h.1)

lower-floats : (low least : ℤ) (fs : List Float) → low ≤ℤ least → AreAtLeast least fs → AreAtLeast low fs
lower-floats low least [] le h = tt
lower-floats low least (f ∷ fs) le h = (omega (arith, ints, le, h.0), lower-floats low least fs le h.1)

pub tracked-both : (known : List Bool) (least : ℤ) (fs : List Float) → AreKnown known fs → AreAtLeast least fs → AllByRecursion (IsTracked known least) fs
tracked-both known least [] k h = tt
tracked-both known least (f ∷ fs) k h = ((k.0, h.0), tracked-both known least fs k.1 h.1)

-- more classes are known, and a lower height
pub tracked-more : (known more : List Bool) (least low : ℤ) → ((fs : List Float) → AreKnown known fs → AreKnown more fs) → low ≤ℤ least → (fs : List Float) → AllByRecursion (IsTracked known least) fs → AllByRecursion (IsTracked more low) fs
tracked-more known more least low grows le fs h =
    tracked-both more low fs (grows fs (known-floats known least fs h)) (lower-floats low least fs le (least-floats known least fs h))

-- ---- a pool that is stored

pub pooled-marked : (store : Lists SlotView) (sh : Shelves) (h : ByPart ℤ) (size : ℕ) (known : ClassSet) (chosen : ℕ) (least : ℤ) (marks_from : ℕ) (firsts : Firsts) (v : FloatPool) → IsStored store sh h size → seen_pool (slots_of store sh) size ≡ v → Tracks (IsTracked known.flags least) chosen v → AreMarkedFrom marks_from v → KnowsFirsts firsts v.lists → IsPooled store sh h size known chosen least marks_from firsts
pooled-marked store sh h size known chosen least marks_from firsts v s e t m k =
    record { stored = s; tracked = subst (Tracks (IsTracked known.flags least) chosen) (sym e) t; marked_from = subst (AreMarkedFrom marks_from) (sym e) m; firsts_known = subst (λ (u : FloatPool). KnowsFirsts firsts u.lists) (sym e) k }

pub pooled : (store : Lists SlotView) (sh : Shelves) (h : ByPart ℤ) (size : ℕ) (known : ClassSet) (chosen : ℕ) (least : ℤ) (firsts : Firsts) (v : FloatPool) → IsStored store sh h size → seen_pool (slots_of store sh) size ≡ v → Tracks (IsTracked known.flags least) chosen v → KnowsFirsts firsts v.lists → IsPooled store sh h size known chosen least 0 firsts
pooled store sh h size known chosen least firsts v s e t k =
    pooled-marked store sh h size known chosen least 0 firsts v s e t (record { deferred = λ k at. omega arith; second = λ k at. omega arith }) k
