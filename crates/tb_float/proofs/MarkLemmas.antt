-- The marks of floats that wait.
use Rattle.std.proofs.Common.{◌≡◌, ℕ, zero, suc, ◌≤◌, Bool, true, false, List, [], ◌∷◌, ◌++◌, length, Some, slice_get, replicate, refl, sym, ap, ◌∙◌, arith}
use Rattle.std.specs.Prelude.{slice_set}
use Rattle.tb_node.specs.declared.Float.{Float}
use Rattle.tb_float.specs.declared.Part.{Part}
use Rattle.tb_float.specs.declared.Entry.TheVariants as entries
use Rattle.tb_float.specs.Lists.{without_place, float_entries, floats_of, IsWaiting}
use Rattle.tb_float.specs.Pool.{FloatPool, HasNoMarks, marks_of, unmarked_floats, marked_among, unmarked_among, marked_floats, first_marked, with_floats_after, with_floats_before, without_entry, without_entries, moved_float, joined_before, with_float_at}
use Rattle.tb_float.proofs.WaitingLemmas.{HasAllMarks, marks-count, none-chosen, contents-unmarked, contents-marked, floats-contents, marks-contents}

pub marked-none : (ms : List Bool) → marked_among ms [] ≡ []
marked-none [] = refl
marked-none (m ∷ ms) = refl

-- if no mark is set, no float is marked
pub marked-false : (n : ℕ) (fs : List Float) → marked_among (replicate n false) fs ≡ []
marked-false zero fs = refl
marked-false (suc n) [] = refl
marked-false (suc n) (f ∷ fs) = marked-false n fs

pub marked-append : (ms ns : List Bool) (fs gs : List Float) → length ms ≡ length fs → marked_among (ms ++ ns) (fs ++ gs) ≡ marked_among ms fs ++ marked_among ns gs
marked-append [] ns [] gs e = refl
marked-append [] ns (f ∷ fs) gs e = absurd (omega arith)
marked-append (m ∷ ms) ns [] gs e = absurd (omega arith)
marked-append (true ∷ ms) ns (f ∷ fs) gs e = ap (λ hs. f ∷ hs) (marked-append ms ns fs gs (omega arith))
marked-append (false ∷ ms) ns (f ∷ fs) gs e = marked-append ms ns fs gs (omega arith)

-- if none is marked, none is without one of them
marked-without : (k : ℕ) (ms : List Bool) (fs : List Float) → marked_among ms fs ≡ [] → marked_among (without_place k ms) (without_place k fs) ≡ []
marked-without zero [] fs e = refl
marked-without (suc k) [] fs e = refl
marked-without zero (m ∷ ms) [] e = marked-none ms
marked-without (suc k) (m ∷ ms) [] e = refl
marked-without zero (true ∷ ms) (f ∷ fs) e = cc
marked-without zero (false ∷ ms) (f ∷ fs) e = e
marked-without (suc k) (true ∷ ms) (f ∷ fs) e = cc
marked-without (suc k) (false ∷ ms) (f ∷ fs) e = marked-without k ms fs e

marked-set : (k : ℕ) (f : Float) (ms : List Bool) (fs : List Float) → marked_among ms fs ≡ [] → marked_among ms (slice_set fs k f) ≡ []
marked-set k f [] fs e = refl
marked-set k f (m ∷ ms) [] e = refl
marked-set zero f (true ∷ ms) (g ∷ fs) e = cc
marked-set zero f (false ∷ ms) (g ∷ fs) e = e
marked-set (suc k) f (true ∷ ms) (g ∷ fs) e = cc
marked-set (suc k) f (false ∷ ms) (g ∷ fs) e = marked-set k f ms fs e

pub unmarked-without_entry : (p : Part) (k : ℕ) (v : FloatPool) → HasNoMarks v → HasNoMarks (without_entry p k v)
unmarked-without_entry p k v e =
    let ms = marks_of p v in
    let fs = floats_of p v.lists in
    contents-unmarked p (without_place k v.lists.current) (without_place k fs) (without_place k ms) v e (λ w. marked-without k ms fs (none-chosen p w v e))

unmarked-after : (p : Part) (fs : List Float) (v : FloatPool) → HasAllMarks v → HasNoMarks v → HasNoMarks (with_floats_after p fs v)
unmarked-after p fs v same e =
    let ms = marks_of p v in
    let gs = floats_of p v.lists in
    let ns = replicate (length fs) false in
    contents-unmarked p (v.lists.current ++ float_entries fs) (gs ++ fs) (ms ++ ns) v e
    (λ w. marked-append ms ns gs fs (marks-count p w v same.deferred same.second) ∙ ap (λ hs. hs ++ marked_among ns fs) (none-chosen p w v e) ∙ marked-false (length fs) fs)

pub length-replicate_false : (n : ℕ) → length (replicate n false) ≡ n
length-replicate_false zero = refl
length-replicate_false (suc n) = omega (arith, length-replicate_false n)

unmarked-before : (p : Part) (fs : List Float) (v : FloatPool) → HasNoMarks v → HasNoMarks (with_floats_before p fs v)
unmarked-before p fs v e =
    let ms = marks_of p v in
    let gs = floats_of p v.lists in
    let ns = replicate (length fs) false in
    contents-unmarked p (float_entries fs ++ v.lists.current) (fs ++ gs) (ns ++ ms) v e
    (λ w. marked-append ns ms fs gs (length-replicate_false (length fs)) ∙ ap (λ hs. hs ++ marked_floats p v) (marked-false (length fs) fs) ∙ none-chosen p w v e)

unmarked-without_entries : (p : Part) (v : FloatPool) → HasNoMarks v → HasNoMarks (without_entries p v)
unmarked-without_entries p v e = contents-unmarked p [] [] [] v e (λ w. refl)

length-without_same : {X Y : Type 0} (k : ℕ) (xs : List X) (ys : List Y) → length xs ≡ length ys → length (without_place k xs) ≡ length (without_place k ys)
length-without_same zero [] [] e = refl
length-without_same (suc k) [] [] e = refl
length-without_same k [] (y ∷ ys) e = absurd (omega arith)
length-without_same k (x ∷ xs) [] e = absurd (omega arith)
length-without_same zero (x ∷ xs) (y ∷ ys) e = omega arith
length-without_same (suc k) (x ∷ xs) (y ∷ ys) e = ap suc (length-without_same k xs ys (omega arith))

pub marks-without_entry : (p : Part) (k : ℕ) (v : FloatPool) → HasAllMarks v → HasAllMarks (without_entry p k v)
marks-without_entry p k v e =
    let ms = marks_of p v in
    let fs = floats_of p v.lists in
    contents-marked p (without_place k v.lists.current) (without_place k fs) (without_place k ms) v e (λ w. length-without_same k ms fs (marks-count p w v e.deferred e.second))

pub unmarked-moved_float : (from : Part) (k : ℕ) (to : Part) (f : Float) (v : FloatPool) → HasAllMarks v → HasNoMarks v → HasNoMarks (moved_float from k to f v)
unmarked-moved_float from k to f v same e =
    unmarked-after to (f ∷ []) (without_entry from k v) (marks-without_entry from k v same) (unmarked-without_entry from k v e)

pub unmarked-joined_before : (from to : Part) (v : FloatPool) → HasNoMarks v → HasNoMarks (joined_before from to v)
unmarked-joined_before from to v e = unmarked-before to (floats_of from v.lists) (without_entries from v) (unmarked-without_entries from v e)

pub unmarked-with_float_at : (p : Part) (k : ℕ) (f : Float) (v : FloatPool) → HasNoMarks v → HasNoMarks (with_float_at p k f v)
unmarked-with_float_at p k f v e =
    let ms = marks_of p v in
    let fs = floats_of p v.lists in
    contents-unmarked p (slice_set v.lists.current k (entries.Float f)) (slice_set fs k f) ms v e (λ w. marked-set k f ms fs (none-chosen p w v e))

-- ---- the first marked float

-- the first mark that is set splits the floats: that float is the first marked one, and without it the others stay
record FirstMarked (ms : List Bool) (fs : List Float) (f : Float) : Type 0 where
  pub marked : marked_among ms fs ≡ f ∷ marked_among (without_place (first_marked ms) ms) (without_place (first_marked ms) fs)
  pub others : unmarked_among (without_place (first_marked ms) ms) (without_place (first_marked ms) fs) ≡ unmarked_among ms fs

first-marked : (ms : List Bool) (fs : List Float) (f : Float) → length ms ≡ length fs → slice_get fs (first_marked ms) ≡ Some f → FirstMarked ms fs f
first-marked [] [] f same e = cc
first-marked [] (g ∷ fs) f same e = absurd (omega arith)
first-marked (m ∷ ms) [] f same e = cc
first-marked (true ∷ ms) (g ∷ fs) f same e = record { marked = ap (λ h. h ∷ marked_among ms fs) (grind arith); others = refl }
first-marked (false ∷ ms) (g ∷ fs) f same e =
    let rest = first-marked ms fs f (omega arith) e in
    record { marked = rest.marked; others = ap (λ hs. g ∷ hs) rest.others }

-- no mark is set
pub none-marked : (ms : List Bool) (fs : List Float) → length ms ≡ length fs → first_marked ms ≡ length ms → (marked_among ms fs ≡ []) × (unmarked_among ms fs ≡ fs)
none-marked [] fs same e = (refl, refl)
none-marked (m ∷ ms) [] same e = absurd (omega arith)
none-marked (true ∷ ms) (f ∷ fs) same e = absurd (omega arith)
none-marked (false ∷ ms) (f ∷ fs) same e =
    let rest = none-marked ms fs (omega arith) (omega arith) in
    (rest.0, ap (λ hs. f ∷ hs) rest.1)

pub unmarked-all : (ms : List Bool) (fs : List Float) → marked_among ms fs ≡ [] → unmarked_among ms fs ≡ fs
unmarked-all [] fs e = refl
unmarked-all (m ∷ ms) [] e = refl
unmarked-all (true ∷ ms) (f ∷ fs) e = cc
unmarked-all (false ∷ ms) (f ∷ fs) e = ap (λ hs. f ∷ hs) (unmarked-all ms fs e)

pub first_marked-le : (ms : List Bool) → first_marked ms ≤ length ms
first_marked-le [] = omega arith
first_marked-le (true ∷ ms) = omega arith
first_marked-le (false ∷ ms) = omega (arith, first_marked-le ms)

-- the first marked float of a list in which floats wait has left: the other marked ones and the unmarked ones stay
pub first-left : (p : Part) (v : FloatPool) (f : Float) → IsWaiting p → length (marks_of p v) ≡ length (floats_of p v.lists) → slice_get (floats_of p v.lists) (first_marked (marks_of p v)) ≡ Some f
    → (marked_floats p v ≡ f ∷ marked_floats p (without_entry p (first_marked (marks_of p v)) v)) × (unmarked_floats p (without_entry p (first_marked (marks_of p v)) v) ≡ unmarked_floats p v)
first-left p v f waits many there =
    let k = first_marked (marks_of p v) in
    let es = without_place k v.lists.current in
    let fs = without_place k (floats_of p v.lists) in
    let ms = without_place k (marks_of p v) in
    let marks = marks-contents p waits es fs ms v in
    let floats = floats-contents p waits es fs ms v in
    let first = first-marked (marks_of p v) (floats_of p v.lists) f many there in
    (first.marked ∙ sym (λ i. f ∷ marked_among (marks i) (floats i)), (λ i. unmarked_among (marks i) (floats i)) ∙ first.others)
