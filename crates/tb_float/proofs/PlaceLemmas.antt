-- Up to which place no float is marked.
use Rattle.std.proofs.Common.{◌≡◌, ◌≢◌, ◌⊎◌, inl, inr, ℕ, zero, suc, ◌+◌, ◌<◌, ◌≤◌, Bool, true, false, List, [], ◌∷◌, ◌++◌, length, take, drop, Some, slice_get, slice_set, refl, sym, ap, subst, ◌∙◌, arith, length-drop, Option, None}
use Rattle.std.specs.Prelude.{IfSome, IfNone}
use Rattle.std.specs.FinMap.{insert}
use Rattle.std.proofs.lemmas.List.{length-map}
use Rattle.tb_node.specs.declared.Float.{Float}
use Rattle.tb_float.specs.declared.Part.{Part}
use Rattle.tb_float.specs.declared.Part.TheVariants as parts
use Rattle.tb_float.specs.Slots.{SlotView}
use Rattle.tb_float.specs.Lists.{without_place, IsWaiting}
use Rattle.tb_float.specs.Classes.{AreMarkedFrom, AreSetFrom, Tracks}
use Rattle.tb_float.specs.Pool.{FloatPool, marks_of, marked_among, first_marked, flagged, with_flags, with_mark, without_entry}
use Rattle.tb_pool.specs.Lists.{Lists, IsLive, list_at, with_list}
use Rattle.tb_float.specs.Shelves.{HasTaken, marks_in}
use Rattle.tb_float.proofs.MoveLemmas.{changed-behind}
use Rattle.tb_float.proofs.WaitingLemmas.{HasAllMarks}

-- of one list
pub place-of : (p : Part) (marks_from : ℕ) (v : FloatPool) → IsWaiting p → AreMarkedFrom marks_from v → AreSetFrom marks_from (marks_of p v)
place-of parts.Deferred marks_from v w h = h.deferred
place-of parts.Second marks_from v w h = h.second
place-of p marks_from v w h = absurd w

-- ---- one mark more

set-true : (ms : List Bool) (k j : ℕ) → slice_get (slice_set ms k true) j ≡ Some true → (j ≡ k) ⊎ (slice_get ms j ≡ Some true)
set-true [] k j e = inr e
set-true (m ∷ ms) zero zero e = inl refl
set-true (m ∷ ms) zero (suc j) e = inr e
set-true (m ∷ ms) (suc k) zero e = inr e
set-true (m ∷ ms) (suc k) (suc j) e = elim (set-true ms k j e) [
  | inl is ↦ inl (ap suc is)
  | inr at ↦ inr at
]

-- a mark that is set chooses a float
some-marked : (ms : List Bool) (fs : List Float) (j : ℕ) → length ms ≡ length fs → slice_get ms j ≡ Some true → 0 < length (marked_among ms fs)
some-marked [] fs j same e = cc
some-marked (m ∷ ms) [] j same e = absurd (omega (arith, same))
some-marked (true ∷ ms) (f ∷ fs) j same e = omega arith
some-marked (false ∷ ms) (f ∷ fs) zero same e = cc
some-marked (false ∷ ms) (f ∷ fs) (suc j) same e = some-marked ms fs j (omega (arith, same)) e

place-set : (marks_from next k : ℕ) (ms : List Bool) → ((j : ℕ) → slice_get ms j ≡ Some true → next ≤ marks_from) → next ≤ k → AreSetFrom marks_from ms → AreSetFrom next (slice_set ms k true)
place-set marks_from next k ms low at h = λ j e. elim (set-true ms k j e) [
  | inl is ↦ omega (arith, at, is)
  | inr old ↦ omega (arith, low j old, h j old)
]

place-more : (marks_from next : ℕ) (ms : List Bool) → ((j : ℕ) → slice_get ms j ≡ Some true → next ≤ marks_from) → AreSetFrom marks_from ms → AreSetFrom next ms
place-more marks_from next ms low h = λ j e. omega (arith, low j e, h j e)

pub place-mark : (P : Float → Type 0) (chosen marks_from next : ℕ) (p : Part) (k : ℕ) (v : FloatPool) → IsWaiting p → HasAllMarks v → Tracks P chosen v → next ≤ k → (0 < chosen → next ≤ marks_from) → AreMarkedFrom marks_from v → AreMarkedFrom next (with_mark p k v)
place-mark P chosen marks_from next p k v w same t at before h = by_part p w
  where
    low : (j : ℕ) → slice_get v.marks j ≡ Some true → next ≤ marks_from
    low j e = before (omega (arith, t.few, some-marked v.marks v.lists.deferred j same.deferred e))

    low_second : (j : ℕ) → slice_get v.second_marks j ≡ Some true → next ≤ marks_from
    low_second j e = before (omega (arith, t.few, some-marked v.second_marks v.lists.second j same.second e))

    by_part : (q : Part) → IsWaiting q → AreMarkedFrom next (with_mark q k v)
    by_part parts.Deferred is = record { deferred = place-set marks_from next k v.marks low at h.deferred; second = place-more marks_from next v.second_marks low_second h.second }
    by_part parts.Second is = record { deferred = place-more marks_from next v.marks low h.deferred; second = place-set marks_from next k v.second_marks low_second at h.second }
    by_part q is = absurd is

-- ---- more marks from a place on

flags-true : (k : ℕ) (bs ms : List Bool) (j : ℕ) → slice_get (take k ms ++ flagged bs (drop k ms)) j ≡ Some true → (k ≤ j) ⊎ (slice_get ms j ≡ Some true)
flags-true zero bs ms j e = inl (omega arith)
flags-true (suc k) [] [] j e = inr e
flags-true (suc k) (b ∷ bs) [] j e = inr e
flags-true (suc k) bs (m ∷ ms) zero e = inr e
flags-true (suc k) bs (m ∷ ms) (suc j) e = elim (flags-true k bs ms j e) [
  | inl le ↦ inl (omega (arith, le))
  | inr at ↦ inr at
]

place-flagged : (marks_from next k : ℕ) (bs ms : List Bool) → ((j : ℕ) → slice_get ms j ≡ Some true → next ≤ marks_from) → next ≤ k → AreSetFrom marks_from ms → AreSetFrom next (take k ms ++ flagged bs (drop k ms))
place-flagged marks_from next k bs ms low at h = λ j e. elim (flags-true k bs ms j e) [
  | inl le ↦ omega (arith, at, le)
  | inr old ↦ omega (arith, low j old, h j old)
]

pub place-flags : (P : Float → Type 0) (chosen marks_from next : ℕ) (p : Part) (k : ℕ) (bs : List Bool) (v : FloatPool) → IsWaiting p → HasAllMarks v → Tracks P chosen v → next ≤ k → (0 < chosen → next ≤ marks_from) → AreMarkedFrom marks_from v → AreMarkedFrom next (with_flags p k bs v)
place-flags P chosen marks_from next p k bs v w same t at before h = by_part p w
  where
    low : (j : ℕ) → slice_get v.marks j ≡ Some true → next ≤ marks_from
    low j e = before (omega (arith, t.few, some-marked v.marks v.lists.deferred j same.deferred e))

    low_second : (j : ℕ) → slice_get v.second_marks j ≡ Some true → next ≤ marks_from
    low_second j e = before (omega (arith, t.few, some-marked v.second_marks v.lists.second j same.second e))

    by_part : (q : Part) → IsWaiting q → AreMarkedFrom next (with_flags q k bs v)
    by_part parts.Deferred is = record { deferred = place-flagged marks_from next k bs v.marks low at h.deferred; second = place-more marks_from next v.second_marks low_second h.second }
    by_part parts.Second is = record { deferred = place-more marks_from next v.marks low h.deferred; second = place-flagged marks_from next k bs v.second_marks low_second at h.second }
    by_part q is = absurd is

-- ---- one mark less

first-set : (ms : List Bool) → first_marked ms < length ms → slice_get ms (first_marked ms) ≡ Some true
first-set [] lt = absurd (omega arith)
first-set (true ∷ ms) lt = refl
first-set (false ∷ ms) lt = first-set ms (omega (arith, lt))

before-first : (ms : List Bool) (marks_from j : ℕ) → AreSetFrom marks_from ms → marks_from ≤ first_marked ms → slice_get (without_place (first_marked ms) ms) j ≡ Some true → marks_from ≤ j
before-first [] marks_from j h le e = cc
before-first (true ∷ ms) marks_from j h le e = omega (arith, le)
before-first (false ∷ ms) marks_from zero h le e = cc
before-first (false ∷ ms) zero (suc j) h le e = omega arith
before-first (false ∷ ms) (suc marks_from) (suc j) h le e = omega (arith, before-first ms marks_from j (λ k at. omega (arith, h (suc k) at)) (omega (arith, le)) e)

place-first : (ms : List Bool) (marks_from : ℕ) → AreSetFrom marks_from ms → first_marked ms < length ms → AreSetFrom marks_from (without_place (first_marked ms) ms)
place-first ms marks_from h lt = λ j e. before-first ms marks_from j h (h (first_marked ms) (first-set ms lt)) e

pub place-without : (marks_from : ℕ) (p : Part) (k : ℕ) (v : FloatPool) → IsWaiting p → k ≡ first_marked (marks_of p v) → k < length (marks_of p v) → AreMarkedFrom marks_from v → AreMarkedFrom marks_from (without_entry p k v)
place-without marks_from parts.Deferred k v w first lt h =
    record { deferred = subst (λ n. AreSetFrom marks_from (without_place n v.marks)) (sym first) (place-first v.marks marks_from h.deferred (omega (arith, first, lt))); second = h.second }
place-without marks_from parts.Second k v w first lt h =
    record { deferred = h.deferred; second = subst (λ n. AreSetFrom marks_from (without_place n v.second_marks)) (sym first) (place-first v.second_marks marks_from h.second (omega (arith, first, lt))) }
place-without marks_from p k v w first lt h = absurd w

-- ---- the first mark is behind the place

pub marks-drop : (n : ℕ) (ss : List SlotView) → marks_in (drop n ss) ≡ drop n (marks_in ss)
marks-drop zero ss = refl
marks-drop (suc n) [] = refl
marks-drop (suc n) (s ∷ ss) = marks-drop n ss

pub first-behind : (marks_from : ℕ) (ms : List Bool) → AreSetFrom marks_from ms → marks_from ≤ length ms → first_marked ms ≡ marks_from + first_marked (drop marks_from ms)
first-behind zero ms h le = omega arith
first-behind (suc marks_from) [] h le = absurd (omega (arith, le))
first-behind (suc marks_from) (true ∷ ms) h le = absurd (omega (arith, h 0 refl))
first-behind (suc marks_from) (false ∷ ms) h le = omega (arith, first-behind marks_from ms (λ k at. omega (arith, h (suc k) at)) (omega (arith, le)))

-- no mark is set if the list is no longer than that
pub none-behind : (marks_from : ℕ) (ms : List Bool) → AreSetFrom marks_from ms → length ms ≤ marks_from → first_marked ms ≡ length ms
none-behind marks_from [] h le = refl
none-behind zero (m ∷ ms) h le = absurd (omega (arith, le))
none-behind (suc marks_from) (true ∷ ms) h le = absurd (omega (arith, h 0 refl))
none-behind (suc marks_from) (false ∷ ms) h le = ap suc (none-behind marks_from ms (λ k at. omega (arith, h (suc k) at)) (omega (arith, le)))

module _ {X : Type 0} where
  pub get-behind : (n k m : ℕ) (xs : List X) → m ≡ n + k → slice_get xs m ≡ slice_get (drop n xs) k
  get-behind zero k m xs e = let same : m ≡ k = omega (arith, e) in ap (slice_get xs) same
  get-behind (suc n) k zero xs e = absurd (omega (arith, e))
  get-behind (suc n) k (suc m) [] e = refl
  get-behind (suc n) k (suc m) (x ∷ xs) e = get-behind n k m xs (omega (arith, e))

  without-none : (k : ℕ) → without_place {X = X} k [] ≡ []
  without-none zero = refl
  without-none (suc k) = refl

  pub without-behind : (n k m : ℕ) (xs : List X) → m ≡ n + k → without_place m xs ≡ take n xs ++ without_place k (drop n xs)
  without-behind zero k m xs e = let same : m ≡ k = omega (arith, e) in ap (λ i. without_place i xs) same
  without-behind (suc n) k zero xs e = absurd (omega (arith, e))
  without-behind (suc n) k (suc m) [] e = sym (without-none k)
  without-behind (suc n) k (suc m) (x ∷ xs) e = ap (λ ys. x ∷ ys) (without-behind n k m xs (omega (arith, e)))

-- ---- a list that was cut there

pub first-cut : (marks_from : ℕ) (ss : List SlotView) → AreSetFrom marks_from (marks_in ss) → marks_from ≤ length ss → first_marked (marks_in ss) ≡ marks_from + first_marked (marks_in (drop marks_from ss))
first-cut marks_from ss h le =
    first-behind marks_from (marks_in ss) h (omega (arith, le, length-map ss (λ (s : SlotView). s.marked))) ∙ ap (λ ms. marks_from + first_marked ms) (sym (marks-drop marks_from ss))

pub none-cut : (marks_from : ℕ) (ss : List SlotView) → AreSetFrom marks_from (marks_in ss) → marks_from ≤ length ss → first_marked (marks_in (drop marks_from ss)) ≡ length (drop marks_from ss) → first_marked (marks_in ss) ≡ length ss
none-cut marks_from ss h le none = omega (arith, le, first-cut marks_from ss h le, none, length-drop marks_from ss)

pub taken-behind : (s0 s1 s2 s3 : Lists SlotView) (from marks_from one : ℕ) (u : SlotView) → from ≢ one → IsLive s0 one → list_at s0 one ≡ [] → AreSetFrom marks_from (marks_in (list_at s0 from)) → marks_from ≤ length (list_at s0 from)
    → s1.lists ≡ insert (with_list s0 from (take marks_from (list_at s0 from))) one (drop marks_from (list_at s0 from)) → list_at s1 one ≡ drop marks_from (list_at s0 from)
    → s3.lists ≡ insert (with_list s2 from (list_at s2 from ++ list_at s2 one)) one [] → s1.spare ≡ s0.spare → s3.spare ≡ s2.spare
    → HasTaken u one s1 s2 → HasTaken u from s0 s3
taken-behind s0 s1 s2 s3 from marks_from one u apart live empty h le e1 behind e3 spare1 spare3 t =
    let ss = list_at s0 from in
    let rest = drop marks_from ss in
    let j = first_marked (marks_in rest) in
    let at = first-cut marks_from ss h le in
    let was : slice_get rest j ≡ Some u = ap (λ ts. slice_get ts (first_marked (marks_in ts))) (sym behind) ∙ t.was in
    let new = without_place j rest in
    let e2 : s2.lists ≡ with_list s1 one new = t.taken ∙ ap (λ ts. with_list s1 one (without_place (first_marked (marks_in ts)) ts)) behind in
    record {
      was = get-behind marks_from j (first_marked (marks_in ss)) ss at ∙ was;
      taken = changed-behind s0 s1 s2 s3 from marks_from one new apart live empty e1 e2 e3 ∙ ap (with_list s0 from) (sym (without-behind marks_from j (first_marked (marks_in ss)) ss at));
      spare = omega (arith, spare1, spare3, t.spare);
    }

-- ---- what is said of a result

pub some-again : (P Q : SlotView → Type 0) (r : Option SlotView) → IfSome r P → ((s : SlotView) → P s → Q s) → IfSome r Q
some-again P Q None h f = tt
some-again P Q (Some s) h f = f s h

pub none-again : (A B : Type 0) (r : Option SlotView) → IfNone r A → (A → B) → IfNone r B
none-again A B None h f = f h
none-again A B (Some s) h f = tt
