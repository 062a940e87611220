-- A set of classes through a walk.
use Rattle.std.proofs.Common.{◌≡◌, ◌≢◌, ℕ, zero, suc, ◌+◌, ◌-◌, ◌<◌, ◌≤◌, ◌==◌, ◌||◌, ◌&&◌, not, Bool, true, false, List, [], ◌∷◌, ◌++◌, length, Some, slice_get, replicate, refl, sym, ap, subst, ◌∙◌, inl, inr, arith}
use Rattle.std.specs.Prelude.{slice_set, if◌then◌else◌}
use Rattle.std.proofs.lemmas.Option.{slice_get_within, same_Some}
use Rattle.std.proofs.lemmas.Bool.{cases_eq, eq-eqb, ne_eqb, eqb-true}
use Rattle.std.proofs.Math.Bool.{or-true}
use Rattle.std.proofs.lemmas.List.Elements.{filter-append}
use Rattle.tb_node.specs.declared.Float.{Float}
use Rattle.tb_float.specs.declared.classes.ClassSet.{ClassSet}
use Rattle.tb_float.specs.Lists.{has_class, of_class}
use Rattle.tb_float.specs.Classes.{AreClassesOf, AreKnown, AreOfClasses, HasLeft, set_count, open_count}

pub of_class-append : (k : ℕ) (fs gs : List Float) → of_class k (fs ++ gs) ≡ of_class k fs ++ of_class k gs
of_class-append k fs gs = filter-append (λ f. f.class == k) fs gs

pub get-replicate : {X : Type 0} (n k : ℕ) (x : X) → k < n → slice_get (replicate n x) k ≡ Some x
get-replicate zero k x lt = absurd (omega arith)
get-replicate (suc n) zero x lt = refl
get-replicate (suc n) (suc k) x lt = get-replicate n k x (omega arith)

get-set-same : {X : Type 0} (xs : List X) (i : ℕ) (x : X) → i < length xs → slice_get (slice_set xs i x) i ≡ Some x
get-set-same [] i x lt = absurd (omega arith)
get-set-same (y ∷ xs) zero x lt = refl
get-set-same (y ∷ xs) (suc i) x lt = get-set-same xs i x (omega arith)

get-set-other : {X : Type 0} (xs : List X) (i k : ℕ) (x : X) → k ≢ i → slice_get (slice_set xs i x) k ≡ slice_get xs k
get-set-other [] i k x ne = refl
get-set-other (y ∷ xs) zero zero x ne = absurd (ne refl)
get-set-other (y ∷ xs) zero (suc k) x ne = refl
get-set-other (y ∷ xs) (suc i) zero x ne = refl
get-set-other (y ∷ xs) (suc i) (suc k) x ne = get-set-other xs i k x (λ e. ne (ap suc e))

pub set-again : {X : Type 0} (xs : List X) (i : ℕ) (x : X) → slice_get xs i ≡ Some x → slice_set xs i x ≡ xs
set-again [] i x e = refl
set-again (y ∷ xs) zero x e = let same : y ≡ x = cc in ap (λ z. z ∷ xs) (sym same)
set-again (y ∷ xs) (suc i) x e = ap (λ zs. y ∷ zs) (set-again xs i x e)

pub has-same : (fs : List Float) (f : Float) (k : ℕ) → (f.class == k) ≡ true → has_class k (fs ++ f ∷ []) ≡ true
has-same [] f k e = ap (λ b. b || false) e
has-same (g ∷ fs) f k e = ap (λ b. (g.class == k) || b) (has-same fs f k e) ∙ or-true (g.class == k)

pub has-other : (fs : List Float) (f : Float) (k : ℕ) → (f.class == k) ≡ false → has_class k (fs ++ f ∷ []) ≡ has_class k fs
has-other [] f k e = ap (λ b. b || false) e
has-other (g ∷ fs) f k e = ap (λ b. (g.class == k) || b) (has-other fs f k e)

-- the class of one more float is in it
pub one-class-more : (s t : ClassSet) (fs : List Float) (f : Float) → f.class < 256 → length s.flags ≡ 256 → t.flags ≡ slice_set s.flags f.class true → AreClassesOf s fs → AreClassesOf t (fs ++ f ∷ [])
one-class-more s t fs f low many is h = λ k lt. ap (λ xs. slice_get xs k) is ∙ by_class k lt
  where
    by_class : (k : ℕ) → k < 256 → slice_get (slice_set s.flags f.class true) k ≡ Some (has_class k (fs ++ f ∷ []))
    by_class k lt = elim (cases_eq k f.class) [
      | inl same ↦ subst (λ j. slice_get (slice_set s.flags f.class true) j ≡ Some (has_class j (fs ++ f ∷ []))) (sym same) (get-set-same s.flags f.class true (omega arith) ∙ ap Some (sym (has-same fs f f.class (eq-eqb f.class f.class refl))))
      | inr ne ↦ get-set-other s.flags f.class k true ne ∙ h k lt ∙ ap Some (sym (has-other fs f k (ne_eqb f.class k (λ e. ne (sym e)))))
    ]

-- ---- classes that are known

pub known-grows : (known : List Bool) (k : ℕ) (fs : List Float) → AreKnown known fs → AreKnown (slice_set known k true) fs
known-grows known k [] h = tt
known-grows known k (f ∷ fs) h = (set-more known k f.class h.0, known-grows known k fs h.1)
  where
    set-more : (xs : List Bool) (i j : ℕ) → slice_get xs j ≡ Some true → slice_get (slice_set xs i true) j ≡ Some true
    set-more [] i j h = cc
    set-more (x ∷ xs) zero zero h = refl
    set-more (x ∷ xs) zero (suc j) h = h
    set-more (x ∷ xs) (suc i) zero h = h
    set-more (x ∷ xs) (suc i) (suc j) h = set-more xs i j h

pub known-one : (known : List Bool) (f : Float) → f.class < length known → AreKnown (slice_set known f.class true) (f ∷ [])
known-one known f low = (get-set-same known f.class true low, tt)

-- the class of a float that is among those that are known
known-class : (known : List Bool) (k : ℕ) (fs : List Float) → AreKnown known fs → has_class k fs ≡ true → slice_get known k ≡ Some true
known-class known k [] h has = cc
known-class known k (f ∷ fs) h has = by_test (f.class == k) refl (λ o. known-class known k fs h.1 o) has
  where
    by_test : (t : Bool) → (f.class == k) ≡ t → (has_class k fs ≡ true → slice_get known k ≡ Some true) → (t || has_class k fs) ≡ true → slice_get known k ≡ Some true
    by_test true e later o = subst (λ n. slice_get known n ≡ Some true) (eqb-true f.class k e) h.0
    by_test false e later o = later o

-- ---- how many are left

open-none : (n : ℕ) (ks : List Bool) → length ks ≡ n → open_count (replicate n false) ks ≡ set_count ks
open-none zero [] e = refl
open-none zero (k ∷ ks) e = absurd (omega (arith, e))
open-none (suc n) [] e = absurd (omega (arith, e))
open-none (suc n) (k ∷ ks) e = ap (λ m. (if k then 1 else 0) + m) (open-none n ks (omega (arith, e)))

open-less : (bs ks : List Bool) (i : ℕ) → slice_get bs i ≡ Some false → slice_get ks i ≡ Some true → open_count bs ks ≡ open_count (slice_set bs i true) ks + 1
open-less [] ks i e f = cc
open-less (b ∷ bs) [] i e f = cc
open-less (b ∷ bs) (k ∷ ks) zero e f =
    let off : b ≡ false = cc in
    let on : k ≡ true = cc in
    (λ j. (if not (off j) && on j then 1 else 0) + open_count bs ks) ∙ omega arith
open-less (b ∷ bs) (k ∷ ks) (suc i) e f = let less = open-less bs ks i e f in omega (arith, less)

open-over : (bs ks : List Bool) (i : ℕ) → length bs ≡ length ks → open_count bs ks ≡ 0 → slice_get ks i ≡ Some true → slice_get bs i ≡ Some true
open-over [] [] i many none e = cc
open-over [] (k ∷ ks) i many none e = absurd (omega (arith, many))
open-over (b ∷ bs) [] i many none e = absurd (omega (arith, many))
open-over (b ∷ bs) (k ∷ ks) zero many none e = let on : k ≡ true = cc in by_flags b k on none
  where
    by_flags : (b k : Bool) → k ≡ true → (if not b && k then 1 else 0) + open_count bs ks ≡ 0 → slice_get (b ∷ bs) 0 ≡ Some true
    by_flags true k on none = refl
    by_flags false true on none = absurd (omega (arith, none))
    by_flags false false on none = cc
open-over (b ∷ bs) (k ∷ ks) (suc i) many none e = open-over bs ks i (omega (arith, many)) (omega (arith, none)) e

pub left-none : (s known : ClassSet) (fs : List Float) → length known.flags ≡ 256 → s.flags ≡ replicate 256 false → s.left ≡ set_count known.flags → AreKnown known.flags fs → HasLeft s fs
left-none s known fs many empty left are = record {
  known = known.flags;
  size = many;
  are = are;
  left = left ∙ sym (open-none 256 known.flags many) ∙ ap (λ bs. open_count bs known.flags) (sym empty);
}

pub left-full : (s : ClassSet) (fs all : List Float) → length s.flags ≡ 256 → s.left ≡ 0 → AreClassesOf s fs → HasLeft s all → AreOfClasses fs all
left-full s fs all many none are h = λ k has.
    let known = known-class h.known k all h.are has in
    let within = slice_get_within h.known k true known in
    let set = open-over s.flags h.known k (many ∙ sym h.size) (sym h.left ∙ none) known in
    same_Some _ _ (sym (are k (omega (arith, within, h.size))) ∙ set)

-- a class more is in the set
pub left-added : (s t : ClassSet) (k : ℕ) (all : List Float) → slice_get s.flags k ≡ Some false → t.flags ≡ slice_set s.flags k true → t.left ≡ s.left - 1 → has_class k all ≡ true → HasLeft s all → HasLeft t all
left-added s t k all got flags left has h =
    let less = open-less s.flags h.known k got (known-class h.known k all h.are has) in
    let now = ap (λ bs. open_count bs h.known) flags in
    record { known = h.known; size = h.size; are = h.are; left = omega (arith, h.left, less, left, now) }

-- ---- flags are counted

pub count-few : (bs : List Bool) → set_count bs ≤ length bs
count-few [] = omega arith
count-few (true ∷ bs) = omega (arith, count-few bs)
count-few (false ∷ bs) = omega (arith, count-few bs)
