-- The floats that are the first of their class in a list.
use Rattle.std.proofs.Common.{◌≡◌, ℕ, zero, suc, ◌≤◌, ◌==◌, ◌||◌, Bool, true, false, List, [], ◌∷◌, ◌++◌, length, take, drop, Some, slice_get, refl, sym, ap, ◌∙◌, subst, arith}
use Rattle.std.specs.Prelude.{if◌then◌else◌}
use Rattle.std.proofs.lemmas.Bool.{eqb-true}
use Rattle.std.proofs.lemmas.List.{length-take-le}
use Rattle.std.proofs.lemmas.Option.{slice_get_within}
use Rattle.tb_node.specs.declared.Float.{Float}
use Rattle.tb_float.specs.declared.firsts.First.{First}
use Rattle.tb_float.specs.Lists.{has_class}
use Rattle.tb_float.specs.Classes.{AreOfClasses}
use Rattle.tb_float.specs.Firsts.{firsts_from}
use Rattle.tb_float.proofs.ListLemmas.{take-at}
use Rattle.tb_float.proofs.ClassLemmas.{has-other}

-- a float of a class that is there brings no new one
pub one-of : (before : List Float) (f : Float) → has_class f.class before ≡ true → AreOfClasses before (before ++ f ∷ [])
one-of before f has k h = by_class (f.class == k) refl
  where
    by_class : (t : Bool) → (f.class == k) ≡ t → has_class k before ≡ true
    by_class true e = subst (λ j. has_class j before ≡ true) (eqb-true f.class k e) has
    by_class false e = sym (has-other before f k e) ∙ h

-- ---- the next one

-- the next float from a place on that is the first of its class: those between are of classes that come before the place
pub record NextFirst (all : List Float) (k : ℕ) (x : First) (xs : List First) : Type 0 where
  pub within : k ≤ x.place
  pub there : slice_get all x.place ≡ Some x.float
  pub passed : AreOfClasses (take k all) (take x.place all)
  pub later : xs ≡ firsts_from (take (suc x.place) all) (drop (suc x.place) all)

get-at : (all : List Float) (k : ℕ) (f : Float) (fs : List Float) → drop k all ≡ f ∷ fs → slice_get all k ≡ Some f
get-at [] zero f fs e = cc
get-at [] (suc k) f fs e = cc
get-at (g ∷ all) zero f fs e = let same : g ≡ f = cc in ap Some same
get-at (g ∷ all) (suc k) f fs e = get-at all k f fs e

drop-after : (all : List Float) (k : ℕ) (f : Float) (fs : List Float) → drop k all ≡ f ∷ fs → drop (suc k) all ≡ fs
drop-after [] zero f fs e = cc
drop-after [] (suc k) f fs e = cc
drop-after (g ∷ all) zero f fs e = cc
drop-after (g ∷ all) (suc k) f fs e = drop-after all k f fs e

pub next-first : (all : List Float) (k : ℕ) (fs : List Float) (x : First) (xs : List First) → drop k all ≡ fs → firsts_from (take k all) fs ≡ x ∷ xs → NextFirst all k x xs
next-first all k [] x xs at e = cc
next-first all k (f ∷ fs) x xs at e = by_test (has_class f.class (take k all)) refl e (λ g. next-first all (suc k) fs x xs (drop-after all k f fs at) g)
  where
    got : slice_get all k ≡ Some f
    got = get-at all k f fs at

    taken : take (suc k) all ≡ take k all ++ f ∷ []
    taken = take-at all k f got

    many : length (take k all) ≡ k
    many = length-take-le k all (omega (arith, slice_get_within all k f got))

    by_test : (t : Bool) → has_class f.class (take k all) ≡ t
        → (if t then firsts_from (take k all ++ f ∷ []) fs else record { place = length (take k all); float = f } ∷ firsts_from (take k all ++ f ∷ []) fs) ≡ x ∷ xs
        → (firsts_from (take (suc k) all) fs ≡ x ∷ xs → NextFirst all (suc k) x xs) → NextFirst all k x xs
    by_test true has e later =
        let n = later (ap (λ b. firsts_from b fs) taken ∙ e) in
        record {
          within = omega (arith, n.within);
          there = n.there;
          passed = λ j h. one-of (take k all) f has j (subst (λ b. has_class j b ≡ true) taken (n.passed j h));
          later = n.later;
        }
    by_test false new e later =
        let is : record { place = length (take k all); float = f } ≡ x = cc in
        let rest : firsts_from (take k all ++ f ∷ []) fs ≡ xs = cc in
        subst (λ (y : First). NextFirst all k y xs) is (record {
          within = omega (arith, many);
          there = ap (slice_get all) many ∙ got;
          passed = λ j h. subst (λ n. has_class j (take n all) ≡ true) many h;
          later = sym rest ∙ ap (λ b. firsts_from b fs) (sym taken) ∙ ap (λ gs. firsts_from (take (suc k) all) gs) (sym (drop-after all k f fs at)) ∙ ap (λ n. firsts_from (take (suc n) all) (drop (suc n) all)) (sym many);
        })

-- ---- the end

-- if no float is the first of its class behind others, all are of their classes
pub no-first : (before fs : List Float) → firsts_from before fs ≡ [] → AreOfClasses before fs
no-first before [] e k h = cc
no-first before (f ∷ fs) e k h = by_test (has_class f.class before) refl e (λ g. no-first (before ++ f ∷ []) fs g k)
  where
    by_class : has_class f.class before ≡ true → (has_class k fs ≡ true → has_class k (before ++ f ∷ []) ≡ true) → (t : Bool) → (f.class == k) ≡ t → (t || has_class k fs) ≡ true → has_class k before ≡ true
    by_class has later true same o = subst (λ j. has_class j before ≡ true) (eqb-true f.class k same) has
    by_class has later false other o = one-of before f has k (later o)

    by_test : (t : Bool) → has_class f.class before ≡ t
        → (if t then firsts_from (before ++ f ∷ []) fs else record { place = length before; float = f } ∷ firsts_from (before ++ f ∷ []) fs) ≡ []
        → (firsts_from (before ++ f ∷ []) fs ≡ [] → has_class k fs ≡ true → has_class k (before ++ f ∷ []) ≡ true) → has_class k before ≡ true
    by_test true has none later = by_class has (later none) (f.class == k) refl h
    by_test false new none later = cc
