-- The classes of the floats of a list.
use Rattle.std.proofs.Common.{◌≡◌, ℕ, zero, suc, ◌==◌, Bool, true, false, ◌||◌, List, [], ◌∷◌, ◌++◌, drop, Some, slice_get, refl, ap, subst, ◌∙◌}
use Rattle.std.proofs.lemmas.Bool.{eq-eqb}
use Rattle.std.proofs.Math.Bool.{or-true}
use Rattle.tb_node.specs.declared.Float.{Float}
use Rattle.tb_float.specs.Lists.{has_class}

pub has-first : (f : Float) (fs : List Float) → has_class f.class (f ∷ fs) ≡ true
has-first f fs = ap (λ b. b || has_class f.class fs) (eq-eqb f.class f.class refl)

pub has-later : (k : ℕ) (f : Float) (fs : List Float) → has_class k fs ≡ true → has_class k (f ∷ fs) ≡ true
has-later k f fs h = ap (λ b. (f.class == k) || b) h ∙ or-true (f.class == k)

pub has-more : (k : ℕ) (fs gs : List Float) → has_class k fs ≡ true → has_class k (fs ++ gs) ≡ true
has-more k [] gs h = cc
has-more k (f ∷ fs) gs h = by_test (f.class == k) h (λ e. has-more k fs gs e)
  where
    by_test : (t : Bool) → (t || has_class k fs) ≡ true → (has_class k fs ≡ true → has_class k (fs ++ gs) ≡ true) → (t || has_class k (fs ++ gs)) ≡ true
    by_test true e later = refl
    by_test false e later = later e

pub has-drop : (k n : ℕ) (fs : List Float) → has_class k (drop n fs) ≡ true → has_class k fs ≡ true
has-drop k zero fs h = h
has-drop k (suc n) [] h = h
has-drop k (suc n) (f ∷ fs) h = has-later k f fs (has-drop k n fs h)

-- a float that is in a list has its class there
pub has-there : (fs : List Float) (n : ℕ) (f : Float) → slice_get fs n ≡ Some f → has_class f.class fs ≡ true
has-there [] n f got = cc
has-there (g ∷ fs) zero f got = let same : g ≡ f = cc in subst (λ (x : Float). has_class x.class (g ∷ fs) ≡ true) same (has-first g fs)
has-there (g ∷ fs) (suc n) f got = has-later f.class g fs (has-there fs n f got)
