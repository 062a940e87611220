-- The entries of a list of floats from a place on.
use Rattle.std.proofs.Common.{◌≡◌, ℕ, zero, suc, ◌≤◌, List, [], ◌∷◌, length, drop, Some, slice_get, true, refl, ap, arith}
use Rattle.tb_node.specs.declared.Float.{Float}
use Rattle.tb_float.specs.declared.Entry.{Entry}
use Rattle.tb_float.specs.declared.Entry.TheVariants as entries
use Rattle.tb_float.specs.Lists.{float_entries}
use Rattle.tb_float.specs.Shelves.{is_float}

pub drop-entries : (k : ℕ) (fs : List Float) → drop k (float_entries fs) ≡ float_entries (drop k fs)
drop-entries zero [] = refl
drop-entries (suc k) [] = refl
drop-entries zero (f ∷ fs) = refl
drop-entries (suc k) (f ∷ fs) = drop-entries k fs

-- the next entry is a float
pub next-is_float : (e : Entry) (es : List Entry) (left : List Float) → e ∷ es ≡ float_entries left → is_float e ≡ true
next-is_float e es [] is = cc
next-is_float e es (f ∷ fs) is = let same : e ≡ entries.Float f = cc in ap is_float same

-- it is at the place, and the others from the next place on
pub next-entry : (fs : List Float) (k : ℕ) (e : Entry) (es : List Entry) (f : Float) → e ∷ es ≡ float_entries (drop k fs) → e ≡ entries.Float f → (slice_get fs k ≡ Some f) × (es ≡ float_entries (drop (suc k) fs))
next-entry [] zero e es f is it = cc
next-entry [] (suc k) e es f is it = cc
next-entry (g ∷ fs) zero e es f is it = let same : g ≡ f = cc in (ap Some same, cc)
next-entry (g ∷ fs) (suc k) e es f is it = next-entry fs k e es f is it

-- there is none if the list has ended
pub no-entry : (fs : List Float) (k : ℕ) → [] ≡ float_entries (drop k fs) → length fs ≤ k
no-entry [] k is = omega arith
no-entry (g ∷ fs) zero is = cc
no-entry (g ∷ fs) (suc k) is = omega (arith, no-entry fs k is)
