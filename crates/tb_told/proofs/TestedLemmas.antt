-- What is told of a decision: yes exactly if all its tests hold, and a float in the way exactly if there is one.
use Rattle.std.proofs.Common.{◌≡◌, Bool, true, false, ℕ, zero, suc, ◌≤◌, List, [], ◌∷◌, take, length, refl, ap, arith}
use Rattle.std.specs.Prelude.{◌&&◌, ◌||◌, not, Option, Some, None, is_some, ◌==◌, if◌then◌else◌}
use Rattle.tb_node.specs.declared.Float.{Float}
use Rattle.tb_told.specs.declared.Test.{Test}
use Rattle.tb_float.specs.Lists.{has_class}
use Rattle.tb_told.specs.Tested.{Tested, first_failed, all_hold, is_yes, first_of_class, first_float}

yes_by : (b : Bool) (t : Test) (ts : List Tested) → is_yes (first_failed ts) ≡ all_hold ts → is_yes (if b then first_failed ts else Some t) ≡ (b && all_hold ts)
yes_by true t ts e = e
yes_by false t ts e = refl

-- yes exactly if all tests hold
pub yes_is_all : (ts : List Tested) → is_yes (first_failed ts) ≡ all_hold ts
yes_is_all [] = refl
yes_is_all (t ∷ ts) = yes_by t.holds t.test ts (yes_is_all ts)

some_by : (b : Bool) (f : Float) (first : Option Float) (has : Bool) → is_some first ≡ has → is_some (if b then Some f else first) ≡ (b || has)
some_by true f first has e = refl
some_by false f first has e = e

-- there is one exactly if the class has a float
pub first_is : (k : ℕ) (fs : List Float) → is_some (first_of_class k fs) ≡ has_class k fs
first_is k [] = refl
first_is k (f ∷ fs) = some_by (f.class == k) f (first_of_class k fs) (has_class k fs) (first_is k fs)

either_by : (a b : Option Float) (has later : Bool) → is_some a ≡ has → is_some b ≡ later → is_some (first_float a b) ≡ (has || later)
either_by None b true later e d = cc
either_by None b false later e d = d
either_by (Some n) b true later e d = refl
either_by (Some n) b false later e d = cc

-- there is one exactly if either list has one
pub first_is_either : (k : ℕ) (fs gs : List Float) → is_some (first_float (first_of_class k fs) (first_of_class k gs)) ≡ (has_class k fs || has_class k gs)
first_is_either k fs gs = either_by (first_of_class k fs) (first_of_class k gs) (has_class k fs) (has_class k gs) (first_is k fs) (first_is k gs)

-- none is found exactly if there is none
pub none_is : (found : Option Float) (none has : Bool) → is_some found ≡ not none → is_some found ≡ has → none ≡ not has
none_is found true true e d = cc
none_is found true false e d = refl
none_is found false true e d = refl
none_is found false false e d = cc

-- the front of a list that is no longer is all of it
pub take_whole : (n : ℕ) (fs : List Float) → length fs ≤ n → take n fs ≡ fs
take_whole zero [] h = refl
take_whole (suc n) [] h = refl
take_whole zero (f ∷ fs) h = absurd (omega arith)
take_whole (suc n) (f ∷ fs) h = ap (λ gs. f ∷ gs) (take_whole n fs (omega arith))
