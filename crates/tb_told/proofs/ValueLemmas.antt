-- The first of several tests that fails, as it is found from the last one back.
use Rattle.std.proofs.Common.{◌≡◌, Bool, List, [], ◌∷◌, Some, ap, ◌∙◌}
use Rattle.std.specs.Prelude.{Option, None, if◌then◌else◌}
use Rattle.tb_told.specs.declared.Test.{Test}
use Rattle.tb_told.specs.Tested.{Tested, tested, first_failed}

-- one test before others
pub one-test : (x y : Option Test) (b c : Bool) (t : Test) (ts : List Tested) → x ≡ (if b then y else Some t) → b ≡ c → y ≡ first_failed ts → x ≡ first_failed (tested t c ∷ ts)
one-test x y b c t ts is same rest = is ∙ ap (λ z. if z then y else Some t) same ∙ ap (λ z. if c then z else Some t) rest

-- the last test
pub last-test : (x : Option Test) (b c : Bool) (t : Test) → x ≡ (if b then None else Some t) → b ≡ c → x ≡ first_failed (tested t c ∷ [])
last-test x b c t is same = is ∙ ap (λ z. if z then None else Some t) same
