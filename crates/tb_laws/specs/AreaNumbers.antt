-- How many floats without the mark `!` an area holds at any moment of a run.
use Rattle.std.specs.Prelude.{ℕ, pos, ◌+◌, ◌≤ℤ◌, List, [], ◌∷◌, IsTrue, if◌then◌else◌}
use Rattle.std.specs.List.{AllByRecursion}
use Rattle.tb_node.specs.declared.Float.{Float}
use Rattle.tb_param.specs.declared.Params.{Params}
use Rattle.tb_param.specs.Ranges.{are_params}
use Rattle.tb_galley.specs.declared.Galley.{Galley}
use Rattle.tb_galley.specs.Valid.{IsValid}
use Rattle.tb_float.specs.Lists.{FloatLists}
use Rattle.tb_output.specs.FloatMoves.{joined_to}
use Rattle.tb_output.specs.State.{Recorded, placed, output, emptied}
use Rattle.tb_steps.specs.Run.{run_of}

-- how many floats of a list lack the mark `!`
abbrev pub unmarked : List Float → ℕ
unmarked [] = 0
unmarked (f ∷ fs) = (if f.bang then 0 else 1) + unmarked fs

-- no area holds more floats without `!` than its number, nor do the text, the top and the bottom together
pub record HoldsNumbers (p : Params) (l : FloatLists) : Type 0 where
  pub top : pos (unmarked l.top) ≤ℤ p.topnumber
  pub bottom : pos (unmarked l.bottom) ≤ℤ p.bottomnumber
  pub double : pos (unmarked l.double) ≤ℤ p.dbltopnumber
  pub text : pos (unmarked l.here + unmarked l.top + unmarked l.bottom) ≤ℤ p.totalnumber

-- this is so just before and just after a float is placed, by the parameters that hold then, and only a float that is placed makes an area hold
-- more; at a change of columns, and where a measure is set, it is so whatever numbers the areas have
abbrev pub KeepsNumbers : Recorded → Type 0
KeepsNumbers (placed p f place l height) = HoldsNumbers p l × HoldsNumbers p (joined_to place f l)
KeepsNumbers (output c) = Unit {0}
KeepsNumbers (emptied l) = (p : Params) → IsTrue (are_params p) → HoldsNumbers p l

-- at no moment of the run of a valid galley does an area hold more floats without `!` than its number, whatever the run's end
abbrev pub NumbersHold : Type 0
NumbersHold = (g : Galley) → IsValid g → AllByRecursion KeepsNumbers (run_of g).records
