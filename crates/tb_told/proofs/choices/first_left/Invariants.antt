use Rattle.std.proofs.Common.{◌≡◌, drop}
use Rattle.tb_fpage.specs.Company.{left_floats}
use Rattle.tb_told.specs.Tested.{first_of_class}
use Rattle.tb_told.proofs.choices.first_left.Given as goal

abbrev pub invariant-loop-choice : goal.invariant-loop-choice
invariant-loop-choice l = first_of_class l.class (left_floats (drop l.choice-index l.choices)) ≡ first_of_class l.class (left_floats l.choices)
