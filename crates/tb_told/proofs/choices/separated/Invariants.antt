use Rattle.std.proofs.Common.{◌≡◌, ◌*◌, drop}
use Rattle.std.specs.Prelude.{◌+ℤ◌}
use Rattle.tb_float.specs.Ranges.{IsWithin}
use Rattle.tb_fpage.specs.Company.{separated}
use Rattle.tb_told.proofs.choices.separated.Given as goal

abbrev pub invariant-loop-choice : goal.invariant-loop-choice
invariant-loop-choice l = record {
  summed : l.sum +ℤ separated l.sep (drop l.choice-index l.choices) ≡ separated l.sep l.choices;
  within : IsWithin (36893488147419103232 * l.choice-index) l.sum;
}
