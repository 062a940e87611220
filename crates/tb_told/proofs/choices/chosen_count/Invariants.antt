use Rattle.std.proofs.Common.{◌≡◌, ◌≤◌, ◌+◌, length, drop}
use Rattle.tb_fpage.specs.Company.{chosen_floats}
use Rattle.tb_told.proofs.choices.chosen_count.Given as goal

abbrev pub invariant-loop-choice : goal.invariant-loop-choice
invariant-loop-choice l = record {
  counted : l.count + length (chosen_floats (drop l.choice-index l.choices)) ≡ length (chosen_floats l.choices);
  few : l.count ≤ l.choice-index;
}
