use Rattle.tb_lines.proofs.FloorSteps.{FloorsFrom}
use Rattle.tb_lines.proofs.sums.floors.Given as goal

abbrev pub invariant-loop-k : goal.invariant-loop-k
invariant-loop-k l = FloorsFrom l.entries l.floors.items l.k
