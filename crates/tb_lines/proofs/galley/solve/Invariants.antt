use Rattle.std.proofs.Common.{◌≡◌, ◌+◌, drop}
use Rattle.tb_lines.specs.Galley.{solutions_from}
use Rattle.tb_lines.proofs.SolveSteps.{after_these}
use Rattle.tb_lines.proofs.galley.solve.Given as goal

abbrev pub invariant-loop-n : goal.invariant-loop-n
invariant-loop-n l = after_these l.solutions.items (solutions_from l.text.params (l.n + 1) (drop l.n l.text.paragraphs)) ≡ solutions_from l.text.params 1 l.text.paragraphs
