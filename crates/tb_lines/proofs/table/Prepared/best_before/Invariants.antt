use Rattle.std.proofs.Common.{◌≡◌, ◌+◌, IfSome}
use Rattle.tb_lines.specs.SolutionLines.{step_demerits}
use Rattle.tb_lines.specs.Table.{offer, best_among, row_at}
use Rattle.tb_lines.specs.Prepared.{IsSmallTotal}
use Rattle.tb_lines.proofs.table.Prepared.best_before.Given as goal

abbrev pub invariant-loop-from : goal.invariant-loop-from
invariant-loop-from l = record {
  best : l.best ≡ best_among (offer (step_demerits l.self.params.now l.self.entries.now) (row_at l.rows) l.to) l.from;
  small : IfSome l.best (λ b. IsSmallTotal (l.to + 1) b.total);
}
