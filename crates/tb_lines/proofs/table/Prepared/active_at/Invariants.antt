use Rattle.std.proofs.Common.{◌-◌}
use Rattle.tb_lines.specs.ActiveBreaks.{IsActive}
use Rattle.tb_lines.proofs.ActiveBreaks.{with_low}
use Rattle.tb_lines.proofs.table.Prepared.active_at.Given as goal

abbrev pub invariant-passed : goal.invariant-passed
invariant-passed l = IsActive l.self.params.now l.self.entries.now l.to (with_low l.active l.low)

abbrev pub decreases-passed : goal.decreases-passed
decreases-passed l = l.to - l.low
