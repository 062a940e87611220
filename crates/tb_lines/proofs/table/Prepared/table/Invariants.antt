use Rattle.std.proofs.Common.{◌≡◌}
use Rattle.tb_lines.specs.Table.{table_of}
use Rattle.tb_lines.specs.ActiveBreaks.{IsActive}
use Rattle.tb_lines.specs.Prepared.{HasSmallTotals}
use Rattle.tb_lines.proofs.table.Prepared.table.Given as goal

abbrev pub invariant-loop-to : goal.invariant-loop-to
invariant-loop-to l = record {
  rows : l.rows.items ≡ table_of l.self.params.now l.self.entries.now l.to;
  totals : HasSmallTotals l.rows.items;
  active : IsActive l.self.params.now l.self.entries.now l.to l.active;
}
