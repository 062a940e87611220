use Rattle.std.proofs.Common.{length}
use Rattle.tb_search.specs.Starts.{IsTable}
use Rattle.tb_search.proofs.table.Table.search_beam.Given as goal

abbrev pub invariant-levels : goal.invariant-levels
invariant-levels l = record { table : IsTable l.self }

abbrev pub decreases-levels : goal.decreases-levels
decreases-levels l = length l.self.starts.items
