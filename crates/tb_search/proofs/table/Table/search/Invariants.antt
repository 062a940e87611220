use Rattle.std.proofs.Common.{length, []}
use Rattle.tb_search.specs.Starts.{IsTable}
use Rattle.tb_search.specs.Continues.{HasSearched}
use Rattle.tb_search.proofs.table.Table.search.Given as goal

-- what waited at first is searched up to what waits now
abbrev pub invariant-levels : goal.invariant-levels
invariant-levels l = record { table : IsTable l.self; searched : HasSearched [] l.initial.self l.self }

abbrev pub decreases-levels : goal.decreases-levels
decreases-levels l = length l.self.starts.items
