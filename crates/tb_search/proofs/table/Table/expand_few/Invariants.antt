use Rattle.std.proofs.Common.{◌≡◌, length}
use Rattle.std.specs.List.{AllByRecursion}
use Rattle.tb_search.specs.Starts.{IsStart, IsTable}
use Rattle.tb_search.proofs.table.Table.expand_few.Given as goal

-- the states that are left can be gone on from
abbrev pub invariant-starts : goal.invariant-starts
invariant-starts l = record {
  table : IsTable l.self;
  galley : l.self.galley ≡ l.initial.self.galley;
  levels : length l.self.starts.items ≡ length l.initial.self.starts.items;
  starts : AllByRecursion (IsStart l.self.galley.now l.self.bound l.left) l.starts.items;
}

abbrev pub decreases-starts : goal.decreases-starts
decreases-starts l = length l.starts.items
