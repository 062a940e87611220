use Rattle.std.proofs.Common.{◌≡◌, length, map}
use Rattle.std.specs.List.{AllByRecursion}
use Rattle.tb_search.specs.Starts.{row_of, IsStart, IsTable}
use Rattle.tb_search.proofs.LaterLemmas.{IsSearchedTo}
use Rattle.tb_search.proofs.table.Table.expand_all.Given as goal

-- the states from the last are searched, but for those that are left
abbrev pub invariant-starts : goal.invariant-starts
invariant-starts l = record {
  table : IsTable l.self;
  levels : length l.self.starts.items ≡ length l.initial.self.starts.items;
  starts : AllByRecursion (IsStart l.self.galley.now l.self.bound l.left) l.starts.items;
  searched : IsSearchedTo l.initial.self.galley.now l.left (map (row_of l.initial.self.galley.now l.left) l.initial.starts.items) l.starts.items l.initial.self l.self;
}

abbrev pub decreases-starts : goal.decreases-starts
decreases-starts l = length l.starts.items
