use Rattle.std.proofs.Common.{◌≡◌, ◌-◌, ◌≤◌}
use Rattle.tb_best.specs.ItemsAhead.{state_with}
use Rattle.tb_search.specs.Branches.{shown}
use Rattle.tb_search.specs.AheadInCode.{items_ahead}
use Rattle.tb_search.specs.Calm.{nodes_of_first}
use Rattle.tb_search.specs.Starts.{IsReached}
use Rattle.tb_search.proofs.table.Table.stop_behind.Given as goal

-- some of the items were taken, and the state once all are taken is still the same
abbrev pub invariant-items : goal.invariant-items
invariant-items l = record {
  reached : IsReached l.fn.self.galley.now l.behind (record { branch = l.trials.page; way = l.fn.start.way });
  above : (l.fn.left - l.fn.count) ≤ l.behind;
  below : l.behind ≤ l.fn.left;
  same : state_with (nodes_of_first l.fn.count (items_ahead l.fn.self.galley.now l.fn.left)) (shown l.fn.start.branch) ≡ state_with (nodes_of_first (l.behind - (l.fn.left - l.fn.count)) (items_ahead l.fn.self.galley.now l.behind)) (shown l.trials.page);
}

abbrev pub decreases-items : goal.decreases-items
decreases-items l = l.behind
