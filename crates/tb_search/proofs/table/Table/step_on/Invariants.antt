use Rattle.std.proofs.Common.{◌⊎◌, ◌<◌}
use Rattle.tb_best.specs.PlanDemerits.{unlimited_step}
use Rattle.tb_search.specs.Branches.{shown}
use Rattle.tb_search.specs.FilledBranches.{IsRefusal}
use Rattle.tb_search.specs.Starts.{IsTable, MayTake}
use Rattle.tb_search.specs.Continues.{IsTakenOn}
use Rattle.tb_search.proofs.table.Table.step_on.Given as goal

-- items were taken, and no page fires or no run goes on from here; if nothing is ahead, the run does not end well
abbrev pub invariant-items : goal.invariant-items
invariant-items l = record {
  table : IsTable l.self;
  on : IsTakenOn l.fn.self l.fn.left l.fn.start l.self l.left (record { branch = l.branch; way = l.way });
  may : MayTake (shown l.branch);
  some : (0 < l.left) ⊎ IsRefusal (unlimited_step (shown l.branch));
}

abbrev pub decreases-items : goal.decreases-items
decreases-items l = l.left
