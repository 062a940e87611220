use Rattle.std.proofs.Common.{◌≡◌}
use Rattle.tb_steps.specs.Run.{firings_left}
use Rattle.tb_search.specs.Branches.{shown}
use Rattle.tb_search.proofs.SettleLemmas.{IsFilledOn}
use Rattle.tb_search.proofs.table.Table.settle.Given as goal

-- the table is as it was, and if the state after these pages is searched, so is the first
abbrev pub invariant-fires : goal.invariant-fires
invariant-fires l = record {
  same : l.self ≡ l.fn.self;
  on : IsFilledOn l.self l.left (record { branch = l.fn.branch; way = l.fn.way }) (record { branch = l.branch; way = l.way });
}

abbrev pub decreases-fires : goal.decreases-fires
decreases-fires l = firings_left (shown l.branch)
