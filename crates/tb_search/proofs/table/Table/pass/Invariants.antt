use Rattle.std.proofs.Common.{◌<◌}
use Rattle.std.specs.Prelude.{IfSome}
use Rattle.tb_search.specs.Branches.{shown}
use Rattle.tb_search.specs.AheadInCode.{items_ahead}
use Rattle.tb_search.specs.Calm.{with_first, IsCalm}
use Rattle.tb_rate.specs.Places.{place_penalties}
use Rattle.tb_search.specs.Told.{IsTold}
use Rattle.tb_search.specs.Continues.{IsTakenOn}
use Rattle.tb_search.specs.Starts.{IsTable, MayTake}
use Rattle.tb_search.proofs.table.Table.pass.Given as goal

-- items were taken, and so many more may be taken before a page can fire
abbrev pub invariant-items : goal.invariant-items
invariant-items l = record {
  table : IsTable l.self;
  on : IsTakenOn l.fn.self l.fn.left l.fn.start l.self l.left (record { branch = l.branch; way = l.way });
  may : MayTake (shown l.branch);
  fewer : l.calm < l.left;
  calm : 0 < l.calm → IsCalm (shown l.branch) (items_ahead l.self.galley.now l.left) l.calm;
  told : IfSome l.told (λ t. 0 < l.calm → IsTold (place_penalties l.self.galley.now.items) (with_first l.calm (items_ahead l.self.galley.now l.left) (shown l.branch)) t.now);
}

abbrev pub decreases-items : goal.decreases-items
decreases-items l = l.calm
