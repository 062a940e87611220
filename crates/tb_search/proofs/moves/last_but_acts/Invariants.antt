use Rattle.std.proofs.Common.{◌≡◌, ◌≤◌, take, length}
use Rattle.tb_pool.specs.Lists.{list_at}
use Rattle.tb_search.specs.LastNodes.{last_but_acts}
use Rattle.tb_search.proofs.moves.last_but_acts.Given as goal

-- the nodes from here on are acts
abbrev pub invariant-back : goal.invariant-back
invariant-back l = record {
  inside : l.k ≤ length (list_at l.store l.list);
  same : last_but_acts (take l.k (list_at l.store l.list)) ≡ last_but_acts (list_at l.store l.list);
}

abbrev pub decreases-back : goal.decreases-back
decreases-back l = l.k
