use Rattle.std.proofs.Common.{◌≡◌}
use Rattle.tb_pool.specs.Lists.{list_at}
use Rattle.tb_search.proofs.ToldLemmas.{has_set}
use Rattle.tb_search.proofs.moves.sets_any.Given as goal

-- the nodes from here on set a parameter if the list does
abbrev pub invariant-loop-node : goal.invariant-loop-node
invariant-loop-node l = record {
  can_next : (goal.iterator-loop-node).can_next l.node-iterator;
  is_finite : (goal.iterator-loop-node).is_finite l.node-iterator;
  same : has_set l.node-iterator ≡ has_set (list_at l.fn.store l.fn.list);
}
