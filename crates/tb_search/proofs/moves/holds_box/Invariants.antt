use Rattle.std.proofs.Common.{◌≡◌}
use Rattle.tb_pool.specs.Lists.{list_at}
use Rattle.tb_search.proofs.BoxLemmas.{has_box}
use Rattle.tb_search.proofs.moves.holds_box.Given as goal

-- the nodes from here on have a box if the list has one
abbrev pub invariant-loop-node : goal.invariant-loop-node
invariant-loop-node l = record {
  can_next : (goal.iterator-loop-node).can_next l.node-iterator;
  is_finite : (goal.iterator-loop-node).is_finite l.node-iterator;
  same : has_box l.node-iterator ≡ has_box (list_at l.fn.store l.fn.list);
}
