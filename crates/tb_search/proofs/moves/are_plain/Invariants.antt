use Rattle.std.proofs.Common.{◌≡◌}
use Rattle.tb_pool.specs.Lists.{list_at}
use Rattle.tb_search.proofs.PlainLemmas.{are_plain_nodes}
use Rattle.tb_search.proofs.moves.are_plain.Given as goal

-- the nodes from here on are plain if those of the list are
abbrev pub invariant-loop-node : goal.invariant-loop-node
invariant-loop-node l = record {
  can_next : (goal.iterator-loop-node).can_next l.node-iterator;
  is_finite : (goal.iterator-loop-node).is_finite l.node-iterator;
  same : are_plain_nodes l.node-iterator ≡ are_plain_nodes (list_at l.fn.store l.fn.list);
}
