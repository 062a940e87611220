use Rattle.std.proofs.Common.{◌≡◌, ◌+◌, ◌++◌, map}
use Rattle.tb_pool.specs.Lists.{list_at}
use Rattle.tb_node.specs.PlainNodes.{plain_of, plain_list}
use Rattle.tb_items.specs.ItemsLeft.{nodes_left}
use Rattle.tb_rate.specs.RatedRun.{insertions_first}
use Rattle.tb_rate.proofs.held.insertions_first.Given as goal

abbrev pub invariant-loop-node : goal.invariant-loop-node
invariant-loop-node l = record {
  can_next : (goal.iterator-loop-node).can_next l.node-iterator;
  is_finite : (goal.iterator-loop-node).is_finite l.node-iterator;
  counted : l.count + insertions_first (map (plain_of (list_at l.fn.store)) l.node-iterator ++ nodes_left l.left) ≡ insertions_first (plain_list l.fn.store l.fn.waiting ++ nodes_left l.left);
}
