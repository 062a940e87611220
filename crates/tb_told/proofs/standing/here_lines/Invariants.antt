use Rattle.std.proofs.Common.{◌≡◌, ◌++◌, map}
use Rattle.tb_pool.specs.Lists.{list_at}
use Rattle.tb_node.specs.PlainNodes.{plain_of, plain_list}
use Rattle.tb_told.specs.Tales.{here_lines}
use Rattle.tb_told.proofs.standing.here_lines.Given as goal

abbrev pub invariant-loop-node : goal.invariant-loop-node
invariant-loop-node l = record {
  can_next : (goal.iterator-loop-node).can_next l.node-iterator;
  is_finite : (goal.iterator-loop-node).is_finite l.node-iterator;
  lines : l.lines.items ++ here_lines (map (plain_of (list_at l.fn.store)) l.node-iterator) ≡ here_lines (plain_list l.fn.store l.fn.body);
}
