use Rattle.std.proofs.Common.{◌≡◌, map}
use Rattle.tb_node.specs.PlainNodes.{shape_of}
use Rattle.tb_node.specs.Fit.{shapes}
use Rattle.tb_node.specs.Sums.{depth_from, last_depth}
use Rattle.tb_column.proofs.foot_depths.list_depth.Given as goal

abbrev pub invariant-loop-node : goal.invariant-loop-node
invariant-loop-node l = record {
  can_next : (goal.iterator-loop-node).can_next l.node-iterator;
  is_finite : (goal.iterator-loop-node).is_finite l.node-iterator;
  left : depth_from l.depth (map shape_of l.node-iterator) ≡ last_depth (shapes l.fn.store l.fn.l);
}
