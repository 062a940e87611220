use Rattle.std.proofs.Common.{map, take}
use Rattle.tb_node.specs.PlainNodes.{shape_of}
use Rattle.tb_node.proofs.ExtentLemmas.{Extending}
use Rattle.tb_output.proofs.Firings.ReadingLemmas.{text}
use Rattle.tb_output.proofs.reading.text_extent.Given as goal

abbrev pub invariant-loop-node : goal.invariant-loop-node
invariant-loop-node l = record {
  can_next : (goal.iterator-loop-node).can_next l.node-iterator;
  is_finite : (goal.iterator-loop-node).is_finite l.node-iterator;
  extending : Extending (map shape_of (text l.fn.store l.fn.held l.fn.body)) l.extent.room l.extent.depth (map shape_of (take l.left l.node-iterator));
}
