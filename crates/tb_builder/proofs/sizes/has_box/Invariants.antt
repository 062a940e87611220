use Rattle.std.proofs.Common.{◌≡◌, map}
use Rattle.std.specs.List.{list_any}
use Rattle.tb_pool.specs.Lists.{list_at}
use Rattle.tb_node.specs.PlainNodes.{shape_of}
use Rattle.tb_node.specs.Shape.{is_box}
use Rattle.tb_builder.proofs.sizes.has_box.Given as goal

abbrev pub invariant-loop-n : goal.invariant-loop-n
invariant-loop-n l = record {
  can_next : (goal.iterator-loop-n).can_next l.n-iterator;
  is_finite : (goal.iterator-loop-n).is_finite l.n-iterator;
  left : list_any is_box (map shape_of (list_at l.fn.store l.fn.l)) ≡ list_any is_box (map shape_of l.n-iterator);
}
