use Rattle.std.proofs.Common.{map}
use Rattle.tb_node.specs.PlainNodes.{shape_of}
use Rattle.tb_node.specs.Fit.{shapes}
use Rattle.tb_node.proofs.SumLemmas.{Summing}
use Rattle.tb_node.proofs.node_sums.list_sums.Given as goal

abbrev pub invariant-loop-n : goal.invariant-loop-n
invariant-loop-n l = record {
  can_next : (goal.iterator-loop-n).can_next l.n-iterator;
  is_finite : (goal.iterator-loop-n).is_finite l.n-iterator;
  summing : Summing l.fn.max_depth (shapes l.fn.store l.fn.l) l.sums (map shape_of l.n-iterator);
}
