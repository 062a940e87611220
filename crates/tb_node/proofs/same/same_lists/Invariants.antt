use Rattle.std.proofs.Common.{◌≡◌, length}
use Rattle.tb_pool.specs.Lists.{list_at}
use Rattle.tb_node.proofs.StepLemmas.{InStep}
use Rattle.tb_node.proofs.same.same_lists.Given as goal

abbrev pub invariant-loop-node : goal.invariant-loop-node
invariant-loop-node l = record {
  can_next : (goal.iterator-loop-node).can_next l.node-iterator;
  is_finite : (goal.iterator-loop-node).is_finite l.node-iterator;
  in_step : InStep (list_at l.fn.store l.fn.list) (list_at l.fn.other l.fn.other_list) l.node-iterator l.others;
  even : length l.node-iterator ≡ length l.others;
}
