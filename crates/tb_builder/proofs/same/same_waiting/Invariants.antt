use Rattle.tb_pool.specs.Lists.{list_at}
use Rattle.tb_builder.proofs.SameLemmas.{Walking}
use Rattle.tb_builder.proofs.same.same_waiting.Given as goal

abbrev pub invariant-loop-node : goal.invariant-loop-node
invariant-loop-node l = record {
  can_next : (goal.iterator-loop-node).can_next l.node-iterator;
  is_finite : (goal.iterator-loop-node).is_finite l.node-iterator;
  walking : Walking l.fn.store l.fn.other_store (list_at l.fn.store l.fn.list) (list_at l.fn.other_store l.fn.other_list) l.node-iterator l.others;
}
