use Rattle.std.proofs.Common.{◌≡◌, length}
use Rattle.tb_node.proofs.StepLemmas.{InStep}
use Rattle.tb_float.specs.Lists.{entries_of}
use Rattle.tb_float.proofs.Pool.lists_same.Given as goal

abbrev pub invariant-loop-entry : goal.invariant-loop-entry
invariant-loop-entry l = record {
  can_next : (goal.iterator-loop-entry).can_next l.entry-iterator;
  is_finite : (goal.iterator-loop-entry).is_finite l.entry-iterator;
  in_step : InStep (entries_of l.fn.part l.fn.self.lists) (entries_of l.fn.part l.fn.other.lists) l.entry-iterator l.others;
  even : length l.entry-iterator ≡ length l.others;
}
