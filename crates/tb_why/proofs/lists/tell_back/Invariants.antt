use Rattle.std.proofs.Common.{◌≡◌, List, ◌++◌}
use Rattle.tb_node.specs.declared.Float.{Float}
use Rattle.tb_float.specs.Lists.{float_entries, floats_of}
use Rattle.tb_told.specs.Tales.{tales, back_tales}
use Rattle.tb_why.proofs.lists.tell_back.Given as goal

abbrev pub invariant-loop-entry : goal.invariant-loop-entry
invariant-loop-entry l = record {
  can_next : (goal.iterator-loop-entry).can_next l.entry-iterator;
  is_finite : (goal.iterator-loop-entry).is_finite l.entry-iterator;
  way : (fs : List Float) × (l.entry-iterator ≡ float_entries fs) × (l.pieces.items ++ tales (back_tales l.place fs) ≡ l.initial.pieces.items ++ tales (back_tales l.place (floats_of l.fn.from l.fn.pool.lists)));
}
