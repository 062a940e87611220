use Rattle.std.proofs.Common.{◌≡◌, List, ◌++◌}
use Rattle.tb_node.specs.declared.Float.{Float}
use Rattle.tb_float.specs.Lists.{float_entries}
use Rattle.tb_why.specs.ShownTurns.{all_waits, waits_from}
use Rattle.tb_why.proofs.turns.show_waits.Given as goal

abbrev pub invariant-loop-entry : goal.invariant-loop-entry
invariant-loop-entry l = record {
  can_next : (goal.iterator-loop-entry).can_next l.entry-iterator;
  is_finite : (goal.iterator-loop-entry).is_finite l.entry-iterator;
  way : (fs : List Float) × (l.entry-iterator ≡ float_entries fs) × (l.shown.items ++ all_waits l.spot fs ≡ l.fn.shown.items ++ waits_from l.fn.from l.fn.machine);
}
