use Rattle.std.proofs.Common.{◌≡◌, drop}
use Rattle.tb_float.specs.declared.Suppress.{Suppress}
use Rattle.tb_float.specs.Lists.{float_entries, floats_of}
use Rattle.tb_area.specs.Deferred.{doubled}
use Rattle.tb_area.specs.DeferredWalk.{GoesOn}
use Rattle.tb_area.proofs.deferred.next_double.Given as goal

abbrev pub invariant-loop-entry : goal.invariant-loop-entry
invariant-loop-entry l = record {
  can_next : (goal.iterator-loop-entry).can_next l.entry-iterator;
  is_finite : (goal.iterator-loop-entry).is_finite l.entry-iterator;
  left : l.entry-iterator ≡ float_entries (drop l.kept.count (floats_of l.fn.from l.fn.pool.lists));
  way : (s : Suppress) → GoesOn l.fn.from (doubled l.fn.from l.fn.p s) l.fn.pool.lists l.initial.kept l.kept;
}
