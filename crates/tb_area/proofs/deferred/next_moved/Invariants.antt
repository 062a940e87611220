use Rattle.std.proofs.Common.{◌≡◌, drop}
use Rattle.tb_float.specs.declared.Part.TheVariants as parts
use Rattle.tb_float.specs.Lists.{float_entries}
use Rattle.tb_area.specs.Deferred.{filled}
use Rattle.tb_area.specs.DeferredWalk.{GoesOn}
use Rattle.tb_area.proofs.deferred.next_moved.Given as goal

abbrev pub invariant-loop-entry : goal.invariant-loop-entry
invariant-loop-entry l = record {
  can_next : (goal.iterator-loop-entry).can_next l.entry-iterator;
  is_finite : (goal.iterator-loop-entry).is_finite l.entry-iterator;
  left : l.entry-iterator ≡ float_entries (drop l.kept.count l.fn.pool.lists.deferred);
  way : GoesOn parts.Deferred (filled l.fn.p l.fn.s) l.fn.pool.lists l.initial.kept l.kept;
}
