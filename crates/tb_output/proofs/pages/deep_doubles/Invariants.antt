use Rattle.std.proofs.Common.{◌≡◌, ◌+◌, List}
use Rattle.tb_node.specs.declared.Float.{Float}
use Rattle.tb_float.specs.Lists.{float_entries}
use Rattle.tb_sheet.specs.Sheet.{deep_count}
use Rattle.tb_output.proofs.pages.deep_doubles.Given as goal

abbrev pub invariant-loop-entry : goal.invariant-loop-entry
invariant-loop-entry l = record {
  can_next : (goal.iterator-loop-entry).can_next l.entry-iterator;
  is_finite : (goal.iterator-loop-entry).is_finite l.entry-iterator;
  way : (fs : List Float) × (l.entry-iterator ≡ float_entries fs) × (l.count + deep_count fs ≡ deep_count l.fn.pool.lists.double);
}
