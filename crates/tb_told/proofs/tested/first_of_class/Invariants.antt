use Rattle.std.proofs.Common.{◌≡◌, List, take}
use Rattle.tb_node.specs.declared.Float.{Float}
use Rattle.tb_float.specs.Lists.{float_entries, floats_of}
use Rattle.tb_told.specs.Tested.{first_of_class}
use Rattle.tb_told.proofs.tested.first_of_class.Given as goal

abbrev pub invariant-loop-entry : goal.invariant-loop-entry
invariant-loop-entry l = record {
  can_next : (goal.iterator-loop-entry).can_next l.entry-iterator;
  is_finite : (goal.iterator-loop-entry).is_finite l.entry-iterator;
  way : (fs : List Float) × (l.entry-iterator ≡ float_entries fs) × (first_of_class l.class (take l.fn.count (floats_of l.fn.part l.fn.pool.lists)) ≡ first_of_class l.class (take l.left fs));
}
