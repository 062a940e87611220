use Rattle.std.proofs.Common.{◌≡◌, List, ◌++◌, take}
use Rattle.tb_node.specs.declared.Float.{Float}
use Rattle.tb_float.specs.Lists.{float_entries, floats_of}
use Rattle.tb_fpage.specs.Company.{passed_over}
use Rattle.tb_told.proofs.choices.pass_over.Given as goal

abbrev pub invariant-loop-entry : goal.invariant-loop-entry
invariant-loop-entry l = record {
  can_next : (goal.iterator-loop-entry).can_next l.entry-iterator;
  is_finite : (goal.iterator-loop-entry).is_finite l.entry-iterator;
  way : (fs : List Float) × (l.entry-iterator ≡ float_entries fs) × (l.choices.items ++ passed_over (take l.left fs) ≡ passed_over (take l.fn.count (floats_of l.fn.from l.fn.pool.lists)));
}
