use Rattle.std.proofs.Common.{◌≡◌, List}
use Rattle.tb_node.specs.declared.Float.{Float}
use Rattle.tb_float.specs.Lists.{float_entries, floats_of}
use Rattle.tb_float.specs.Classes.{HasLeft}
use Rattle.tb_fpage.specs.Walk.{AreTried}
use Rattle.tb_fpage.proofs.companies.try_all.Given as goal

abbrev pub invariant-loop-entry : goal.invariant-loop-entry
invariant-loop-entry l = record {
  can_next : (goal.iterator-loop-entry).can_next l.entry-iterator;
  is_finite : (goal.iterator-loop-entry).is_finite l.entry-iterator;
  tried : (left : List Float) × (l.entry-iterator ≡ float_entries left) × AreTried l.fn.wanted l.earlier l.place (floats_of l.fn.from l.fn.pool.lists) left;
  left : HasLeft l.earlier (floats_of l.fn.from l.fn.pool.lists);
}
