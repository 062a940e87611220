use Rattle.std.proofs.Common.{◌≡◌, ◌+◌, ◌≤◌, List, length, drop}
use Rattle.tb_node.specs.declared.Float.{Float}
use Rattle.tb_float.specs.Lists.{float_entries, floats_of}
use Rattle.tb_fpage.specs.Company.{choices_from}
use Rattle.tb_told.proofs.choices.join_later.Given as goal

abbrev pub invariant-loop-entry : goal.invariant-loop-entry
invariant-loop-entry l = record {
  can_next : (goal.iterator-loop-entry).can_next l.entry-iterator;
  is_finite : (goal.iterator-loop-entry).is_finite l.entry-iterator;
  way : (fs : List Float) × (l.entry-iterator ≡ float_entries fs) × (choices_from l.fn.wanted l.choices.items fs ≡ choices_from l.fn.wanted l.initial.choices.items (drop l.fn.place (floats_of l.fn.from l.fn.pool.lists))) × (length l.choices.items + length fs ≤ 4096);
}
