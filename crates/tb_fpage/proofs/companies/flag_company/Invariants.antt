use Rattle.std.proofs.Common.{◌≡◌, ◌-◌, ◌≤◌, length, take, drop}
use Rattle.tb_float.specs.Lists.{float_entries, floats_of}
use Rattle.tb_fpage.specs.Walk.{IsMarking}
use Rattle.tb_fpage.proofs.companies.flag_company.Given as goal

abbrev pub invariant-loop-entry : goal.invariant-loop-entry
invariant-loop-entry l = record {
  can_next : (goal.iterator-loop-entry).can_next l.entry-iterator;
  is_finite : (goal.iterator-loop-entry).is_finite l.entry-iterator;
  left : l.entry-iterator ≡ float_entries (drop l.walk.seen (floats_of l.fn.from l.fn.pool.lists));
  marking : IsMarking l.walk l.fn.wanted (floats_of l.fn.from l.fn.pool.lists) (l.fn.found.walk.seen - 1) (take l.count l.flags);
  few : l.count ≤ length l.flags;
  many : length l.flags ≡ length l.fn.flags;
  within : l.walk.seen ≤ length (floats_of l.fn.from l.fn.pool.lists);
}
