use Rattle.std.proofs.Common.{◌≡◌, drop}
use Rattle.tb_float.specs.Lists.{float_entries, floats_of}
use Rattle.tb_float.specs.Classes.{HasLeft}
use Rattle.tb_fpage.specs.Walk.{IsOnWay, company_of_place}
use Rattle.tb_fpage.proofs.companies.walk_company.Given as goal

abbrev pub invariant-loop-entry : goal.invariant-loop-entry
invariant-loop-entry l = record {
  can_next : (goal.iterator-loop-entry).can_next l.entry-iterator;
  is_finite : (goal.iterator-loop-entry).is_finite l.entry-iterator;
  left : l.entry-iterator ≡ float_entries (drop l.walk.seen (floats_of l.fn.from l.fn.pool.lists));
  way : IsOnWay l.walk l.fn.wanted (floats_of l.fn.from l.fn.pool.lists) (company_of_place l.fn.wanted l.fn.place (floats_of l.fn.from l.fn.pool.lists) l.fn.f);
  classes_left : HasLeft l.walk.failed (floats_of l.fn.from l.fn.pool.lists);
}
