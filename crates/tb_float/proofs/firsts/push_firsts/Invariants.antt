use Rattle.std.proofs.Common.{◌≡◌, ◌+◌, length, drop}
use Rattle.tb_pool.specs.Lists.{list_at}
use Rattle.tb_float.specs.Lists.{float_entries}
use Rattle.tb_float.specs.Shelves.{entries_in, floats_in}
use Rattle.tb_float.proofs.FindLemmas.{AreFound}
use Rattle.tb_float.proofs.firsts.push_firsts.Given as goal

abbrev pub invariant-loop-slot : goal.invariant-loop-slot
invariant-loop-slot l = record {
  can_next : (goal.iterator-loop-slot).can_next l.slot-iterator;
  is_finite : (goal.iterator-loop-slot).is_finite l.slot-iterator;
  few : l.place + length l.slot-iterator ≡ length (list_at l.fn.store l.fn.list);
  entries : entries_in l.slot-iterator ≡ float_entries (drop l.place (floats_in (list_at l.fn.store l.fn.list)));
  found : AreFound (floats_in (list_at l.fn.store l.fn.list)) l.place l.items.items l.classes;
}
