use Rattle.std.proofs.Common.{◌≡◌, take, drop}
use Rattle.tb_pool.specs.Lists.{list_at}
use Rattle.tb_float.specs.Lists.{has_class}
use Rattle.tb_float.specs.Shelves.{floats_in}
use Rattle.tb_float.proofs.slots.class_stands.Given as goal

abbrev pub invariant-loop-slot : goal.invariant-loop-slot
invariant-loop-slot l = record {
  can_next : (goal.iterator-loop-slot).can_next l.slot-iterator;
  is_finite : (goal.iterator-loop-slot).is_finite l.slot-iterator;
  passed : has_class l.fn.class (floats_in (take l.left l.slot-iterator)) ≡ has_class l.fn.class (floats_in (take l.fn.count (drop l.fn.place (list_at l.fn.store l.fn.l))));
}
