use Rattle.std.proofs.Common.{◌≡◌, ◌+◌, length}
use Rattle.tb_pool.specs.Lists.{list_at}
use Rattle.tb_float.specs.Pool.{first_marked}
use Rattle.tb_float.specs.Shelves.{marks_in}
use Rattle.tb_float.proofs.slots.first_marked.Given as goal

abbrev pub invariant-loop-slot : goal.invariant-loop-slot
invariant-loop-slot l = record {
  can_next : (goal.iterator-loop-slot).can_next l.slot-iterator;
  is_finite : (goal.iterator-loop-slot).is_finite l.slot-iterator;
  passed : l.k + first_marked (marks_in l.slot-iterator) ≡ first_marked (marks_in (list_at l.fn.store l.fn.l));
  few : l.k + length l.slot-iterator ≡ length (list_at l.fn.store l.fn.l);
}
