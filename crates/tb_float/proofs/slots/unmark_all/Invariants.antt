use Rattle.std.proofs.Common.{◌≡◌, ◌≢◌, ℕ, ◌++◌, map, take, drop}
use Rattle.std.specs.FinMap.{get}
use Rattle.tb_pool.specs.Lists.{IsLive, list_at}
use Rattle.tb_float.specs.Shelves.{unmarked_slot}
use Rattle.tb_float.proofs.slots.unmark_all.Given as goal

abbrev pub invariant-loop-turn : goal.invariant-loop-turn
invariant-loop-turn l = record {
  live : IsLive l.store l.fn.l;
  turned : list_at l.store l.fn.l ≡ drop l._turn (list_at l.initial.store l.fn.l) ++ map unmarked_slot (take l._turn (list_at l.initial.store l.fn.l));
  others : (q : ℕ) → q ≢ l.fn.l → get l.store.lists q ≡ get l.initial.store.lists q;
  spare : l.store.spare ≡ l.initial.store.spare;
}
