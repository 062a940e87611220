use Rattle.std.proofs.Common.{◌≡◌, ◌≢◌, ℕ, ◌≤◌, ◌++◌, length, drop}
use Rattle.std.specs.FinMap.{get}
use Rattle.tb_pool.specs.Lists.{IsLive, list_at}
use Rattle.tb_float.specs.Shelves.{flagged_slots}
use Rattle.tb_float.proofs.slots.pass_slots.Given as goal

abbrev pub invariant-loop-flag : goal.invariant-loop-flag
invariant-loop-flag l = record {
  from_live : IsLive l.store l.fn.from;
  to_live : IsLive l.store l.fn.to;
  few : length (drop l.flag-index l.fn.flags) ≤ length (list_at l.store l.fn.from);
  passed : list_at l.store l.fn.to ++ flagged_slots (drop l.flag-index l.fn.flags) (list_at l.store l.fn.from) ≡ list_at l.initial.store l.fn.to ++ flagged_slots l.fn.flags (list_at l.initial.store l.fn.from);
  others : (q : ℕ) → q ≢ l.fn.from → q ≢ l.fn.to → get l.store.lists q ≡ get l.initial.store.lists q;
  spare : l.store.spare ≡ l.initial.store.spare;
}
