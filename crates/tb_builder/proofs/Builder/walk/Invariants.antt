use Rattle.std.proofs.Common.{◌≡◌, ◌-◌, ◌+◌, ◌≤◌, ◌∷◌, true, false, length, drop}
use Rattle.tb_pool.specs.Lists.{list_at}
use Rattle.tb_builder.specs.Ownership.{ids_of}
use Rattle.tb_builder.specs.PageWalks.{moved, LeadsOn}
use Rattle.tb_builder.proofs.Builder.walk.Given as goal

abbrev pub invariant-loop-behind : goal.invariant-loop-behind
invariant-loop-behind l = record {
  can_next : (goal.iterator-loop-behind).can_next l.behind-iterator;
  is_finite : (goal.iterator-loop-behind).is_finite l.behind-iterator;
  within : l.left ≤ l.all;
  rest : drop (l.all - l.left) (list_at l.fn.store l.self.waiting) ≡ l.n ∷ l.behind-iterator;
  few : l.left ≡ length l.behind-iterator + 1;
  on : l.self.stopped ≡ false;
  opened : l.self.opened ≡ true;
  ids : ids_of l.self ≡ ids_of l.fn.self;
  leads : LeadsOn l.fn.self l.fn.store l.fn.ask l.self (moved (ids_of l.self) l.fn.store (l.all - l.left));
}
