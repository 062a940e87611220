use Rattle.std.proofs.Common.{◌≡◌, ℕ, None, take}
use Rattle.std.specs.List.{AllByRecursion}
use Rattle.std.specs.FinMap.{get}
use Rattle.tb_pool.specs.Frame.{IsNoneOf}
use Rattle.tb_items.specs.Happenings.{happened_lists}
use Rattle.tb_items.proofs.spent_lists.close_happened.Given as goal

-- the lists of those before are closed, and no others changed
abbrev pub invariant-loop-happening : goal.invariant-loop-happening
invariant-loop-happening l = record {
  closed : AllByRecursion (λ q. get l.store.lists q ≡ None) (happened_lists (take l.happening-index l.happened));
  others : (q : ℕ) → IsNoneOf q (happened_lists (take l.happening-index l.happened)) → get l.store.lists q ≡ get l.fn.store.lists q;
}
