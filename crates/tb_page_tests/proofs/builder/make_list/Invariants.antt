use Rattle.std.proofs.Common.{◌≡◌, ℕ, ◌+◌, ◌≤◌, length, take, Some}
use Rattle.std.specs.FinMap.{get}
use Rattle.tb_pool.specs.Lists.{IsLive}
use Rattle.tb_page_tests.proofs.builder.make_list.Given as goal

abbrev pub invariant-loop-n : goal.invariant-loop-n
invariant-loop-n l = record {
  made : get l.store.lists l.list ≡ Some (take l.n-index l.nodes);
  others : (q : ℕ) → IsLive l.fn.store q → get l.store.lists q ≡ get l.fn.store.lists q;
  room : length l.nodes ≤ l.store.spare + l.n-index;
}
