use Rattle.std.proofs.Common.{◌≡◌, ◌-◌, ◌+◌, ◌≤◌, length}
use Rattle.tb_pool.specs.Lists.{list_at}
use Rattle.tb_builder.specs.PageWalks.{still_count}
use Rattle.tb_builder.proofs.front_nodes.still_count.Given as goal

abbrev pub invariant-loop-n : goal.invariant-loop-n
invariant-loop-n l = record {
  can_next : (goal.iterator-loop-n).can_next l.n-iterator;
  is_finite : (goal.iterator-loop-n).is_finite l.n-iterator;
  within : l.left ≤ l.count;
  few : l.left ≡ length l.n-iterator;
  counted : still_count (list_at l.fn.store l.fn.l) ≡ (l.count - l.left) + still_count l.n-iterator;
}
