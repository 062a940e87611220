use Rattle.std.proofs.Common.{◌≡◌, ◌≤◌, ◌+◌, ◌++◌, length, take}
use Rattle.tb_pool.specs.Lists.{list_at, with_list}
use Rattle.tb_items.specs.WaitingNodes.{leaf_list}
use Rattle.tb_items.proofs.foot_nodes.put_leaves.Given as goal

-- the leaves before are at the end of the list, and there is room for the others
abbrev pub invariant-loop-leaf : goal.invariant-loop-leaf
invariant-loop-leaf l = record {
  added : l.store.lists ≡ with_list l.fn.store l.l (list_at l.fn.store l.l ++ leaf_list (take l.leaf-index l.leaves));
  room : length l.leaves ≤ l.store.spare + l.leaf-index;
}
