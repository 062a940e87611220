use Rattle.std.proofs.Common.{◌≡◌, take}
use Rattle.tb_plans.proofs.broken_galley.copied_leaves.Given as goal

abbrev pub invariant-loop-leaf : goal.invariant-loop-leaf
invariant-loop-leaf l = l.made ≡ take l.leaf-index l.leaves
