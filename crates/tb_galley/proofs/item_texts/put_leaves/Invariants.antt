use Rattle.std.proofs.Common.{◌≡◌, ◌++◌, drop}
use Rattle.tb_galley.specs.CanonicalText.{leaf_lines}
use Rattle.tb_galley.proofs.item_texts.put_leaves.Given as goal

abbrev pub invariant-loop-leaf : goal.invariant-loop-leaf
invariant-loop-leaf l = l.out.items ++ leaf_lines (drop l.leaf-index l.leaves) ≡ l.fn.out.items ++ leaf_lines l.leaves
