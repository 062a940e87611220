use Rattle.std.proofs.Common.{◌≡◌, ◌≤◌, length, codes}
use Rattle.tb_best.specs.BestLines.{name_before}
use Rattle.tb_top.proofs.best_text.name_before.Given as goal

abbrev pub invariant-loop-i : goal.invariant-loop-i
invariant-loop-i l = record {
  within : l.i ≤ length l.items;
  name : name_before (codes "-") l.i l.items ≡ name_before (codes "-") l.fn.k l.fn.items;
}

abbrev pub decreases-loop-i : goal.decreases-loop-i
decreases-loop-i l = l.i
