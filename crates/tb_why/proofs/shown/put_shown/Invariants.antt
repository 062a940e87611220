use Rattle.std.proofs.Common.{◌≡◌, ◌++◌, drop}
use Rattle.tb_why.specs.ShownLines.{all_shown_lines}
use Rattle.tb_why.specs.ShownOf.{all_shown_of, AreShownPages}
use Rattle.tb_why.proofs.shown.put_shown.Given as goal

abbrev pub invariant-loop-showing : goal.invariant-loop-showing
invariant-loop-showing l = record {
  lines : l.out.items ++ all_shown_lines (all_shown_of l.store (drop l.showing-index l.shown)) ≡ l.fn.out.items ++ all_shown_lines (all_shown_of l.store l.fn.shown);
  pages : AreShownPages l.store (drop l.showing-index l.shown);
}
