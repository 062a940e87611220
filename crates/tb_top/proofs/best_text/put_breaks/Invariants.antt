use Rattle.std.proofs.Common.{◌≡◌, ◌++◌, drop}
use Rattle.tb_best.specs.BestLines.{break_lines}
use Rattle.tb_top.specs.BestText.{shown_columns, AreNumbersOf}
use Rattle.tb_top.proofs.best_text.put_breaks.Given as goal

abbrev pub invariant-loop-before : goal.invariant-loop-before
invariant-loop-before l = record {
  lines : l.out.items ++ break_lines l.items (shown_columns l.columns) (drop l.before-index l.breaks) ≡ l.fn.out.items ++ break_lines l.fn.items (shown_columns l.fn.columns) l.fn.breaks;
  numbers : AreNumbersOf l.items (drop l.before-index l.breaks);
}
