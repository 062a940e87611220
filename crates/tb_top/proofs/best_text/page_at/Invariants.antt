use Rattle.std.proofs.Common.{◌≡◌, drop}
use Rattle.tb_best.specs.BestLines.{page_at}
use Rattle.tb_top.specs.BestText.{shown_columns}
use Rattle.tb_top.proofs.best_text.page_at.Given as goal

abbrev pub invariant-loop-column : goal.invariant-loop-column
invariant-loop-column l = page_at (shown_columns (drop l.column-index l.columns)) l.line ≡ page_at (shown_columns l.fn.columns) l.fn.line
