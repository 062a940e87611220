use Rattle.std.proofs.Common.{refl}
use Rattle.tb_text.proofs.FrontLemmas.{cut, fails, on_joined}
use Rattle.tb_report.proofs.sheets.put_columns.Goals as goal

pub returns-in_err-put_column : goal.returns-in_err-put_column
returns-in_err-put_column c =
    fails _ _ _ _ c.from_residual.ensures.0 (cut _ c.in_err-put_column.ensures)

pub returns : goal.returns
returns c =
    on_joined _ _ _ _ _ _ _ refl c.in_ok-put_column.ensures c.put_column-2.ensures
