use Rattle.std.proofs.Common.{refl}
use Rattle.tb_text.proofs.FrontLemmas.{cut, fails, on_joined}
use Rattle.tb_report.proofs.warnings.put_number_line.Goals as goal

pub returns-in_err-put_total : goal.returns-in_err-put_total
returns-in_err-put_total c =
    fails _ _ _ _ c.from_residual.ensures.0 (cut _ c.in_err-put_total.ensures)

pub returns : goal.returns
returns c =
    on_joined _ _ _ _ _ _ _ refl c.in_ok-put_total.ensures c.end_line.ensures
