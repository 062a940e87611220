use Rattle.std.proofs.Common.{refl}
use Rattle.tb_text.proofs.FrontLemmas.{cut, fails, on_joined}
use Rattle.tb_report.proofs.fields.put_total.Goals as goal

pub returns-in_err-put : goal.returns-in_err-put
returns-in_err-put c =
    fails _ _ _ _ c.from_residual.ensures.0 (cut _ c.in_err-put.ensures)

pub returns : goal.returns
returns c =
    on_joined _ _ _ _ _ _ _ refl c.in_ok-put.ensures c.put_count.ensures
