use Rattle.std.proofs.Common.{refl}
use Rattle.tb_text.proofs.FrontLemmas.{cut, fails, on_joined}
use Rattle.tb_report.proofs.fields.put_line.Goals as goal

pub returns-in_err-put_named : goal.returns-in_err-put_named
returns-in_err-put_named c =
    fails _ _ _ _ c.from_residual.ensures.0 (cut _ c.in_err-put_named.ensures)

pub returns : goal.returns
returns c =
    on_joined _ _ _ _ _ _ _ refl c.in_ok-put_named.ensures c.end_line.ensures
