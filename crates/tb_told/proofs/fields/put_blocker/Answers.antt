use Rattle.tb_text.proofs.FrontLemmas.{cut, fails}
use Rattle.tb_told.proofs.fields.put_blocker.Goals as goal

pub returns-in_err-put : goal.returns-in_err-put
returns-in_err-put c = fails _ _ _ _ c.from_residual.ensures.0 (cut _ c.in_err-put.ensures)
