use Rattle.tb_text.proofs.FrontLemmas.{cut, fails}
use Rattle.tb_told.proofs.places.put_begins_at.Goals as goal

pub returns-in_err-put_total : goal.returns-in_err-put_total
returns-in_err-put_total c = rw c.if-wide.true (fails _ _ _ _ c.from_residual.ensures.0 (cut _ c.in_err-put_total.ensures))
