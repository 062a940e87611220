use Rattle.tb_text.proofs.FrontLemmas.{cut, fails}
use Rattle.tb_story.proofs.lines.put_because.Goals as goal

pub returns-in_err-put-in-Some : goal.returns-in_err-put-in-Some
returns-in_err-put-in-Some c = rw c.in-Some.is (fails _ _ _ _ c.from_residual.ensures.0 (cut _ c.in_err-put-in-Some.ensures))
