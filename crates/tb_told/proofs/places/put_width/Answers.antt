use Rattle.std.proofs.Common.{codes, refl}
use Rattle.tb_text.proofs.FrontLemmas.{cut-in, fails}
use Rattle.tb_told.specs.Lines.{width_text}
use Rattle.tb_told.proofs.places.put_width.Goals as goal

pub returns-in_err-put : goal.returns-in_err-put
returns-in_err-put c = fails _ _ _ _ c.from_residual.ensures.0 (cut-in {a = codes " width "} (width_text c.args.wide) _ refl c.in_err-put.ensures)
