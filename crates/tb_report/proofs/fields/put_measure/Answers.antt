use Rattle.std.proofs.Common.{FitsSigned, refl, w64}
use Rattle.std.proofs.lemmas.Int.{to_z-of_z}
use Rattle.tb_text.proofs.FrontLemmas.{cut, fails, on_joined}
use Rattle.tb_report.proofs.fields.put_measure.Goals as goal

pub returns-in_err-put : goal.returns-in_err-put
returns-in_err-put c =
    fails _ _ _ _ c.from_residual.ensures.0 (cut _ c.in_err-put.ensures)

pub returns : goal.returns
returns c =
    let a : FitsSigned w64 c.args.amount = c.ranges.amount in
    on_joined _ _ _ _ _ _ _ refl c.in_ok-put.ensures (simp to_z-of_z at c.put_amount.ensures)
