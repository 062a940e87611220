use Rattle.std.proofs.Common.{FitsSigned, refl}
use Rattle.std.specs.Int.{w128}
use Rattle.std.proofs.lemmas.Int.{to_z-of_z}
use Rattle.tb_text.proofs.FrontLemmas.{cut, fails, on_joined}
use Rattle.tb_report.proofs.items.end_at.Goals as goal

pub returns-in_err-put_field : goal.returns-in_err-put_field
returns-in_err-put_field c =
    let t : FitsSigned w128 c.args.top = c.ranges.top in
    fails _ _ _ _ c.from_residual.ensures.0 (cut _ (simp to_z-of_z at c.in_err-put_field.ensures))

pub returns : goal.returns
returns c =
    let t : FitsSigned w128 c.args.top = c.ranges.top in
    on_joined _ _ _ _ _ _ _ refl (simp to_z-of_z at c.in_ok-put_field.ensures) c.end_line.ensures
