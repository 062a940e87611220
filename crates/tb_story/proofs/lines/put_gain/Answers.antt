use Rattle.std.proofs.Common.{FitsSigned, rules}
use Rattle.std.specs.Int.{w128}
use Rattle.std.proofs.lemmas.Int.{to_z-of_z}
use Rattle.tb_text.proofs.FrontLemmas.{cut, fails}
use Rattle.tb_story.proofs.lines.put_gain.Goals as goal

pub returns-in_err-put_field : goal.returns-in_err-put_field
returns-in_err-put_field c =
    let a : FitsSigned w128 c.args.g.now.kept.by = search rules in
    fails _ _ _ _ c.from_residual.ensures.0 (cut _ (simp to_z-of_z at c.in_err-put_field.ensures))
