use Rattle.std.proofs.Common.{FitsSigned, rules, w64}
use Rattle.std.proofs.lemmas.Int.{to_z-of_z}
use Rattle.tb_text.proofs.FrontLemmas.{cut, fails, past}
use Rattle.tb_report.proofs.heads.put_ratio.Goals as goal

pub returns-in_err-put_amount : goal.returns-in_err-put_amount
returns-in_err-put_amount c =
    let n : FitsSigned w64 c.args.set.now.num = search rules in
    fails _ _ _ _ c.from_residual.ensures.0 (cut _ (simp to_z-of_z at c.in_err-put_amount.ensures))

pub returns-in_err-put : goal.returns-in_err-put
returns-in_err-put c =
    let n : FitsSigned w64 c.args.set.now.num = search rules in
    fails _ _ _ _ c.from_residual-in_err-put.ensures.0 (past _ (simp to_z-of_z at c.in_ok-put_amount.ensures) (cut _ c.in_err-put.ensures))
