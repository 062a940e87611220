use Rattle.std.proofs.Common.{refl, FitsSigned, rules}
use Rattle.std.specs.Int.{w128}
use Rattle.std.proofs.lemmas.Int.{to_z-of_z}
use Rattle.tb_text.proofs.FrontLemmas.{cut, past, fails, on_joined}
use Rattle.tb_dvi.proofs.placement.put_height.Goals as goal

pub returns-in_err-put-in-Some : goal.returns-in_err-put-in-Some
returns-in_err-put-in-Some c = rw c.in-Some.is (fails _ _ _ _ c.from_residual.ensures.0 (cut _ c.in_err-put-in-Some.ensures))

pub returns-in_err-put_low-in-Some : goal.returns-in_err-put_low-in-Some
returns-in_err-put_low-in-Some c =
    let h : FitsSigned w128 c.in-Some.height = search rules in
    rw c.in-Some.is (fails _ _ _ _ c.from_residual-in_err-put_low-in-Some.ensures.0
    (past _ c.in_ok-put-in-Some.ensures (cut _ (simp to_z-of_z at c.in_err-put_low-in-Some.ensures))))

pub returns-in_ok-put_low-in-Some : goal.returns-in_ok-put_low-in-Some
returns-in_ok-put_low-in-Some c =
    let h : FitsSigned w128 c.in-Some.height = search rules in
    rw c.in-Some.is (on_joined c.put_four.result c.args.out.now.items c.put.new.out.items c.put_four.new.out.items _ _ _ refl c.in_ok-put-in-Some.ensures
    (on_joined c.put_four.result c.put.new.out.items c.put_low.new.out.items c.put_four.new.out.items _ _ _ refl (simp to_z-of_z at c.in_ok-put_low-in-Some.ensures) c.put_four.ensures))
