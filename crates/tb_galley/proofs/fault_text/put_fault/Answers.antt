use Rattle.std.proofs.Common.{refl}
use Rattle.tb_text.proofs.FrontLemmas.{cut, fails, on_joined, past}
use Rattle.tb_galley.proofs.fault_text.put_fault.Goals as goal

pub returns-in_err-put_counted : goal.returns-in_err-put_counted
returns-in_err-put_counted c =
    fails _ _ _ _ c.from_residual.ensures.0 (cut _ (simp c.from.ensures at c.in_err-put_counted.ensures))

pub returns-in_err-put_counted-2 : goal.returns-in_err-put_counted-2
returns-in_err-put_counted-2 c =
    fails _ _ _ _ c.from_residual-in_err-put_counted-2.ensures.0 (past _ (simp c.from.ensures at c.in_ok-put_counted.ensures) (cut _ (simp c.from-2.ensures at c.in_err-put_counted-2.ensures)))

pub returns-in_err-put : goal.returns-in_err-put
returns-in_err-put c =
    fails _ _ _ _ c.from_residual-in_err-put.ensures.0 (past _ (simp c.from.ensures at c.in_ok-put_counted.ensures) (past _ (simp c.from-2.ensures at c.in_ok-put_counted-2.ensures) (cut _ c.in_err-put.ensures)))

pub returns : goal.returns
returns c =
    on_joined c.put-2.result c.args.out.now.items c.put_counted.new.out.items c.put-2.new.out.items _ _ _ refl (simp c.from.ensures at c.in_ok-put_counted.ensures) (on_joined c.put-2.result c.put_counted.new.out.items c.put_counted-2.new.out.items c.put-2.new.out.items _ _ _ refl (simp c.from-2.ensures at c.in_ok-put_counted-2.ensures) (on_joined c.put-2.result c.put_counted-2.new.out.items c.put.new.out.items c.put-2.new.out.items _ _ _ refl c.in_ok-put.ensures (simp c.cause_text.ensures at c.put-2.ensures)))
