use Rattle.std.proofs.Common.{refl}
use Rattle.tb_text.proofs.FrontLemmas.{cut, fails, on_joined, past}
use Rattle.tb_dvi.proofs.file.put_end.Goals as goal

pub returns-in_err-put : goal.returns-in_err-put
returns-in_err-put c =
    fails _ _ _ _ c.from_residual.ensures.0 (cut _ c.in_err-put.ensures)

pub returns-in_err-put_four : goal.returns-in_err-put_four
returns-in_err-put_four c =
    fails _ _ _ _ c.from_residual-in_err-put_four.ensures.0 (past _ c.in_ok-put.ensures (cut _ c.in_err-put_four.ensures))

pub returns-in_err-put-2 : goal.returns-in_err-put-2
returns-in_err-put-2 c =
    fails _ _ _ _ c.from_residual-in_err-put-2.ensures.0 (past _ c.in_ok-put.ensures (past _ c.in_ok-put_four.ensures (cut _ c.in_err-put-2.ensures)))

pub returns : goal.returns
returns c =
    on_joined c.put_filling.result c.args.out.now.items c.put.new.out.items c.put_filling.new.out.items _ _ _ refl c.in_ok-put.ensures (on_joined c.put_filling.result c.put.new.out.items c.put_four.new.out.items c.put_filling.new.out.items _ _ _ refl c.in_ok-put_four.ensures (on_joined c.put_filling.result c.put_four.new.out.items c.put-2.new.out.items c.put_filling.new.out.items _ _ _ refl c.in_ok-put-2.ensures c.put_filling.ensures))
