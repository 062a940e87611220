use Rattle.std.proofs.Common.{refl}
use Rattle.tb_text.proofs.FrontLemmas.{cut, fails, on_joined, past}
use Rattle.tb_dvi.proofs.file.put_units.Goals as goal

pub returns-in_err-put_four : goal.returns-in_err-put_four
returns-in_err-put_four c =
    fails _ _ _ _ c.from_residual.ensures.0 (cut _ c.in_err-put_four.ensures)

pub returns-in_err-put_four-2 : goal.returns-in_err-put_four-2
returns-in_err-put_four-2 c =
    fails _ _ _ _ c.from_residual-in_err-put_four-2.ensures.0 (past _ c.in_ok-put_four.ensures (cut _ c.in_err-put_four-2.ensures))

pub returns : goal.returns
returns c =
    on_joined c.put_four-3.result c.args.out.now.items c.put_four.new.out.items c.put_four-3.new.out.items _ _ _ refl c.in_ok-put_four.ensures (on_joined c.put_four-3.result c.put_four.new.out.items c.put_four-2.new.out.items c.put_four-3.new.out.items _ _ _ refl c.in_ok-put_four-2.ensures c.put_four-3.ensures)
