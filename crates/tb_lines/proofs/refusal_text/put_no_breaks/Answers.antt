use Rattle.std.proofs.Common.{refl}
use Rattle.tb_text.proofs.FrontLemmas.{cut, fails, on_joined}
use Rattle.tb_lines.proofs.refusal_text.put_no_breaks.Goals as goal

pub returns-in_err-put_counted : goal.returns-in_err-put_counted
returns-in_err-put_counted c =
    fails _ _ _ _ c.from_residual.ensures.0 (cut _ c.in_err-put_counted.ensures)

pub returns : goal.returns
returns c =
    on_joined c.put.result c.args.out.now.items c.put_counted.new.out.items c.put.new.out.items _ _ _ refl c.in_ok-put_counted.ensures c.put.ensures
