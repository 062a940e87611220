use Rattle.std.proofs.Common.{refl}
use Rattle.tb_text.proofs.FrontLemmas.{cut, fails, on_joined}
use Rattle.tb_told.proofs.fields.put_end.Goals as goal

pub returns-in_err-put_verdict : goal.returns-in_err-put_verdict
returns-in_err-put_verdict c =
    fails _ _ _ _ c.from_residual.ensures.0 (cut _ c.in_err-put_verdict.ensures)

pub returns : goal.returns
returns c =
    on_joined c.end_line.result c.args.out.now.items c.put_verdict.new.out.items c.end_line.new.out.items _ _ _ refl c.in_ok-put_verdict.ensures c.end_line.ensures
