use Rattle.std.proofs.Common.{arith, ◌≤◌, ◌∙◌}
use Rattle.tb_text.proofs.FrontLemmas.{fails}
use Rattle.tb_dvi.proofs.ByteLemmas.{fills-some}
use Rattle.tb_dvi.proofs.file.put_filling.Goals as goal

pub returns-in_err-push : goal.returns-in_err-push
returns-in_err-push c =
    let few : c.loop.counter ≤ c.args.count = omega (arith, c.loop-test.true) in
    fails _ _ _ _ c.from_residual.ensures.0 (fills-some c.args.out.now.items _ c.loop.counter c.args.count 223 few (c.in_err-push.ensures.items ∙ c.loop.invariant))
