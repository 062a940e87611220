use Rattle.std.proofs.Common.{refl}
use Rattle.tb_text.proofs.FrontLemmas.{cut, fails, on_joined}
use Rattle.tb_story.proofs.Story.put_text.Goals as goal

pub returns-in_err-put_head : goal.returns-in_err-put_head
returns-in_err-put_head c = fails _ _ _ _ c.from_residual.ensures.0 (cut _ c.in_err-put_head.ensures)

pub returns : goal.returns
returns c =
    on_joined c.put_call.result c.args.out.now.items c.put_head.new.out.items c.put_call.new.out.items _ _ _ refl c.in_ok-put_head.ensures c.put_call.ensures
