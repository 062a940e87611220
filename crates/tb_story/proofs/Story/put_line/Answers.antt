use Rattle.std.proofs.Common.{refl}
use Rattle.tb_text.proofs.FrontLemmas.{cut, fails, on_joined}
use Rattle.tb_story.proofs.Story.put_line.Goals as goal

pub returns-in_err-put_text : goal.returns-in_err-put_text
returns-in_err-put_text c = fails _ _ _ _ c.from_residual.ensures.0 (cut _ c.in_err-put_text.ensures)

pub returns : goal.returns
returns c =
    on_joined c.end_line.result c.args.out.now.items c.put_text.new.out.items c.end_line.new.out.items _ _ _ refl c.in_ok-put_text.ensures c.end_line.ensures
