use Rattle.std.proofs.Common.{refl}
use Rattle.tb_text.proofs.FrontLemmas.{cut, fails, on_joined}
use Rattle.tb_story.proofs.lines.put_waiting.Goals as goal

pub returns-in_err-put_closed : goal.returns-in_err-put_closed
returns-in_err-put_closed c = fails _ _ _ _ c.from_residual.ensures.0 (cut _ c.in_err-put_closed.ensures)

pub returns : goal.returns
returns c =
    on_joined c.put_group.result c.args.out.now.items c.put_closed.new.out.items c.put_group.new.out.items _ _ _ refl c.in_ok-put_closed.ensures
    (simp c.times_so_far.ensures at c.put_group.ensures)
