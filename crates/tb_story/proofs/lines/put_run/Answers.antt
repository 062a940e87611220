use Rattle.std.proofs.Common.{refl}
use Rattle.tb_text.proofs.FrontLemmas.{cut, fails, on_joined}
use Rattle.tb_story.proofs.lines.put_run.Goals as goal

pub returns-in_err-put_groups : goal.returns-in_err-put_groups
returns-in_err-put_groups c = fails _ _ _ _ c.from_residual.ensures.0 (cut _ c.in_err-put_groups.ensures)

pub returns : goal.returns
returns c =
    on_joined c.put_group.result c.args.out.now.items c.put_groups.new.out.items c.put_group.new.out.items _ _ _ refl c.in_ok-put_groups.ensures c.put_group.ensures
