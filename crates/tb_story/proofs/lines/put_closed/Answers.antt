use Rattle.std.proofs.Common.{subst, sym, ◌∙◌}
use Rattle.tb_text.specs.Fronts.{PutsAfter}
use Rattle.tb_story.proofs.LineLemmas.{closed_text}
use Rattle.tb_story.proofs.lines.put_closed.Goals as goal

pub returns-else-is_alike : goal.returns-else-is_alike
returns-else-is_alike c =
    subst (λ t. PutsAfter c.put_run.result c.args.out.now.items t c.put_run.new.out.items)
    (closed_text c.args.k.now c.args.group.now c.in-Some.g c.args.groups.now c.in-Some.is (sym c.is_alike.ensures ∙ c.if-is_alike.false)) c.put_run.ensures
