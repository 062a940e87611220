use Rattle.std.proofs.Common.{subst, sym, ◌∙◌}
use Rattle.tb_text.specs.Fronts.{PutsAfter}
use Rattle.tb_text.proofs.FrontLemmas.{cut, fails}
use Rattle.tb_story.specs.Story.{missed_by}
use Rattle.tb_story.specs.StoryLines.{reasons_text}
use Rattle.tb_story.proofs.Story.put_reasons.Goals as goal

pub returns-in_err-put-in-Some : goal.returns-in_err-put-in-Some
returns-in_err-put-in-Some c =
    let s = c.args.self.now in
    subst (λ o. PutsAfter c.from_residual.result c.args.out.now.items (reasons_text (missed_by 0 o s)) c.put.new.out.items) (sym c.in-Some.is ∙ c.last_at_end.ensures)
    (fails _ _ _ _ c.from_residual.ensures.0 (cut _ c.in_err-put-in-Some.ensures))
