use Rattle.std.proofs.Common.{sym, ap, ◌∙◌}
use Rattle.tb_story.specs.Story.{is_open}
use Rattle.tb_story.proofs.StoryLemmas.{over_next, over_all}
use Rattle.tb_story.proofs.stories.count_over.Goals as goal

pub loop-i-preserved : goal.loop-i-preserved
loop-i-preserved c =
    over_next c.loop-i.i c.args.stories.now c.index-stories-i.result c.loop-i.invariant c.loop-i-test.true
    (ap (λ t. is_open t) (sym c.index-stories-i.is) ∙ sym c.is_open.ensures ∙ c.if-is_open.false)

pub returns : goal.returns
returns c = over_all c.loop-i.i c.args.stories.now c.loop-i.invariant c.loop-i-test.false
