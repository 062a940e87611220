use Rattle.std.proofs.Common.{subst, ap}
use Rattle.std.proofs.lemmas.List.{drop_all}
use Rattle.tb_text.proofs.FrontLemmas.{PutSoFar, put-begins, put-more, put-stops, put-ends, fails}
use Rattle.tb_story.specs.StoryLines.{story_lines}
use Rattle.tb_story.proofs.LineLemmas.{lines_step}
use Rattle.tb_story.proofs.lines.put_stories.Goals as goal

pub loop-story-init : goal.loop-story-init
loop-story-init c = put-begins _ _

pub loop-story-preserved : goal.loop-story-preserved
loop-story-preserved c =
    put-more _ _ _
    (subst (λ t. PutSoFar c.args.out.now.items (story_lines c.args.stories.now) c.loop-story.out.items t) (lines_step c.args.stories.now c.loop-story.story-index c.story-item.result c.loop-story-test.true c.story-item.is) c.loop-story.invariant)
    c.in_ok-put_line.ensures

pub returns-in_err-put_line : goal.returns-in_err-put_line
returns-in_err-put_line c =
    fails _ _ _ _ c.from_residual.ensures.0
    (put-stops _ _
    (subst (λ t. PutSoFar c.args.out.now.items (story_lines c.args.stories.now) c.loop-story.out.items t) (lines_step c.args.stories.now c.loop-story.story-index c.story-item.result c.loop-story-test.true c.story-item.is) c.loop-story.invariant)
    c.in_err-put_line.ensures)

pub returns : goal.returns
returns c =
    put-ends
    (subst (λ t. PutSoFar c.args.out.now.items (story_lines c.args.stories.now) c.loop-story.out.items t) (ap story_lines (drop_all c.loop-story.story-index c.args.stories.now c.loop-story-test.false)) c.loop-story.invariant)
