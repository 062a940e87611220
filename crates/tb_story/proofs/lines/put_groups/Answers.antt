use Rattle.std.proofs.Common.{subst, ap}
use Rattle.std.proofs.lemmas.List.{drop_all}
use Rattle.tb_text.proofs.FrontLemmas.{PutSoFar, put-begins, put-more, put-stops, put-ends, fails}
use Rattle.tb_story.specs.StoryLines.{all_groups}
use Rattle.tb_story.proofs.LineLemmas.{groups_step}
use Rattle.tb_story.proofs.lines.put_groups.Goals as goal

pub loop-g-init : goal.loop-g-init
loop-g-init c = put-begins _ _

pub loop-g-preserved : goal.loop-g-preserved
loop-g-preserved c =
    put-more _ _ _
    (subst (λ t. PutSoFar c.args.out.now.items (all_groups c.args.groups.now) c.loop-g.out.items t) (groups_step c.args.groups.now c.loop-g.g-index c.g-item.result c.loop-g-test.true c.g-item.is) c.loop-g.invariant)
    c.in_ok-put_group.ensures

pub returns-in_err-put_group : goal.returns-in_err-put_group
returns-in_err-put_group c =
    fails _ _ _ _ c.from_residual.ensures.0
    (put-stops _ _
    (subst (λ t. PutSoFar c.args.out.now.items (all_groups c.args.groups.now) c.loop-g.out.items t) (groups_step c.args.groups.now c.loop-g.g-index c.g-item.result c.loop-g-test.true c.g-item.is) c.loop-g.invariant)
    c.in_err-put_group.ensures)

pub returns : goal.returns
returns c =
    put-ends
    (subst (λ t. PutSoFar c.args.out.now.items (all_groups c.args.groups.now) c.loop-g.out.items t) (ap all_groups (drop_all c.loop-g.g-index c.args.groups.now c.loop-g-test.false)) c.loop-g.invariant)
