use Rattle.std.proofs.Common.{sym, arith}
use Rattle.tb_story.specs.Story.{landed_at, if_of}
use Rattle.tb_story.proofs.StoryLemmas.{if_of_leaves, landed_counted, over_front, step, done, over_now, sound_now}
use Rattle.tb_story.proofs.stories.land_story.Goals as goal

pub loop-i-init : goal.loop-i-init
loop-i-init c = sym (over_front (if_of c.args.line (landed_at c.args.page c.args.place)) (if_of_leaves c.args.line (landed_at c.args.page c.args.place)) c.args.over c.args.stories.now c.requires)

pub loop-i-preserved : goal.loop-i-preserved
loop-i-preserved c =
    step (if_of c.args.line (landed_at c.args.page c.args.place)) c.loop-i.i c.loop-i.stories c.args.stories.now c.index-stories-i.result c.land.new.self c.loop-i.invariant c.loop-i-test.true c.land.ensures

pub returns-clause-landed : goal.returns-clause-landed
returns-clause-landed c = done (if_of c.args.line (landed_at c.args.page c.args.place)) c.loop-i.i c.loop-i.stories c.args.stories.now c.loop-i.invariant c.loop-i-test.false

pub returns-clause-over : goal.returns-clause-over
returns-clause-over c = over_now c.args.over c.loop-i.i (if_of c.args.line (landed_at c.args.page c.args.place)) c.loop-i.stories c.args.stories.now (if_of_leaves c.args.line (landed_at c.args.page c.args.place)) c.requires c.loop-i.invariant

pub returns-clause-sound : goal.returns-clause-sound
returns-clause-sound c n h =
    sound_now c.args.over n n c.loop-i.i (if_of c.args.line (landed_at c.args.page c.args.place)) c.loop-i.stories c.args.stories.now (if_of_leaves c.args.line (landed_at c.args.page c.args.place)) (landed_counted c.args.line n c.args.page c.args.place) (omega arith) h c.loop-i.invariant
