use Rattle.std.proofs.Common.{sym, arith}
use Rattle.tb_story.specs.Story.{placed_at, if_of}
use Rattle.tb_story.proofs.StoryLemmas.{if_of_leaves, placed_counted, over_front, step, done, sound_now}
use Rattle.tb_story.proofs.stories.place_story.Goals as goal

pub loop-i-init : goal.loop-i-init
loop-i-init c = sym (over_front (if_of c.args.line (placed_at c.args.place c.args.sheets)) (if_of_leaves c.args.line (placed_at c.args.place c.args.sheets)) c.args.over c.args.stories.now c.requires)

pub loop-i-preserved : goal.loop-i-preserved
loop-i-preserved c =
    step (if_of c.args.line (placed_at c.args.place c.args.sheets)) c.loop-i.i c.loop-i.stories c.args.stories.now c.index-stories-i.result c.put_at.new.self c.loop-i.invariant c.loop-i-test.true c.put_at.ensures

pub returns-clause-placed : goal.returns-clause-placed
returns-clause-placed c = done (if_of c.args.line (placed_at c.args.place c.args.sheets)) c.loop-i.i c.loop-i.stories c.args.stories.now c.loop-i.invariant c.loop-i-test.false

pub returns-clause-sound : goal.returns-clause-sound
returns-clause-sound c h =
    sound_now c.args.over c.args.sheets c.args.sheets c.loop-i.i (if_of c.args.line (placed_at c.args.place c.args.sheets)) c.loop-i.stories c.args.stories.now (if_of_leaves c.args.line (placed_at c.args.place c.args.sheets)) (placed_counted c.args.line c.args.sheets c.args.place) (omega arith) h c.loop-i.invariant
