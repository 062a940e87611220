use Rattle.std.proofs.Common.{sym, arith}
use Rattle.tb_story.specs.Story.{kept_back, if_of}
use Rattle.tb_story.proofs.StoryLemmas.{if_of_leaves, kept_counted, over_front, step, done, over_now, sound_now}
use Rattle.tb_story.proofs.stories.keep_story.Goals as goal

pub loop-i-init : goal.loop-i-init
loop-i-init c = sym (over_front (if_of c.args.line (kept_back c.args.k.now)) (if_of_leaves c.args.line (kept_back c.args.k.now)) c.args.over c.args.stories.now c.requires)

pub loop-i-preserved : goal.loop-i-preserved
loop-i-preserved c =
    step (if_of c.args.line (kept_back c.args.k.now)) c.loop-i.i c.loop-i.stories c.args.stories.now c.index-stories-i.result c.keep.new.self c.loop-i.invariant c.loop-i-test.true c.keep.ensures

pub returns-clause-kept : goal.returns-clause-kept
returns-clause-kept c = done (if_of c.args.line (kept_back c.args.k.now)) c.loop-i.i c.loop-i.stories c.args.stories.now c.loop-i.invariant c.loop-i-test.false

pub returns-clause-over : goal.returns-clause-over
returns-clause-over c = over_now c.args.over c.loop-i.i (if_of c.args.line (kept_back c.args.k.now)) c.loop-i.stories c.args.stories.now (if_of_leaves c.args.line (kept_back c.args.k.now)) c.requires c.loop-i.invariant

pub returns-clause-sound : goal.returns-clause-sound
returns-clause-sound c n h =
    sound_now c.args.over n n c.loop-i.i (if_of c.args.line (kept_back c.args.k.now)) c.loop-i.stories c.args.stories.now (if_of_leaves c.args.line (kept_back c.args.k.now)) (kept_counted c.args.line n c.args.k.now) (omega arith) h c.loop-i.invariant
