use Rattle.std.proofs.Common.{sym, arith}
use Rattle.tb_story.specs.Story.{carried, if_of}
use Rattle.tb_story.proofs.StoryLemmas.{if_of_leaves, carried_counted, over_front, step, stop, done, next_counted, sound_now}
use Rattle.tb_story.proofs.stories.carry_story.Goals as goal

pub loop-i-init : goal.loop-i-init
loop-i-init c = sym (over_front (if_of c.args.line (carried c.args.sheets)) (if_of_leaves c.args.line (carried c.args.sheets)) c.args.over c.args.stories.now c.requires.sound.over)

pub carry-requires-clause-counted : goal.carry-requires-clause-counted
carry-requires-clause-counted c =
    next_counted (if_of c.args.line (carried c.args.sheets)) c.args.over c.args.sheets c.loop-i.i c.loop-i.stories c.args.stories.now c.index-stories-i.result c.loop-i.invariant c.loop-i-test.true c.requires.sound

pub returns-in_err-carry-clause-sound : goal.returns-in_err-carry-clause-sound
returns-in_err-carry-clause-sound c =
    let same = stop (if_of c.args.line (carried c.args.sheets)) c.loop-i.i c.loop-i.stories c.args.stories.now c.index-stories-i.result c.carry.new.self c.loop-i.invariant c.loop-i-test.true c.in_err-carry.ensures in
    sound_now c.args.over c.args.sheets (c.args.sheets) c.loop-i.i (if_of c.args.line (carried c.args.sheets)) _ c.args.stories.now (if_of_leaves c.args.line (carried c.args.sheets)) (carried_counted c.args.line c.args.sheets) (omega arith) c.requires.sound same

pub loop-i-preserved : goal.loop-i-preserved
loop-i-preserved c =
    step (if_of c.args.line (carried c.args.sheets)) c.loop-i.i c.loop-i.stories c.args.stories.now c.index-stories-i.result c.carry.new.self c.loop-i.invariant c.loop-i-test.true c.in_ok-carry.ensures

pub returns-clause-carried : goal.returns-clause-carried
returns-clause-carried c = done (if_of c.args.line (carried c.args.sheets)) c.loop-i.i c.loop-i.stories c.args.stories.now c.loop-i.invariant c.loop-i-test.false

pub returns-clause-sound : goal.returns-clause-sound
returns-clause-sound c =
    sound_now c.args.over c.args.sheets (c.args.sheets) c.loop-i.i (if_of c.args.line (carried c.args.sheets)) c.loop-i.stories c.args.stories.now (if_of_leaves c.args.line (carried c.args.sheets)) (carried_counted c.args.line c.args.sheets) (omega arith) c.requires.sound c.loop-i.invariant
