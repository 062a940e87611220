use Rattle.std.proofs.Common.{◌+◌, sym, arith}
use Rattle.tb_story.specs.Story.{missed_sheet}
use Rattle.tb_story.proofs.StoryLemmas.{missed_leaves, sheet_counted, over_front, step, stop, done, next_counted, sound_now}
use Rattle.tb_story.proofs.stories.miss_sheet.Goals as goal

pub loop-i-init : goal.loop-i-init
loop-i-init c = sym (over_front (missed_sheet) (missed_leaves) c.args.over c.args.stories.now c.requires.sound.over)

pub miss_sheet-requires-clause-counted : goal.miss_sheet-requires-clause-counted
miss_sheet-requires-clause-counted c =
    next_counted (missed_sheet) c.args.over c.args.sheets c.loop-i.i c.loop-i.stories c.args.stories.now c.index-stories-i.result c.loop-i.invariant c.loop-i-test.true c.requires.sound

pub returns-in_err-miss_sheet-clause-sound : goal.returns-in_err-miss_sheet-clause-sound
returns-in_err-miss_sheet-clause-sound c =
    let same = stop (missed_sheet) c.loop-i.i c.loop-i.stories c.args.stories.now c.index-stories-i.result c.miss_sheet.new.self c.loop-i.invariant c.loop-i-test.true c.in_err-miss_sheet.ensures in
    sound_now c.args.over c.args.sheets (c.args.sheets + 1) c.loop-i.i (missed_sheet) _ c.args.stories.now (missed_leaves) (sheet_counted c.args.sheets) (omega arith) c.requires.sound same

pub loop-i-preserved : goal.loop-i-preserved
loop-i-preserved c =
    step (missed_sheet) c.loop-i.i c.loop-i.stories c.args.stories.now c.index-stories-i.result c.miss_sheet.new.self c.loop-i.invariant c.loop-i-test.true c.in_ok-miss_sheet.ensures

pub returns-clause-missed : goal.returns-clause-missed
returns-clause-missed c = done (missed_sheet) c.loop-i.i c.loop-i.stories c.args.stories.now c.loop-i.invariant c.loop-i-test.false

pub returns-clause-sound : goal.returns-clause-sound
returns-clause-sound c =
    sound_now c.args.over c.args.sheets (c.args.sheets + 1) c.loop-i.i (missed_sheet) c.loop-i.stories c.args.stories.now (missed_leaves) (sheet_counted c.args.sheets) (omega arith) c.requires.sound c.loop-i.invariant
