use Rattle.std.proofs.Common.{◌≡◌}
use Rattle.tb_story.specs.Story.{missed_sheet}
use Rattle.tb_story.specs.Counts.{changed_front}
use Rattle.tb_story.proofs.stories.miss_sheet.Given as goal

abbrev pub invariant-loop-i : goal.invariant-loop-i
invariant-loop-i l = l.stories ≡ changed_front missed_sheet l.i l.fn.stories
