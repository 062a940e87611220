use Rattle.std.proofs.Common.{◌≡◌}
use Rattle.tb_story.specs.Story.{placed_at, if_of}
use Rattle.tb_story.specs.Counts.{changed_front}
use Rattle.tb_story.proofs.stories.place_story.Given as goal

abbrev pub invariant-loop-i : goal.invariant-loop-i
invariant-loop-i l = l.stories ≡ changed_front (if_of l.line (placed_at l.place l.sheets)) l.i l.fn.stories
