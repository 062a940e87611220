use Rattle.std.proofs.Common.{◌≡◌, drop}
use Rattle.tb_story.specs.Story.{last_of}
use Rattle.tb_story.proofs.stories.last_of.Given as goal

abbrev pub invariant-loop-i : goal.invariant-loop-i
invariant-loop-i l = last_of l.line l.stories ≡ last_of l.line (drop l.i l.stories)
