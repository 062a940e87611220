use Rattle.tb_story.specs.Counts.{AreOver}
use Rattle.tb_story.proofs.stories.count_over.Given as goal

abbrev pub invariant-loop-i : goal.invariant-loop-i
invariant-loop-i l = AreOver l.i l.stories
