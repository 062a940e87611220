use Rattle.std.proofs.Common.{drop}
use Rattle.tb_text.proofs.FrontLemmas.{PutSoFar}
use Rattle.tb_story.specs.StoryLines.{all_groups}
use Rattle.tb_story.proofs.lines.put_groups.Given as goal

abbrev pub invariant-loop-g : goal.invariant-loop-g
invariant-loop-g l = PutSoFar l.fn.out.items (all_groups l.groups) l.out.items (all_groups (drop l.g-index l.groups))
