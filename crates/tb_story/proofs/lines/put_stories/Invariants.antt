use Rattle.std.proofs.Common.{drop}
use Rattle.tb_text.proofs.FrontLemmas.{PutSoFar}
use Rattle.tb_story.specs.StoryLines.{story_lines}
use Rattle.tb_story.proofs.lines.put_stories.Given as goal

abbrev pub invariant-loop-story : goal.invariant-loop-story
invariant-loop-story l = PutSoFar l.fn.out.items (story_lines l.stories) l.out.items (story_lines (drop l.story-index l.stories))
