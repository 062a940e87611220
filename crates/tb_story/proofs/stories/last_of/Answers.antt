use Rattle.tb_story.proofs.StoryLemmas.{last_over}
use Rattle.tb_story.proofs.stories.last_of.Goals as goal

pub loop-i-init : goal.loop-i-init
loop-i-init c = last_over c.args.line c.args.over c.args.stories.now c.requires
