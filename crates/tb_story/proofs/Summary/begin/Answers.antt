use Rattle.std.proofs.Common.{sym, subst}
use Rattle.tb_story.specs.Counts.{IsCounted}
use Rattle.tb_story.proofs.StoryLemmas.{sound_appended, begun_counted}
use Rattle.tb_story.proofs.Summary.begin.Goals as goal

pub invariant_of-self-2 : goal.invariant_of-self-2
invariant_of-self-2 c =
    rw c.in_ok-push.ensures.items
    (sound_appended c.self.inside.over c.self.inside.sheets c.self.inside.stories.items c.new-story.result c.self.invariant
    (subst (λ s. IsCounted c.self.inside.sheets s) (sym c.new-story.ensures) (begun_counted c.args.f.now c.args.page c.args.last c.self.inside.sheets)))
