use Rattle.std.proofs.Common.{◌≡◌, sym, subst, length, arith}
use Rattle.tb_story.specs.Counts.{IsSound}
use Rattle.tb_story.proofs.StoryLemmas.{written}
use Rattle.tb_story.proofs.Summary.keep_alone.Goals as goal

pub invariant_of-self : goal.invariant_of-self
invariant_of-self c =
    let v = c.self.inside in
    let new = c.keep_notes.new.stories in
    let whole : length new ≡ v.stories.len = omega (arith, c.keep_notes.auto.stories, c.deref_mut.ensures.len) in
    subst (λ t. IsSound v.over v.sheets t) (sym (written v.stories.len new v.stories.items whole))
    (c.keep_notes.ensures.sound v.sheets (subst (λ t. IsSound v.over v.sheets t) (sym c.deref_mut.ensures.value) c.self.invariant))
