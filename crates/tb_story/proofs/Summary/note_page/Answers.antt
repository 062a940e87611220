use Rattle.std.proofs.Common.{◌≡◌, sym, subst, length, arith}
use Rattle.tb_story.specs.Counts.{AreOver, IsSound}
use Rattle.tb_story.proofs.StoryLemmas.{written, sound_by}
use Rattle.tb_story.proofs.Summary.note_page.Goals as goal

pub invariant_of-self : goal.invariant_of-self
invariant_of-self c =
    let v = c.self.inside in
    let new = c.land_sheet.new.stories in
    let whole : length new ≡ v.stories.len = omega (arith, c.land_sheet.auto.stories, c.deref_mut.ensures.len) in
    let n = c.count_over-self-inside.result in
    sound_by v.over n v.sheets _
    (subst (λ t. IsSound v.over v.sheets t) (sym (written v.stories.len new v.stories.items whole))
    (c.land_sheet.ensures.sound v.sheets (subst (λ t. IsSound v.over v.sheets t) (sym c.deref_mut.ensures.value) c.self.invariant)))
    (subst (λ t. AreOver n t) c.deref.ensures.value c.count_over-self-inside.ensures)
