use Rattle.std.proofs.Common.{◌≡◌, length, ap, ◌∙◌, sym, FitsSigned, w64, rules}
use Rattle.std.proofs.lemmas.Int.{to_z-of_z}
use Rattle.tb_float.specs.Lists.{floats_of, entry_count}
use Rattle.tb_float.specs.Shelves.{slots_of, floats_in}
use Rattle.tb_float.proofs.SlotLemmas.{slots-sum, length-floats_in}
use Rattle.tb_float.proofs.SoundLemmas.{entry_count-seen, floats_of-seen}
use Rattle.tb_float.proofs.Pool.area_taken.Goals.{After-len}
use Rattle.tb_float.proofs.Pool.area_taken.Goals as goal

-- as many floats are counted as there are slots
count_is : (c : After-len) → c.len.result ≡ length (slots_of c.self.inside.store c.self.inside.shelves c.args.part)
count_is c = c.len.ensures.value ∙ ap (λ v. entry_count c.args.part v.lists) (sym c.self.view_is) ∙ entry_count-seen c.args.part (slots_of c.self.inside.store c.self.inside.shelves) (c.self.invariant.stored.sound.slots c.args.part)

pub taken-requires : goal.taken-requires
taken-requires c =
    let w = (goal.at.taken-requires c).After-len in
    let f = c.ranges.first in
    let b = c.ranges.between in
    let h : FitsSigned w64 c.of.result = search rules in
    simp to_z-of_z (record {
      first = c.requires.first;
      between = c.requires.between;
      heights = rw (count_is w, c.of.ensures ∙ c.self.invariant.stored.sound.heights_are c.args.part) (slots-sum c.args.part _ (c.self.invariant.stored.sound.slots c.args.part));
      few = c.len.ensures.small;
    })

pub returns : goal.returns
returns c =
    let at = slots_of c.self.inside.store c.self.inside.shelves in
    let w = (goal.at.returns c).After-len in
    let f = c.ranges.first in
    let b = c.ranges.between in
    let h : FitsSigned w64 c.of.result = search rules in
    let r : FitsSigned w64 c.taken.result = search rules in
    let floats = sym (floats_of-seen c.args.part at) ∙ ap (λ v. floats_of c.args.part v.lists) c.self.view_is in
    let value = simp to_z-of_z at c.taken.ensures.value in
    simp to_z-of_z (record {
      value = rw (← floats) (value (floats_in (at c.args.part)) (length-floats_in c.args.part (at c.args.part) c.requires.floats (c.self.invariant.stored.sound.slots c.args.part) ∙ sym (count_is w)) (sym (c.of.ensures ∙ c.self.invariant.stored.sound.heights_are c.args.part)));
      within = c.taken.ensures.within;
    })
