use Rattle.std.proofs.Common.{◌≡◌, ◌*◌, length, refl, ap, ◌∙◌, sym, FitsSigned, w64, rules, arith}
use Rattle.std.specs.Prelude.{◌*ℤ◌, pos}
use Rattle.std.proofs.lemmas.Int.{ints, to_z-of_z}
use Rattle.tb_float.specs.declared.Part.TheVariants as parts
use Rattle.tb_float.specs.Rooms.{total_height, text_float_room}
use Rattle.tb_float.specs.Shelves.{slots_of, floats_in}
use Rattle.tb_float.proofs.SlotLemmas.{slots-sum, length-floats_in}
use Rattle.tb_float.proofs.SoundLemmas.{sums-are_rooms}
use Rattle.tb_float.proofs.RoomLemmas.{text_float_room-sum}
use Rattle.tb_float.proofs.Pool.text_room.Goals as goal

pub sum_of-requires-clause-a : goal.sum_of-requires-clause-a
sum_of-requires-clause-a c =
    let i = c.self.inside in
    let h : FitsSigned w64 i.heights.here = search rules in
    simp to_z-of_z (sums-are_rooms (slots_of i.store i.shelves) i.heights i.size i.store.spare parts.Here c.self.invariant.stored.sound c.self.invariant.stored.places)

pub returns : goal.returns
returns c =
    let i = c.self.inside in
    let at = slots_of i.store i.shelves in
    let slots = c.self.invariant.stored.sound.slots parts.Here in
    let fs = floats_in (at parts.Here) in
    let h : FitsSigned w64 i.heights.here = search rules in
    let w : FitsSigned w64 c.args.p.now.intextsep.width = search rules in
    let t : FitsSigned w64 c.times.result = search rules in
    let r : FitsSigned w64 c.sum_of.result = search rules in
    let here = ap (λ v. v.lists.here) c.self.view_is in
    let count : c.len.result ≡ length fs = c.len.ensures.value ∙ ap length (sym here) in
    let many : length fs ≡ length (at parts.Here) = length-floats_in parts.Here (at parts.Here) refl slots in
    let sum : i.heights.here ≡ total_height fs = c.self.invariant.stored.sound.heights_are parts.Here in
    let bound = slots-sum parts.Here (at parts.Here) slots in
    let all = simp to_z-of_z at c.sum_of.ensures in
    let times = simp to_z-of_z at c.times.ensures.value in
    let counted = ap (λ n. c.args.p.now.intextsep.width *ℤ pos (2 * n)) count in
    let width = c.args.p.now.intextsep.width in
    let near = c.times.ensures.within in
    let value : c.sum_of.result ≡ text_float_room width fs = omega (arith, ints, text_float_room-sum width fs, all, times, counted, sum) in
    simp to_z-of_z (record {
      value = value ∙ ap (text_float_room width) here;
      within = record {
        low = omega (arith, ints, all, sum, near.low, bound.low);
        high = omega (arith, ints, all, sum, near.high, bound.high, c.len.ensures.small, count, many);
      };
    })
