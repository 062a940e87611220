use Rattle.std.proofs.Common.{◌-◌, FitsSigned, w64, rules, arith}
use Rattle.std.proofs.lemmas.Int.{ints, to_z-of_z}
use Rattle.tb_float.proofs.RoomLemmas.{floats_room-sum}
use Rattle.tb_float.proofs.rooms.taken.Goals as goal

pub returns-clause-value : goal.returns-clause-value
returns-clause-value c =
    let h = c.ranges.heights in
    let f = c.ranges.first in
    let b = c.ranges.between in
    let t : FitsSigned w64 c.times.result = search rules in
    let s : FitsSigned w64 c.sum_of.result = search rules in
    let r : FitsSigned w64 c.sum_of-2.result = search rules in
    let all = simp to_z-of_z at c.sum_of-2.ensures in
    let front = simp to_z-of_z at c.sum_of.ensures in
    let back = simp to_z-of_z at c.times.ensures.value in
    λ fs few sum. simp to_z-of_z (omega (arith, ints, floats_room-sum c.args.first c.args.between (c.args.count - 1) fs (omega (arith, few)), sum, all, front, back))

pub returns-clause-within : goal.returns-clause-within
returns-clause-within c =
    let h = c.ranges.heights in
    let f = c.ranges.first in
    let t : FitsSigned w64 c.times.result = search rules in
    let s : FitsSigned w64 c.sum_of.result = search rules in
    let r : FitsSigned w64 c.sum_of-2.result = search rules in
    let all = simp to_z-of_z at c.sum_of-2.ensures in
    let front = simp to_z-of_z at c.sum_of.ensures in
    let w = c.times.ensures.within in
    let q = c.requires in
    simp to_z-of_z (record {
      low = omega (arith, ints, all, front, w.low, q.first.low, q.heights.low);
      high = omega (arith, ints, all, front, w.high, q.first.high, q.heights.high, q.few);
    })
