use Rattle.std.proofs.Common.{sym, subst, FitsSigned, w64, rules}
use Rattle.std.specs.Int.{w128}
use Rattle.std.proofs.lemmas.Int.{to_z-of_z}
use Rattle.tb_pack.proofs.FloorLemmas.{sum_fits, difference_fits}
use Rattle.tb_pack.proofs.position.at.Goals as goal

pub overflow_add-result : goal.overflow_add-result
overflow_add-result c =
    let f : FitsSigned w64 c.args.natural = c.ranges.natural in
    let e = simp to_z-of_z at c.from-in-Stretch.ensures in
    let wide : FitsSigned w128 c.from-in-Stretch.result = search rules in
    let share : FitsSigned w128 c.set_amount.result = search rules in
    simp to_z-of_z (sum_fits c.from-in-Stretch.result c.set_amount.result (subst (FitsSigned w64) (sym e) f) c.set_amount.ensures.small)

pub overflow_sub-result : goal.overflow_sub-result
overflow_sub-result c =
    let f : FitsSigned w64 c.args.natural = c.ranges.natural in
    let e = simp to_z-of_z at c.from-in-Shrink.ensures in
    let wide : FitsSigned w128 c.from-in-Shrink.result = search rules in
    let share : FitsSigned w128 c.set_amount-in-Shrink.result = search rules in
    simp to_z-of_z (difference_fits c.from-in-Shrink.result c.set_amount-in-Shrink.result (subst (FitsSigned w64) (sym e) f) c.set_amount-in-Shrink.ensures.small)
