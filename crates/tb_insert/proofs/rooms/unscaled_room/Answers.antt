use Rattle.std.proofs.Common.{◌∙◌, ap, sym, subst, pos, ◌*ℤ◌, int_div, of_z, FitsSigned, w64, rules}
use Rattle.std.specs.Int.{w128}
use Rattle.std.proofs.lemmas.Int.{to_z-of_z, quot_fits}
use Rattle.tb_insert.proofs.RoomLemmas.{above_zero, unscaled_fits, unscaled_is}
use Rattle.tb_insert.proofs.rooms.unscaled_room.Goals as goal

pub overflow_mul-result : goal.overflow_mul-result
overflow_mul-result c =
    let factor : FitsSigned w64 c.args.factor = c.ranges.factor in
    let room : FitsSigned w128 c.args.room = c.ranges.room in
    let wide : FitsSigned w128 c.wide-2.result = search rules in
    let is = simp to_z-of_z at c.wide-2.ensures in
    let above = above_zero c.args.factor (simp to_z-of_z at c.if-factor-le0.false) in
    let quotient : FitsSigned w128 (int_div c.args.room c.wide-2.result) = subst (λ d. FitsSigned w128 (int_div c.args.room d)) (sym is) (quot_fits w128 c.args.room c.args.factor room above) in
    simp to_z-of_z (subst (λ d. FitsSigned w128 (int_div c.args.room d *ℤ pos 1000)) (sym is) (unscaled_fits c.args.room c.args.factor c.requires above))

pub returns : goal.returns
returns c =
    let factor : FitsSigned w64 c.args.factor = c.ranges.factor in
    let room : FitsSigned w128 c.args.room = c.ranges.room in
    let wide : FitsSigned w128 c.wide-2.result = search rules in
    let is = simp to_z-of_z at c.wide-2.ensures in
    let test = simp to_z-of_z at c.if-factor-le0.false in
    let above = above_zero c.args.factor test in
    let quotient : FitsSigned w128 (int_div c.args.room c.wide-2.result) = subst (λ d. FitsSigned w128 (int_div c.args.room d)) (sym is) (quot_fits w128 c.args.room c.args.factor room above) in
    let product : FitsSigned w128 (int_div c.args.room c.wide-2.result *ℤ pos 1000) = subst (λ d. FitsSigned w128 (int_div c.args.room d *ℤ pos 1000)) (sym is) (unscaled_fits c.args.room c.args.factor c.requires above) in
    simp to_z-of_z (ap (λ d. int_div c.args.room d *ℤ pos 1000) is ∙ sym (unscaled_is c.args.factor c.args.room test (λ e. c.if-factor-eq1000.false (ap (of_z w64) e))))
