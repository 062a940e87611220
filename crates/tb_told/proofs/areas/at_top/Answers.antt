use Rattle.std.proofs.Common.{◌≡◌, [], ◌∷◌, refl, ap, ◌∙◌, FitsSigned, w64, rules}
use Rattle.std.specs.Prelude.{◌+ℤ◌, ◌||◌, is_some}
use Rattle.std.proofs.lemmas.Int.{to_z-of_z}
use Rattle.tb_told.proofs.TestedLemmas.{first_is_either, none_is}
use Rattle.tb_told.proofs.ValueLemmas.{one-test, last-test}
use Rattle.tb_float.specs.Lists.{has_class}
use Rattle.tb_float.specs.declared.Limit.TheVariants as limits
use Rattle.tb_area.specs.Area.{may_come, fits_column, fits_top, is_above_its_class, next_separator}
use Rattle.tb_told.specs.declared.Test.TheVariants as tests
use Rattle.tb_told.specs.Tested.{tested}
use Rattle.tb_told.proofs.areas.at_top.Goals as goal

pub returns-clause-told : goal.returns-clause-told
returns-clause-told c =
    let p = c.args.p.now in
    let l = c.args.pool.now.lists in
    let s = c.args.s.now in
    let f = c.args.f.now in
    let rr = c.ranges.required in
    let h : FitsSigned w64 f.height = search rules in
    let n : FitsSigned w64 c.next_separator.result = search rules in
    let b : FitsSigned w64 c.room_above-above.result = search rules in
    let a : FitsSigned w64 c.column_room.result = search rules in
    let m : FitsSigned w64 c.room.result = search rules in
    let sum = simp to_z-of_z at c.room_above-above.ensures.value in
    let above : c.room_above-above.result ≡ c.args.required +ℤ next_separator p l.top = sum ∙ ap (λ z. c.args.required +ℤ z) (c.next_separator.ensures.value l.top c.len.ensures.value) in
    let fits = simp to_z-of_z at c.fits_column.ensures in
    let blocker = c.first_in_the_way-blocker.ensures in
    let free = none_is c.first_in_the_way-blocker.result c.is_none.result (has_class f.class l.here || has_class f.class l.bottom) c.is_none.ensures (ap is_some blocker ∙ first_is_either f.class l.here l.bottom) in
    let class = last-test c.failing.result c.is_none.result (is_above_its_class l f) tests.Class c.failing.ensures free in
    let share = one-test c.failing-2.result c.failing.result c.fits_top.result (fits_top p l f) tests.Share (tested tests.Class (is_above_its_class l f) ∷ []) c.failing-2.ensures c.fits_top.ensures class in
    let room = one-test c.failing-3.result c.failing-2.result c.fits_column.result (fits_column p l c.room_above-above.result) tests.Room (tested tests.Share (fits_top p l f) ∷ tested tests.Class (is_above_its_class l f) ∷ []) c.failing-3.ensures fits share in
    let count = one-test c.failing-4.result c.failing-3.result c.may_come.result (may_come p l s limits.Top f) tests.Count (tested tests.Room (fits_column p l c.room_above-above.result) ∷ tested tests.Share (fits_top p l f) ∷ tested tests.Class (is_above_its_class l f) ∷ []) c.failing-4.ensures c.may_come.ensures room in
    let failed = one-test c.failing-failed.result c.failing-4.result f.places.t f.places.t tests.Places (tested tests.Count (may_come p l s limits.Top f) ∷ tested tests.Room (fits_column p l c.room_above-above.result) ∷ tested tests.Share (fits_top p l f) ∷ tested tests.Class (is_above_its_class l f) ∷ []) c.failing-failed.ensures refl count in
    let number = c.counted.ensures in
    let has = c.column_room.ensures.value in
    let left = c.room.ensures.value in
    simp to_z-of_z (cc (blocker, number, has, above, left, failed))
