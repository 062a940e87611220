use Rattle.std.proofs.Common.{◌≡◌, [], ◌∷◌, refl, ap, ◌∙◌, FitsSigned, w64, rules}
use Rattle.std.specs.Prelude.{◌+ℤ◌}
use Rattle.std.proofs.lemmas.Int.{to_z-of_z}
use Rattle.tb_told.proofs.ValueLemmas.{one-test, last-test}
use Rattle.tb_float.specs.declared.Limit.TheVariants as limits
use Rattle.tb_area.specs.Area.{may_come, fits_column, fits_bottom, next_separator}
use Rattle.tb_told.specs.declared.Test.TheVariants as tests
use Rattle.tb_told.specs.Tested.{tested}
use Rattle.tb_told.proofs.areas.at_bottom.Goals as goal

pub returns : goal.returns
returns c =
    let p = c.args.p.now in
    let l = c.args.pool.now.lists in
    let s = c.args.s.now in
    let f = c.args.f.now in
    let rr = c.ranges.required in
    let h : FitsSigned w64 f.height = search rules in
    let n : FitsSigned w64 c.next_separator.result = search rules in
    let b : FitsSigned w64 c.beyond-below.result = search rules in
    let a : FitsSigned w64 c.column_room.result = search rules in
    let m : FitsSigned w64 c.room.result = search rules in
    let sum = simp to_z-of_z at c.beyond-below.ensures in
    let below : c.beyond-below.result ≡ c.args.required +ℤ next_separator p l.bottom = sum ∙ ap (λ z. c.args.required +ℤ z) (c.next_separator.ensures.value l.bottom c.len.ensures.value) in
    let fits = simp to_z-of_z at c.fits_column.ensures in
    let share = last-test c.failing.result c.fits_bottom.result (fits_bottom p l f) tests.Share c.failing.ensures c.fits_bottom.ensures in
    let room = one-test c.failing-2.result c.failing.result c.fits_column.result (fits_column p l c.beyond-below.result) tests.Room (tested tests.Share (fits_bottom p l f) ∷ []) c.failing-2.ensures fits share in
    let count = one-test c.failing-3.result c.failing-2.result c.may_come.result (may_come p l s limits.Bottom f) tests.Count (tested tests.Room (fits_column p l c.beyond-below.result) ∷ tested tests.Share (fits_bottom p l f) ∷ []) c.failing-3.ensures c.may_come.ensures room in
    let failed = one-test c.failing-failed.result c.failing-3.result f.places.b f.places.b tests.Places (tested tests.Count (may_come p l s limits.Bottom f) ∷ tested tests.Room (fits_column p l c.beyond-below.result) ∷ tested tests.Share (fits_bottom p l f) ∷ []) c.failing-failed.ensures refl count in
    let number = c.counted.ensures in
    let has = c.column_room.ensures.value in
    let left = c.room.ensures.value in
    simp to_z-of_z (cc (number, has, below, left, failed))
