use Rattle.std.proofs.Common.{[], ◌∷◌, refl, ap, ◌∙◌, FitsSigned, w64, rules}
use Rattle.std.specs.Prelude.{not, is_some}
use Rattle.std.proofs.lemmas.Int.{to_z-of_z}
use Rattle.tb_told.proofs.TestedLemmas.{first_is, none_is}
use Rattle.tb_told.proofs.ValueLemmas.{one-test, last-test}
use Rattle.tb_float.specs.Lists.{has_class}
use Rattle.tb_area.specs.Area.{fits_column}
use Rattle.tb_told.specs.declared.Test.TheVariants as tests
use Rattle.tb_told.specs.Tested.{tested}
use Rattle.tb_told.proofs.areas.in_text.Goals as goal

pub returns-clause-told : goal.returns-clause-told
returns-clause-told c =
    let p = c.args.p.now in
    let l = c.args.pool.now.lists in
    let f = c.args.f.now in
    let rr = c.ranges.required in
    let w : FitsSigned w64 p.intextsep.width = search rules in
    let b : FitsSigned w64 c.room_inside-inside.result = search rules in
    let a : FitsSigned w64 c.column_room.result = search rules in
    let inside = simp to_z-of_z at c.room_inside-inside.ensures.value in
    let fits = simp to_z-of_z at c.fits_column.ensures in
    let blocker = c.first_of_class-blocker.ensures.all (search (rules, c.len.ensures.value)) in
    let free = none_is c.first_of_class-blocker.result c.is_none.result (has_class f.class l.bottom) c.is_none.ensures (ap is_some blocker ∙ first_is f.class l.bottom) in
    let room = last-test c.failing.result c.fits_column.result (fits_column p l c.room_inside-inside.result) tests.Room c.failing.ensures fits in
    let places = one-test c.failing-2.result c.failing.result f.places.h f.places.h tests.Places (tested tests.Room (fits_column p l c.room_inside-inside.result) ∷ []) c.failing-2.ensures refl room in
    let failed = one-test c.failing-failed.result c.failing-2.result c.is_none.result (not (has_class f.class l.bottom)) tests.Class (tested tests.Places f.places.h ∷ tested tests.Room (fits_column p l c.room_inside-inside.result) ∷ []) c.failing-failed.ensures free places in
    let has = c.column_room.ensures.value in
    simp to_z-of_z (cc (blocker, has, inside, failed))
