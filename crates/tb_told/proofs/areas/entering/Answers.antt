use Rattle.std.proofs.Common.{[], ◌∷◌, refl, ap, ◌∙◌, FitsSigned, w64, rules}
use Rattle.std.specs.Prelude.{not, is_some}
use Rattle.std.proofs.lemmas.Int.{to_z-of_z}
use Rattle.tb_told.proofs.TestedLemmas.{first_is, none_is}
use Rattle.tb_told.proofs.ValueLemmas.{one-test, last-test}
use Rattle.tb_float.specs.Lists.{has_class}
use Rattle.tb_float.specs.declared.Limit.TheVariants as limits
use Rattle.tb_area.specs.Area.{only_page, is_first_of_class, may_come, fits_column}
use Rattle.tb_told.specs.declared.Test.TheVariants as tests
use Rattle.tb_told.specs.Tested.{tested}
use Rattle.tb_told.proofs.areas.entering.Goals as goal

pub returns-clause-told : goal.returns-clause-told
returns-clause-told c = λ before is.
    let p = c.args.p.now in
    let l = c.args.pool.now.lists in
    let s = c.args.s.now in
    let f = c.args.f.now in
    let r = c.args.required in
    let rr = c.ranges.required in
    let h : FitsSigned w64 f.height = search rules in
    let t : FitsSigned w64 c.text_minimum.result = search rules in
    let a : FitsSigned w64 c.column_room.result = search rules in
    let fits = simp to_z-of_z at c.fits_column.ensures in
    let free = none_is c.args.blocker c.is_none.result (has_class f.class before) c.is_none.ensures (ap is_some is ∙ first_is f.class before) in
    let room = last-test c.failing.result c.fits_column.result (fits_column p l r) tests.Room c.failing.ensures fits in
    let count = one-test c.failing-2.result c.failing.result c.may_come.result (may_come p l s limits.Total f) tests.Count (tested tests.Room (fits_column p l r) ∷ []) c.failing-2.ensures c.may_come.ensures room in
    let class = one-test c.failing-3.result c.failing-2.result c.is_none.result (is_first_of_class f before) tests.Class (tested tests.Count (may_come p l s limits.Total f) ∷ tested tests.Room (fits_column p l r) ∷ []) c.failing-3.ensures free count in
    let wide = one-test c.failing-4.result c.failing-3.result (not f.wide) (not f.wide) tests.Wide (tested tests.Class (is_first_of_class f before) ∷ tested tests.Count (may_come p l s limits.Total f) ∷ tested tests.Room (fits_column p l r) ∷ []) c.failing-4.ensures refl class in
    let failed = one-test c.failing-failed.result c.failing-4.result (not c.only_page.result) (not (only_page f)) tests.Places (tested tests.Wide (not f.wide) ∷ tested tests.Class (is_first_of_class f before) ∷ tested tests.Count (may_come p l s limits.Total f) ∷ tested tests.Room (fits_column p l r) ∷ []) c.failing-failed.ensures (ap not c.only_page.ensures) wide in
    let least = c.text_minimum.ensures.value in
    let has = c.column_room.ensures.value in
    let number = c.counted.ensures in
    simp to_z-of_z (cc (is, number, least, has, failed))
