use Rattle.std.proofs.Common.{◌≡◌, [], ◌∷◌, take, refl, ap, ◌∙◌, FitsSigned, w64, rules}
use Rattle.std.specs.Prelude.{is_some, int_lt}
use Rattle.std.proofs.lemmas.Int.{to_z-of_z}
use Rattle.tb_told.proofs.TestedLemmas.{first_is, none_is}
use Rattle.tb_told.proofs.ValueLemmas.{one-test, last-test}
use Rattle.tb_float.specs.Lists.{has_class, floats_of}
use Rattle.tb_float.specs.declared.Limit.TheVariants as limits
use Rattle.tb_area.specs.Area.{may_come, is_first_of_class, fits_double}
use Rattle.tb_told.specs.declared.Test.TheVariants as tests
use Rattle.tb_told.specs.Tested.{tested}
use Rattle.tb_told.specs.AreaTold.{counted}
use Rattle.tb_told.proofs.areas.above_both.Goals as goal

pub returns : goal.returns
returns c = λ s.
    let p = c.args.p.now in
    let l = c.args.pool.now.lists in
    let f = c.args.f.now in
    let before = take c.args.k (floats_of c.args.from l) in
    let h : FitsSigned w64 f.height = search rules in
    let d : FitsSigned w64 c.double_room_for-room.result = search rules in
    let blocker = c.first_of_class-blocker.ensures.first in
    let free = none_is c.first_of_class-blocker.result c.is_none.result (has_class f.class before) c.is_none.ensures (ap is_some blocker ∙ first_is f.class before) in
    let fits = simp to_z-of_z at c.is_below.ensures in
    let wide = c.double_room_for-room.ensures in
    let room = last-test c.failing.result c.is_below.result (fits_double p l f) tests.Room c.failing.ensures (fits ∙ ap (λ z. int_lt f.height z) wide) in
    let class = one-test c.failing-2.result c.failing.result c.is_none.result (is_first_of_class f before) tests.Class (tested tests.Room (fits_double p l f) ∷ []) c.failing-2.ensures free room in
    let count = one-test c.failing-3.result c.failing-2.result c.may_come.result (may_come p l s limits.Double f) tests.Count (tested tests.Class (is_first_of_class f before) ∷ tested tests.Room (fits_double p l f) ∷ []) c.failing-3.ensures c.may_come.ensures class in
    let width = one-test c.failing-4.result c.failing-3.result f.wide f.wide tests.Wide (tested tests.Count (may_come p l s limits.Double f) ∷ tested tests.Class (is_first_of_class f before) ∷ tested tests.Room (fits_double p l f) ∷ []) c.failing-4.ensures refl count in
    let failed = one-test c.failing-failed.result c.failing-4.result f.places.t f.places.t tests.Places (tested tests.Wide f.wide ∷ tested tests.Count (may_come p l s limits.Double f) ∷ tested tests.Class (is_first_of_class f before) ∷ tested tests.Room (fits_double p l f) ∷ []) c.failing-failed.ensures refl width in
    let number : c.counted.result ≡ counted p l s limits.Double f = c.counted.ensures in
    simp to_z-of_z (cc (blocker, number, wide, failed))
