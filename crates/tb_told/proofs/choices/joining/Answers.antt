use mir.Syntax.{w128}
use Rattle.std.proofs.Common.{◌≡◌, [], ◌∷◌, ap, sym, ◌∙◌, FitsSigned, w64, rules}
use Rattle.std.specs.Prelude.{◌||◌, is_some, int_le}
use Rattle.std.proofs.lemmas.Int.{to_z-of_z}
use Rattle.tb_fpage.specs.Company.{all_chosen}
use Rattle.tb_told.proofs.ChoiceLemmas.{found-is, free-is, sum-is}
use Rattle.tb_told.proofs.ValueLemmas.{one-test, last-test}
use Rattle.tb_told.specs.declared.Test.TheVariants as tests
use Rattle.tb_told.specs.Tested.{tested}
use Rattle.tb_told.specs.ColumnTold.{sum_with}
use Rattle.tb_told.proofs.choices.joining.Goals as goal

pub returns : goal.returns
returns c =
    let z = c.args.wanted.now in
    let f = c.args.f.now in
    let before = c.args.before.now in
    let h : FitsSigned w64 f.height = search rules in
    let m : FitsSigned w64 z.height = search rules in
    let s : FitsSigned w64 z.sep = search rules in
    let t : FitsSigned w128 c.amount.result = search rules in
    let blocker = c.first_left-blocker.ensures in
    let sum_is = simp to_z-of_z at c.height_with-sum.ensures in
    let sum : c.height_with-sum.result ≡ sum_with z before f = sum_is ∙ sym (sum-is z.sep before f) in
    let fits_is = simp to_z-of_z at c.fits.ensures in
    let free = free-is c.first_left-blocker.result c.is_none.result (all_chosen f.class before) c.is_none.ensures (ap is_some blocker ∙ found-is f.class before) in
    let low = last-test c.failing.result c.fits.result (int_le (sum_with z before f) z.height) tests.Sum c.failing.ensures (fits_is ∙ ap (λ y. int_le y z.height) (c.amount.ensures.value ∙ sum)) in
    let class = one-test c.failing-2.result c.failing.result c.is_none.result (all_chosen f.class before) tests.Class (tested tests.Sum (int_le (sum_with z before f) z.height) ∷ []) c.failing-2.ensures free low in
    let no_higher = one-test c.failing-3.result c.failing-2.result c.is_no_higher.result (int_le f.height z.height) tests.Tall (tested tests.Class (all_chosen f.class before) ∷ tested tests.Sum (int_le (sum_with z before f) z.height) ∷ []) c.failing-3.ensures c.is_no_higher.ensures class in
    let failed = one-test c.failing-failed.result c.failing-3.result c.may_be_alone.result (f.places.p || z.clearing) tests.Places (tested tests.Tall (int_le f.height z.height) ∷ tested tests.Class (all_chosen f.class before) ∷ tested tests.Sum (int_le (sum_with z before f) z.height) ∷ []) c.failing-failed.ensures c.may_be_alone.ensures no_higher in
    simp to_z-of_z (cc (blocker, sum, failed))
