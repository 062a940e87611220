use mir.Syntax.{w128}
use Rattle.std.proofs.Common.{◌≡◌, Some, ap, ◌∙◌, FitsSigned, w64, rules}
use Rattle.std.specs.Prelude.{None, ◌||◌, int_lt, if◌then◌else◌}
use Rattle.std.proofs.lemmas.Int.{to_z-of_z}
use Rattle.tb_fpage.specs.Company.{company_height, is_made}
use Rattle.tb_told.specs.declared.Test.TheVariants as tests
use Rattle.tb_told.specs.Tested.{first_failed}
use Rattle.tb_told.specs.ColumnTold.{made_tests}
use Rattle.tb_told.proofs.choices.made_of.Goals as goal

pub returns : goal.returns
returns c =
    let z = c.args.wanted.now in
    let cs = c.args.company.now in
    let least : FitsSigned w64 z.minimum = search rules in
    let sep : FitsSigned w64 z.sep = search rules in
    let height : FitsSigned w128 c.amount.result = search rules in
    let sum : c.company_height-sum.result ≡ company_height z.sep cs = simp to_z-of_z at c.company_height-sum.ensures in
    let made_is = simp to_z-of_z at c.is_made.ensures in
    let made : c.is_made.result ≡ is_made z cs = made_is ∙ ap (λ y. z.clearing || int_lt z.minimum y) (c.amount.ensures.value ∙ sum) in
    let failed : c.failing.result ≡ first_failed (made_tests z cs) = c.failing.ensures ∙ ap (λ b. if b then None else Some tests.Sum) made in
    simp to_z-of_z (cc (c.chosen_count-floats.ensures, sum, failed))
