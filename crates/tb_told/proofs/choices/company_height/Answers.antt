use mir.Syntax.{w128}
use mir.Val.{to_z, of_z}
use Rattle.std.proofs.Common.{◌≡◌, ◌-◌, suc, length, sym, ap, ◌∙◌, FitsSigned, w64, rules, arith}
use Rattle.std.specs.Prelude.{◌-ℤ◌}
use Rattle.std.proofs.lemmas.Int.{to_z-of_z}
use Rattle.tb_fpage.specs.Company.{chosen_floats, separated}
use Rattle.tb_told.proofs.ChoiceLemmas.{height-is, height-none}
use Rattle.tb_told.proofs.choices.company_height.Goals as goal

pub returns-then-floats-eq0 : goal.returns-then-floats-eq0
returns-then-floats-eq0 c = c.new.ensures ∙ sym (height-none _ c.args.company.now (sym c.requires.floats ∙ c.if-floats-eq0.true))

pub returns : goal.returns
returns c =
    let n = c.args.floats - 1 in
    let cs = c.args.company.now in
    let some : length (chosen_floats cs) ≡ suc n = omega (arith, c.requires.floats, c.if-floats-eq0.false) in
    let fits_sep : FitsSigned w64 c.args.sep = search rules in
    let fits_all : FitsSigned w128 c.separated.result = search rules in
    let fits_less : FitsSigned w128 c.less.result = search rules in
    let e_sep : to_z w64 (of_z w64 c.args.sep) ≡ c.args.sep = to_z-of_z _ _ fits_sep in
    let e_all : to_z w128 (of_z w128 c.separated.result) ≡ c.separated.result = to_z-of_z _ _ fits_all in
    let e_less : to_z w128 (of_z w128 c.less.result) ≡ c.less.result = to_z-of_z _ _ fits_less in
    c.new-2.ensures ∙ e_less ∙ c.less.ensures.value ∙ (λ i. e_all i -ℤ e_sep i)
    ∙ ap (λ y. y -ℤ c.args.sep) (c.separated.ensures.value ∙ ap (λ y. separated y cs) e_sep)
    ∙ sym (height-is c.args.sep cs n some)
