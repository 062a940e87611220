use Rattle.std.proofs.Common.{FitsSigned, refl, rules, subst, ℤ}
use Rattle.std.specs.Int.{w128}
use Rattle.std.proofs.lemmas.Int.{to_z-of_z}
use Rattle.tb_text.specs.Fields.{and_number}
use Rattle.tb_text.specs.Fronts.{PutsAfter}
use Rattle.tb_text.proofs.FrontLemmas.{cut, fails, on_joined}
use Rattle.tb_told.proofs.columns.put_sum.Goals as goal

pub returns-in_err-put : goal.returns-in_err-put
returns-in_err-put c =
    fails _ _ _ _ c.from_residual.ensures.0 (cut _ c.in_err-put.ensures)

pub returns : goal.returns
returns c =
    let a : FitsSigned w128 c.amount.result = search rules in
    let put = simp to_z-of_z at c.put_field.ensures in
    on_joined c.put_field.result c.args.out.now.items c.put.new.out.items c.put_field.new.out.items _ _ _ refl c.in_ok-put.ensures
    (subst (λ (z : ℤ). PutsAfter c.put_field.result c.put.new.out.items (and_number z) c.put_field.new.out.items) c.amount.ensures.value put)
