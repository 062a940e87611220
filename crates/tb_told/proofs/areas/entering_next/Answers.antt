use Rattle.std.proofs.Common.{take, ap, ◌∙◌, FitsSigned, w64, rules}
use Rattle.std.specs.Prelude.{◌+ℤ◌}
use Rattle.std.proofs.lemmas.Int.{to_z-of_z}
use Rattle.tb_told.specs.AreaTold.{enter_told}
use Rattle.tb_told.proofs.areas.entering_next.Goals as goal

pub returns-clause-told : goal.returns-clause-told
returns-clause-told c =
    let p = c.args.p.now in
    let l = c.args.pool.now.lists in
    let f = c.args.f.now in
    let h : FitsSigned w64 f.height = search rules in
    let t : FitsSigned w64 c.text_minimum.result = search rules in
    let r : FitsSigned w64 c.required_with-required.result = search rules in
    let sum = simp to_z-of_z at c.required_with-required.ensures.value in
    let told = simp to_z-of_z at (c.entering.ensures.told (take c.args.k l.deferred) c.first_of_class-blocker.ensures.first) in
    told ∙ ap (λ z. enter_told p l c.args.s.now (take c.args.k l.deferred) z f) (sum ∙ ap (λ z. f.height +ℤ z) c.text_minimum.ensures.value)
