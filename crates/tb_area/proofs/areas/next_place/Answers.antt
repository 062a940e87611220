use Rattle.std.proofs.Common.{true, false, refl, sym, ◌∙◌, FitsSigned, w64, rules}
use Rattle.std.proofs.lemmas.Int.{to_z-of_z}
use Rattle.tb_node.specs.declared.Where.TheVariants.{Deferred}
use Rattle.tb_area.proofs.ChoiceLemmas.{next_by}
use Rattle.tb_area.proofs.areas.next_place.Goals as goal

pub returns-then-may_enter : goal.returns-then-may_enter
returns-then-may_enter c = λ before had.
    let g = c.args.f.now in
    let h : FitsSigned w64 g.height = search rules in
    let t : FitsSigned w64 c.text_minimum.result = search rules in
    let r : FitsSigned w64 c.required_with-required.result = search rules in
    let sum = simp to_z-of_z at c.required_with-required.ensures.value in
    let enters = simp to_z-of_z at (c.may_enter.ensures before had) in
    let placed = simp to_z-of_z at c.area_place.ensures in
    next_by c.args.p.now c.args.pool.now.lists c.args.s.now before c.text_minimum.result c.required_with-required.result g true c.area_place.result c.text_minimum.ensures.value sum (sym enters ∙ c.if-may_enter.true) placed

pub returns-else-may_enter : goal.returns-else-may_enter
returns-else-may_enter c = λ before had.
    let g = c.args.f.now in
    let h : FitsSigned w64 g.height = search rules in
    let t : FitsSigned w64 c.text_minimum.result = search rules in
    let r : FitsSigned w64 c.required_with-required.result = search rules in
    let sum = simp to_z-of_z at c.required_with-required.ensures.value in
    let enters = simp to_z-of_z at (c.may_enter.ensures before had) in
    next_by c.args.p.now c.args.pool.now.lists c.args.s.now before c.text_minimum.result c.required_with-required.result g false Deferred c.text_minimum.ensures.value sum (sym enters ∙ c.if-may_enter.false) refl
