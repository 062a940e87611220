use Rattle.std.proofs.Common.{◌≡◌, Some, sym, subst, ◌∙◌, FitsSigned, w64, rules}
use Rattle.std.proofs.lemmas.Int.{to_z-of_z}
use Rattle.tb_float.specs.declared.Entry.TheVariants as entries
use Rattle.tb_area.specs.Area.{current_place}
use Rattle.tb_area.proofs.LawLemmas.{current-kept}
use Rattle.tb_area.proofs.ChoiceLemmas.{current_by}
use Rattle.tb_area.proofs.add_current.Goals as goal

pub returns-clause-place : goal.returns-clause-place
returns-clause-place c = λ f there.
    let p = c.args.p.now in
    let l = c.args.pool.now.lists in
    let s = c.args.s.now in
    let g = c.float_at-f.result in
    let both : Some (entries.Float g) ≡ Some (entries.Float f) = sym c.float_at-f.ensures.value ∙ there in
    let same : g ≡ f = cc in
    let q = c.ranges.page_height in
    let h : FitsSigned w64 g.height = search rules in
    let t : FitsSigned w64 c.text_minimum.result = search rules in
    let m : FitsSigned w64 c.greater.result = search rules in
    let r : FitsSigned w64 c.required_with-required.result = search rules in
    let sum = simp to_z-of_z at c.required_with-required.ensures.value in
    let page = simp to_z-of_z at c.greater.ensures.value in
    let placed = simp to_z-of_z at c.column_place.ensures in
    let w = c.behind_waiting.result in
    let goes = rw placed at c.behind_waiting.ensures in
    subst (λ x. w ≡ current_place p l s c.args.page_height x) same (current_by p l s c.args.page_height c.text_minimum.result c.greater.result c.required_with-required.result g w c.text_minimum.ensures.value page sum goes)

pub returns-clause-laws : goal.returns-clause-laws
returns-clause-laws c = current-kept c.args.p.now c.args.pool.now.lists c.args.s.now c.args.page_height c.behind_waiting.result (returns-clause-place c)
