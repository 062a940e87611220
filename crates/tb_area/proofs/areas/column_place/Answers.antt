use Rattle.std.proofs.Common.{[], true, false, refl, sym, ◌∙◌}
use Rattle.std.proofs.lemmas.Int.{to_z-of_z}
use Rattle.tb_node.specs.declared.Where.TheVariants.{Deferred}
use Rattle.tb_area.proofs.ChoiceLemmas.{entered}
use Rattle.tb_area.proofs.areas.column_place.Goals as goal

pub returns-then-may_enter : goal.returns-then-may_enter
returns-then-may_enter c =
    let r = c.ranges.required in
    let enters = simp to_z-of_z at (c.may_enter.ensures [] refl) in
    let placed = simp to_z-of_z at c.by_class.ensures in
    entered c.args.p.now c.args.pool.now.lists c.args.s.now c.args.required c.args.f.now true c.by_class.result (sym enters ∙ c.if-may_enter.true) placed

pub returns-else-may_enter : goal.returns-else-may_enter
returns-else-may_enter c =
    let r = c.ranges.required in
    let enters = simp to_z-of_z at (c.may_enter.ensures [] refl) in
    entered c.args.p.now c.args.pool.now.lists c.args.s.now c.args.required c.args.f.now false Deferred (sym enters ∙ c.if-may_enter.false) refl
