use Rattle.std.proofs.Common.{sym, ◌∙◌}
use Rattle.std.proofs.lemmas.Int.{to_z-of_z}
use Rattle.tb_area.proofs.ChoiceLemmas.{class_at_bottom, class_not_at_bottom}
use Rattle.tb_area.proofs.areas.by_class.Goals as goal

pub returns-then-has_class : goal.returns-then-has_class
returns-then-has_class c =
    let r = c.ranges.required in
    let placed = simp to_z-of_z at c.bottom_place.ensures in
    class_at_bottom c.args.p.now c.args.pool.now.lists c.args.s.now c.args.required c.args.f.now c.bottom_place.result (sym c.has_class.ensures ∙ c.if-has_class.true) placed

pub returns-else-has_class : goal.returns-else-has_class
returns-else-has_class c =
    let r = c.ranges.required in
    let placed = simp to_z-of_z at c.here_or_area.ensures in
    class_not_at_bottom c.args.p.now c.args.pool.now.lists c.args.s.now c.args.required c.args.f.now c.here_or_area.result (sym c.has_class.ensures ∙ c.if-has_class.false) placed
