use Rattle.std.proofs.Common.{true, false, sym, ◌∙◌}
use Rattle.std.proofs.lemmas.Int.{to_z-of_z}
use Rattle.tb_area.proofs.ChoiceLemmas.{bottom_by}
use Rattle.tb_area.proofs.areas.bottom_place.Goals as goal

pub returns-then-goes_bottom : goal.returns-then-goes_bottom
returns-then-goes_bottom c =
    let r = c.ranges.required in
    let goes = simp to_z-of_z at c.goes_bottom.ensures in
    sym (bottom_by c.args.p.now c.args.pool.now.lists c.args.s.now c.args.required c.args.f.now true (sym goes ∙ c.if-goes_bottom.true))

pub returns-else-goes_bottom : goal.returns-else-goes_bottom
returns-else-goes_bottom c =
    let r = c.ranges.required in
    let goes = simp to_z-of_z at c.goes_bottom.ensures in
    sym (bottom_by c.args.p.now c.args.pool.now.lists c.args.s.now c.args.required c.args.f.now false (sym goes ∙ c.if-goes_bottom.false))
