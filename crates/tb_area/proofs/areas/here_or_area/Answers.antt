use Rattle.std.proofs.Common.{sym, ◌∙◌, FitsSigned, w64, rules}
use Rattle.std.proofs.lemmas.Int.{to_z-of_z}
use Rattle.tb_area.proofs.ChoiceLemmas.{not_here, here_goes, here_fails}
use Rattle.tb_area.proofs.areas.here_or_area.Goals as goal

pub returns-then-not-f : goal.returns-then-not-f
returns-then-not-f c =
    let r = c.ranges.required in
    let placed = simp to_z-of_z at c.area_place.ensures in
    not_here c.args.p.now c.args.pool.now.lists c.args.s.now c.args.required c.args.f.now c.area_place.result c.if-not-f.true placed

pub returns-then-fits_column : goal.returns-then-fits_column
returns-then-fits_column c =
    let r = c.ranges.required in
    let w : FitsSigned w64 c.args.p.now.intextsep.width = search rules in
    let b : FitsSigned w64 c.beyond-inside.result = search rules in
    let inside = simp to_z-of_z at c.beyond-inside.ensures in
    let fits = simp to_z-of_z at c.fits_column.ensures in
    here_goes c.args.p.now c.args.pool.now.lists c.args.s.now c.args.required c.beyond-inside.result c.args.f.now c.if-not-f.false inside (sym fits ∙ c.if-fits_column.true)

pub returns-else-fits_column : goal.returns-else-fits_column
returns-else-fits_column c =
    let r = c.ranges.required in
    let w : FitsSigned w64 c.args.p.now.intextsep.width = search rules in
    let b : FitsSigned w64 c.beyond-inside.result = search rules in
    let inside = simp to_z-of_z at c.beyond-inside.ensures in
    let fits = simp to_z-of_z at c.fits_column.ensures in
    let placed = simp to_z-of_z at c.area_place-else-fits_column.ensures in
    here_fails c.args.p.now c.args.pool.now.lists c.args.s.now c.args.required c.beyond-inside.result c.args.f.now c.area_place-else-fits_column.result c.if-not-f.false inside (sym fits ∙ c.if-fits_column.false) placed
