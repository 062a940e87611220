use Rattle.std.proofs.Common.{◌≡◌, Bool, true, false, sym, ap, ◌∙◌, FitsSigned, w64, rules, refl}
use Rattle.std.specs.Prelude.{◌+ℤ◌, if◌then◌else◌}
use Rattle.std.proofs.lemmas.Int.{to_z-of_z}
use Rattle.tb_node.specs.declared.Where.{Where}
use Rattle.tb_node.specs.declared.Where.TheVariants.{Top}
use Rattle.tb_area.specs.Area.{at_top, next_separator, where_of, top_or_bottom, bottom_or_deferred}
use Rattle.tb_area.proofs.ChoiceLemmas.{top_by}
use Rattle.tb_area.proofs.areas.area_place.Goals.{After-fits_above}
use Rattle.tb_area.proofs.areas.area_place.Goals as goal

-- the top is tried: the float goes there, or the bottom decides
tried_by : (c : After-fits_above) (b : Bool) (w : Where) → c.fits_above.result ≡ b → w ≡ where_of (if b then at_top else bottom_or_deferred c.args.p.now c.args.pool.now.lists c.args.s.now c.beyond-above.result c.args.f.now) → w ≡ where_of (top_or_bottom c.args.p.now c.args.pool.now.lists c.args.s.now c.args.required c.args.f.now)
tried_by c b w is goes =
    let p = c.args.p.now in
    let l = c.args.pool.now.lists in
    let r = c.ranges.required in
    let n : FitsSigned w64 c.next_separator.result = search rules in
    let a : FitsSigned w64 c.beyond-above.result = search rules in
    let sum = simp to_z-of_z at c.beyond-above.ensures in
    let above : c.beyond-above.result ≡ c.args.required +ℤ next_separator p l.top = sum ∙ ap (λ z. c.args.required +ℤ z) (c.next_separator.ensures.value l.top c.len.ensures.value) in
    let fits = simp to_z-of_z at c.fits_above.ensures in
    let tried = sym c.tries_top.ensures ∙ c.if-not-tries_top.false in
    top_by p l c.args.s.now c.args.required c.beyond-above.result c.args.f.now b w tried above (sym fits ∙ is) goes

pub returns-then-fits_above : goal.returns-then-fits_above
returns-then-fits_above c = tried_by (goal.at.returns-then-fits_above c).After-fits_above true Top c.if-fits_above.true refl

pub returns-else-fits_above : goal.returns-else-fits_above
returns-else-fits_above c =
    let a : FitsSigned w64 c.beyond-above.result = search rules in
    let placed = simp to_z-of_z at c.bottom_place-else-fits_above.ensures in
    tried_by (goal.at.returns-else-fits_above c).After-fits_above false _ c.if-fits_above.false placed
