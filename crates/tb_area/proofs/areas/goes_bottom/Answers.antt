use Rattle.std.proofs.Common.{◌≡◌, sym, ap, ◌∙◌, FitsSigned, w64, rules}
use Rattle.std.specs.Prelude.{◌+ℤ◌}
use Rattle.std.proofs.lemmas.Int.{to_z-of_z}
use Rattle.tb_area.specs.Area.{next_separator}
use Rattle.tb_area.proofs.ChoiceLemmas.{bottom_tried, bottom_not_tried}
use Rattle.tb_area.proofs.areas.goes_bottom.Goals as goal

pub returns-then-tries_bottom : goal.returns-then-tries_bottom
returns-then-tries_bottom c =
    let p = c.args.p.now in
    let l = c.args.pool.now.lists in
    let r = c.ranges.required in
    let n : FitsSigned w64 c.next_separator.result = search rules in
    let b : FitsSigned w64 c.beyond-below.result = search rules in
    let separator = c.next_separator.ensures.value l.bottom c.len.ensures.value in
    let sum = simp to_z-of_z at c.beyond-below.ensures in
    let below : c.beyond-below.result ≡ c.args.required +ℤ next_separator p l.bottom = sum ∙ ap (λ z. c.args.required +ℤ z) separator in
    let fits = simp to_z-of_z at c.fits_below.ensures in
    let tried = sym c.tries_bottom.ensures ∙ c.if-tries_bottom.true in
    fits ∙ sym (bottom_tried p l c.args.s.now c.args.required c.beyond-below.result c.args.f.now tried below)

pub returns-else-tries_bottom : goal.returns-else-tries_bottom
returns-else-tries_bottom c =
    let tried = sym c.tries_bottom.ensures ∙ c.if-tries_bottom.false in
    c.if-tries_bottom.false ∙ sym (bottom_not_tried c.args.p.now c.args.pool.now.lists c.args.s.now c.args.required c.args.f.now tried)
