use Rattle.std.proofs.Common.{[], ◌∷◌, sym, ap, ◌∙◌, FitsSigned, w64, rules}
use Rattle.std.specs.Prelude.{◌+ℤ◌}
use Rattle.std.proofs.lemmas.Int.{to_z-of_z}
use Rattle.tb_scaled.specs.Scaled.{max_ℤ}
use Rattle.tb_node.specs.declared.Where.TheVariants.{Deferred}
use Rattle.tb_area.specs.Area.{text_minimum}
use Rattle.tb_told.specs.declared.Told.TheVariants.{Enters, Goes}
use Rattle.tb_told.specs.AreaTold.{told_column, told_call}
use Rattle.tb_told.proofs.TellingLemmas.{told-on, enters-on, enters-not}
use Rattle.tb_told.proofs.telling.tell_called.Goals as goal

pub returns-then-is_yes : goal.returns-then-is_yes
returns-then-is_yes c =
    let p = c.args.p.now in
    let l = c.args.pool.now.lists in
    let s = c.args.s.now in
    let f = c.args.f.now in
    let r = max_ℤ c.args.page_height (text_minimum p l f) +ℤ f.height in
    let rr = c.ranges.page_height in
    let n : FitsSigned w64 c.entering_current-told.result.need = search rules in
    let told = simp to_z-of_z at c.entering_current-told.ensures.told in
    let passes = sym c.is_yes.ensures ∙ c.if-is_yes.true in
    let need = ap (λ u. u.need) told in
    let back = rw need at (simp to_z-of_z at c.tell_column.ensures) in
    told-on c.tell_column.result f c.args.pieces.now.items c.tell.new.pieces.items c.tell_column.new.pieces.items (Enters c.entering_current-told.result) (told_column p l s r f) (told_call p l s c.args.page_height f)
    (enters-on p l s l.deferred r f c.entering_current-told.result (told_column p l s r f) told passes) c.in_ok-tell.ensures back

pub returns-else-is_yes : goal.returns-else-is_yes
returns-else-is_yes c =
    let p = c.args.p.now in
    let l = c.args.pool.now.lists in
    let s = c.args.s.now in
    let f = c.args.f.now in
    let r = max_ℤ c.args.page_height (text_minimum p l f) +ℤ f.height in
    let rr = c.ranges.page_height in
    let told = simp to_z-of_z at c.entering_current-told.ensures.told in
    let stops = sym c.is_yes.ensures ∙ c.if-is_yes.false in
    told-on c.tell-else-is_yes.result f c.args.pieces.now.items c.tell.new.pieces.items c.tell-else-is_yes.new.pieces.items (Enters c.entering_current-told.result) (Goes Deferred ∷ []) (told_call p l s c.args.page_height f)
    (enters-not p l s l.deferred r f c.entering_current-told.result (told_column p l s r f) told stops) c.in_ok-tell.ensures c.tell-else-is_yes.ensures
