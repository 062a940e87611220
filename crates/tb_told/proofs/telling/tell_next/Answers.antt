use Rattle.std.proofs.Common.{[], ◌∷◌, take, sym, ap, ◌∙◌, FitsSigned, w64, rules}
use Rattle.std.specs.Prelude.{◌+ℤ◌}
use Rattle.std.proofs.lemmas.Int.{to_z-of_z}
use Rattle.tb_node.specs.declared.Where.TheVariants.{Deferred}
use Rattle.tb_area.specs.Area.{text_minimum}
use Rattle.tb_told.specs.declared.Told.TheVariants.{Enters, Goes}
use Rattle.tb_told.specs.AreaTold.{told_areas, told_next}
use Rattle.tb_told.proofs.TellingLemmas.{told-on, told-none, enters-on, enters-not, not-asked, asked}
use Rattle.tb_told.proofs.telling.tell_next.Goals as goal

pub returns-then-f : goal.returns-then-f
returns-then-f c =
    let f = c.args.f.now in
    told-none f c.args.pieces.now.items _ (not-asked f.wide _ c.if-f.true)

pub returns-then-is_yes : goal.returns-then-is_yes
returns-then-is_yes c =
    let p = c.args.p.now in
    let l = c.args.pool.now.lists in
    let s = c.args.s.now in
    let f = c.args.f.now in
    let before = take c.args.k l.deferred in
    let r = f.height +ℤ text_minimum p l f in
    let n : FitsSigned w64 c.entering_next-told.result.need = search rules in
    let told = c.entering_next-told.ensures.told in
    let passes = sym c.is_yes.ensures ∙ c.if-is_yes.true in
    let need = ap (λ u. u.need) told in
    let back = rw need at (simp to_z-of_z at c.tell_areas.ensures) in
    told-on c.tell_areas.result f c.args.pieces.now.items c.tell.new.pieces.items c.tell_areas.new.pieces.items (Enters c.entering_next-told.result) (told_areas p l s r f) (told_next p l s before f)
    (enters-on p l s before r f c.entering_next-told.result (told_areas p l s r f) told passes ∙ asked f.wide _ c.if-f.false) c.in_ok-tell.ensures back

pub returns-else-is_yes : goal.returns-else-is_yes
returns-else-is_yes c =
    let p = c.args.p.now in
    let l = c.args.pool.now.lists in
    let s = c.args.s.now in
    let f = c.args.f.now in
    let before = take c.args.k l.deferred in
    let r = f.height +ℤ text_minimum p l f in
    let told = c.entering_next-told.ensures.told in
    let stops = sym c.is_yes.ensures ∙ c.if-is_yes.false in
    told-on c.tell-else-is_yes.result f c.args.pieces.now.items c.tell.new.pieces.items c.tell-else-is_yes.new.pieces.items (Enters c.entering_next-told.result) (Goes Deferred ∷ []) (told_next p l s before f)
    (enters-not p l s before r f c.entering_next-told.result (told_areas p l s r f) told stops ∙ asked f.wide _ c.if-f.false) c.in_ok-tell.ensures c.tell-else-is_yes.ensures
