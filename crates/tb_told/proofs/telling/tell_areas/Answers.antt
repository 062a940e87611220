use Rattle.std.proofs.Common.{[], ◌∷◌, sym, ◌∙◌, FitsSigned, w64, rules}
use Rattle.std.proofs.lemmas.Int.{to_z-of_z}
use Rattle.tb_node.specs.declared.Where.TheVariants.{Top}
use Rattle.tb_told.specs.declared.Told.TheVariants.{TestsTop, Goes}
use Rattle.tb_told.specs.AreaTold.{told_bottom, told_areas}
use Rattle.tb_told.proofs.TellingLemmas.{told-on, top-goes, top-fails}
use Rattle.tb_told.proofs.telling.tell_areas.Goals as goal

pub returns-then-is_yes : goal.returns-then-is_yes
returns-then-is_yes c =
    let p = c.args.p.now in
    let l = c.args.pool.now.lists in
    let s = c.args.s.now in
    let f = c.args.f.now in
    let r = c.args.required in
    let rr = c.ranges.required in
    let told = simp to_z-of_z at c.at_top-told.ensures.told in
    let passes = sym c.is_yes.ensures ∙ c.if-is_yes.true in
    told-on c.tell-then-is_yes.result f c.args.pieces.now.items c.tell.new.pieces.items c.tell-then-is_yes.new.pieces.items (TestsTop c.at_top-told.result) (Goes Top ∷ []) (told_areas p l s r f)
    (top-goes p l s r f c.at_top-told.result told passes) c.in_ok-tell.ensures c.tell-then-is_yes.ensures

pub returns-else-is_yes : goal.returns-else-is_yes
returns-else-is_yes c =
    let p = c.args.p.now in
    let l = c.args.pool.now.lists in
    let s = c.args.s.now in
    let f = c.args.f.now in
    let r = c.args.required in
    let rr = c.ranges.required in
    let n : FitsSigned w64 c.at_top-told.result.need = search rules in
    let d : FitsSigned w64 c.after_top-low.result = search rules in
    let told = simp to_z-of_z at c.at_top-told.ensures.told in
    let stops = sym c.is_yes.ensures ∙ c.if-is_yes.false in
    let low = simp to_z-of_z at c.after_top-low.ensures.value in
    let back = simp to_z-of_z at c.tell_bottom.ensures in
    told-on c.tell_bottom.result f c.args.pieces.now.items c.tell.new.pieces.items c.tell_bottom.new.pieces.items (TestsTop c.at_top-told.result) (told_bottom p l s c.after_top-low.result f) (told_areas p l s r f)
    (top-fails p l s r c.after_top-low.result f c.at_top-told.result told stops low) c.in_ok-tell.ensures back
