use Rattle.std.proofs.Common.{[], ◌∷◌, sym, ap, ◌∙◌, FitsSigned, w64, rules}
use Rattle.std.specs.Prelude.{is_some}
use Rattle.std.proofs.lemmas.Int.{to_z-of_z}
use Rattle.tb_node.specs.declared.Where.TheVariants.{Here}
use Rattle.tb_told.specs.declared.Told.TheVariants.{TestsHere, Goes}
use Rattle.tb_told.specs.AreaTold.{told_bottom, told_areas, told_column}
use Rattle.tb_told.proofs.TestedLemmas.{first_is}
use Rattle.tb_told.proofs.TellingLemmas.{told-on, here-goes, here-bottom, here-areas}
use Rattle.tb_told.proofs.telling.tell_column.Goals as goal

pub returns-then-is_yes : goal.returns-then-is_yes
returns-then-is_yes c =
    let p = c.args.p.now in
    let l = c.args.pool.now.lists in
    let s = c.args.s.now in
    let f = c.args.f.now in
    let r = c.args.required in
    let rr = c.ranges.required in
    let told = simp to_z-of_z at c.in_text-told.ensures.told in
    let passes = sym c.is_yes.ensures ∙ c.if-is_yes.true in
    told-on c.tell-then-is_yes.result f c.args.pieces.now.items c.tell.new.pieces.items c.tell-then-is_yes.new.pieces.items (TestsHere c.in_text-told.result) (Goes Here ∷ []) (told_column p l s r f)
    (here-goes p l s r f c.in_text-told.result told passes) c.in_ok-tell.ensures c.tell-then-is_yes.ensures

pub returns-then-blocked : goal.returns-then-blocked
returns-then-blocked c =
    let p = c.args.p.now in
    let l = c.args.pool.now.lists in
    let s = c.args.s.now in
    let f = c.args.f.now in
    let r = c.args.required in
    let rr = c.ranges.required in
    let told = simp to_z-of_z at c.in_text-told.ensures.told in
    let stops = sym c.is_yes.ensures ∙ c.if-is_yes.false in
    let back = simp to_z-of_z at c.tell_bottom.ensures in
    let held = sym (first_is f.class l.bottom) ∙ sym (ap (λ u. is_some u.blocker) told) ∙ sym c.is_some-blocked.ensures ∙ c.if-blocked.true in
    told-on c.tell_bottom.result f c.args.pieces.now.items c.tell.new.pieces.items c.tell_bottom.new.pieces.items (TestsHere c.in_text-told.result) (told_bottom p l s r f) (told_column p l s r f)
    (here-bottom p l s r f c.in_text-told.result told stops held) c.in_ok-tell.ensures back

pub returns-else-blocked : goal.returns-else-blocked
returns-else-blocked c =
    let p = c.args.p.now in
    let l = c.args.pool.now.lists in
    let s = c.args.s.now in
    let f = c.args.f.now in
    let r = c.args.required in
    let rr = c.ranges.required in
    let n : FitsSigned w64 c.in_text-told.result.need = search rules in
    let d : FitsSigned w64 c.after_text-low.result = search rules in
    let told = simp to_z-of_z at c.in_text-told.ensures.told in
    let stops = sym c.is_yes.ensures ∙ c.if-is_yes.false in
    let low = simp to_z-of_z at c.after_text-low.ensures.value in
    let back = simp to_z-of_z at c.tell_areas.ensures in
    let free = sym (first_is f.class l.bottom) ∙ sym (ap (λ u. is_some u.blocker) told) ∙ sym c.is_some-blocked.ensures ∙ c.if-blocked.false in
    told-on c.tell_areas.result f c.args.pieces.now.items c.tell.new.pieces.items c.tell_areas.new.pieces.items (TestsHere c.in_text-told.result) (told_areas p l s c.after_text-low.result f) (told_column p l s r f)
    (here-areas p l s r c.after_text-low.result f c.in_text-told.result told stops free low) c.in_ok-tell.ensures back
