use Rattle.std.proofs.Common.{FitsSigned, List, [], append_assoc, codes, refl, rules, w64, ℕ, ◌++◌, ◌∷◌, ◌≡◌}
use Rattle.std.proofs.lemmas.Int.{to_z-of_z}
use Rattle.tb_text.specs.Fields.{and_number, and_text}
use Rattle.tb_text.proofs.FrontLemmas.{cut, cut-in, cut-after, past, fails, on_joined}
use Rattle.tb_node.specs.declared.Name.{Name}
use Rattle.tb_told.specs.declared.AtBottom.{AtBottom}
use Rattle.tb_told.specs.Lines.{verdict_text, count_text, bottom_line}
use Rattle.tb_told.proofs.decisions.put_at_bottom.Goals as goal

-- the parts, one after another
joined : (a b d e f g h i j k l m n : List ℕ) → (a ++ b) ++ (d ++ ((e ++ f ++ g ++ h ++ i ++ j ++ k ++ l) ++ (m ++ n))) ≡ (a ++ b ++ d ++ e ++ f ++ g ++ h ++ i ++ j ++ k ++ l ++ m) ++ n
joined a b d e f g h i j k l m n = simp append_assoc

-- those of the text
parts : (name : Name) (t : AtBottom) → (codes "bottom" ++ and_text name) ++ (count_text t.count ++ ((codes " room" ++ and_number t.room ++ codes " need" ++ and_number t.need ++ codes " share" ++ and_number t.share ++ codes " high" ++ and_number t.high) ++ (verdict_text t.failed ++ 10 ∷ []))) ≡ bottom_line name t
parts name t = joined (codes "bottom") (and_text name) (count_text t.count) (codes " room") (and_number t.room) (codes " need") (and_number t.need) (codes " share") (and_number t.share) (codes " high") (and_number t.high) (verdict_text t.failed) (10 ∷ [])

pub returns-in_err-put_head : goal.returns-in_err-put_head
returns-in_err-put_head c =
    fails _ _ _ _ c.from_residual.ensures.0 (cut-in _ _ (parts c.args.name.now c.args.t.now) c.in_err-put_head.ensures)

pub returns-in_err-put_counted : goal.returns-in_err-put_counted
returns-in_err-put_counted c =
    fails _ _ _ _ c.from_residual-in_err-put_counted.ensures.0 (cut-after _ _ (parts c.args.name.now c.args.t.now) c.in_ok-put_head.ensures (cut _ c.in_err-put_counted.ensures))

pub returns-in_err-put_fit : goal.returns-in_err-put_fit
returns-in_err-put_fit c =
    let a : FitsSigned w64 c.args.t.now.room = search rules in
    let b : FitsSigned w64 c.args.t.now.need = search rules in
    let d : FitsSigned w64 c.args.t.now.share = search rules in
    let e : FitsSigned w64 c.args.t.now.high = search rules in
    fails _ _ _ _ c.from_residual-in_err-put_fit.ensures.0 (cut-after _ _ (parts c.args.name.now c.args.t.now) c.in_ok-put_head.ensures (past _ c.in_ok-put_counted.ensures (cut _ (simp to_z-of_z at c.in_err-put_fit.ensures))))

pub returns : goal.returns
returns c =
    let a : FitsSigned w64 c.args.t.now.room = search rules in
    let b : FitsSigned w64 c.args.t.now.need = search rules in
    let d : FitsSigned w64 c.args.t.now.share = search rules in
    let e : FitsSigned w64 c.args.t.now.high = search rules in
    on_joined c.put_end.result c.args.out.now.items c.put_head.new.out.items c.put_end.new.out.items _ _ _ (parts c.args.name.now c.args.t.now) c.in_ok-put_head.ensures
    (on_joined c.put_end.result c.put_head.new.out.items c.put_counted.new.out.items c.put_end.new.out.items _ _ _ refl c.in_ok-put_counted.ensures
    (on_joined c.put_end.result c.put_counted.new.out.items c.put_fit.new.out.items c.put_end.new.out.items _ _ _ refl (simp to_z-of_z at c.in_ok-put_fit.ensures) c.put_end.ensures))
