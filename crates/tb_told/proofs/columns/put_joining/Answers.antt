use Rattle.std.proofs.Common.{FitsSigned, List, [], append_assoc, codes, refl, rules, w64, ℕ, ◌++◌, ◌∷◌, ◌≡◌}
use Rattle.std.proofs.lemmas.Int.{to_z-of_z}
use Rattle.tb_text.specs.Fields.{and_number, and_text}
use Rattle.tb_text.proofs.FrontLemmas.{cut, cut-in, cut-after, past, fails, on_joined}
use Rattle.tb_node.specs.declared.Name.{Name}
use Rattle.tb_told.specs.declared.Joining.{Joining}
use Rattle.tb_told.specs.Lines.{verdict_text, blocker_text, joins_line}
use Rattle.tb_told.proofs.columns.put_joining.Goals as goal

-- the parts, one after another
joined : (a b d e f g h i j k l : List ℕ) → (a ++ b ++ d) ++ ((e ++ f) ++ ((g ++ h ++ i ++ j) ++ (k ++ l))) ≡ (a ++ b ++ d ++ e ++ f ++ g ++ h ++ i ++ j ++ k) ++ l
joined a b d e f g h i j k l = simp append_assoc

-- those of the text
parts : (name : Name) (t : Joining) → (codes "joins" ++ and_text name ++ blocker_text t.blocker) ++ ((codes " high" ++ and_number t.high) ++ ((codes " sum" ++ and_number t.sum ++ codes " most" ++ and_number t.most) ++ (verdict_text t.failed ++ 10 ∷ []))) ≡ joins_line name t
parts name t = joined (codes "joins") (and_text name) (blocker_text t.blocker) (codes " high") (and_number t.high) (codes " sum") (and_number t.sum) (codes " most") (and_number t.most) (verdict_text t.failed) (10 ∷ [])

pub returns-in_err-put_blocked : goal.returns-in_err-put_blocked
returns-in_err-put_blocked c =
    fails _ _ _ _ c.from_residual.ensures.0 (cut-in _ _ (parts c.args.name.now c.args.t.now) c.in_err-put_blocked.ensures)

pub returns-in_err-put_measure : goal.returns-in_err-put_measure
returns-in_err-put_measure c =
    let a : FitsSigned w64 c.args.t.now.high = search rules in
    fails _ _ _ _ c.from_residual-in_err-put_measure.ensures.0 (cut-after _ _ (parts c.args.name.now c.args.t.now) c.in_ok-put_blocked.ensures (cut _ (simp to_z-of_z at c.in_err-put_measure.ensures)))

pub returns-in_err-put_most : goal.returns-in_err-put_most
returns-in_err-put_most c =
    let a : FitsSigned w64 c.args.t.now.high = search rules in
    let d : FitsSigned w64 c.args.t.now.most = search rules in
    fails _ _ _ _ c.from_residual-in_err-put_most.ensures.0 (cut-after _ _ (parts c.args.name.now c.args.t.now) c.in_ok-put_blocked.ensures (past _ (simp to_z-of_z at c.in_ok-put_measure.ensures) (cut _ (simp to_z-of_z at c.in_err-put_most.ensures))))

pub returns : goal.returns
returns c =
    let a : FitsSigned w64 c.args.t.now.high = search rules in
    let d : FitsSigned w64 c.args.t.now.most = search rules in
    on_joined c.put_end.result c.args.out.now.items c.put_blocked.new.out.items c.put_end.new.out.items _ _ _ (parts c.args.name.now c.args.t.now) c.in_ok-put_blocked.ensures
    (on_joined c.put_end.result c.put_blocked.new.out.items c.put_measure.new.out.items c.put_end.new.out.items _ _ _ refl (simp to_z-of_z at c.in_ok-put_measure.ensures)
    (on_joined c.put_end.result c.put_measure.new.out.items c.put_most.new.out.items c.put_end.new.out.items _ _ _ refl (simp to_z-of_z at c.in_ok-put_most.ensures) c.put_end.ensures))
