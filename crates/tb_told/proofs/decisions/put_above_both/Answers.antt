use Rattle.std.proofs.Common.{FitsSigned, List, [], append_assoc, codes, refl, rules, w64, ℕ, ◌++◌, ◌∷◌, ◌≡◌}
use Rattle.std.proofs.lemmas.Int.{to_z-of_z}
use Rattle.tb_text.specs.Fields.{and_number, and_text}
use Rattle.tb_text.proofs.FrontLemmas.{cut, cut-in, cut-after, past, fails, on_joined}
use Rattle.tb_node.specs.declared.Name.{Name}
use Rattle.tb_told.specs.declared.AboveBoth.{AboveBoth}
use Rattle.tb_told.specs.Lines.{verdict_text, blocker_text, count_text, wide_line}
use Rattle.tb_told.proofs.decisions.put_above_both.Goals as goal

-- the parts, one after another
joined : (a b d e f g h i j k : List ℕ) → (a ++ b ++ d) ++ (e ++ ((f ++ g) ++ ((h ++ i) ++ (j ++ k)))) ≡ (a ++ b ++ d ++ e ++ f ++ g ++ h ++ i ++ j) ++ k
joined a b d e f g h i j k = simp append_assoc

-- those of the text
parts : (name : Name) (t : AboveBoth) → (codes "wide" ++ and_text name ++ blocker_text t.blocker) ++ (count_text t.count ++ ((codes " room" ++ and_number t.room) ++ ((codes " high" ++ and_number t.high) ++ (verdict_text t.failed ++ 10 ∷ [])))) ≡ wide_line name t
parts name t = joined (codes "wide") (and_text name) (blocker_text t.blocker) (count_text t.count) (codes " room") (and_number t.room) (codes " high") (and_number t.high) (verdict_text t.failed) (10 ∷ [])

pub returns-in_err-put_blocked : goal.returns-in_err-put_blocked
returns-in_err-put_blocked c =
    fails _ _ _ _ c.from_residual.ensures.0 (cut-in _ _ (parts c.args.name.now c.args.t.now) c.in_err-put_blocked.ensures)

pub returns-in_err-put_counted : goal.returns-in_err-put_counted
returns-in_err-put_counted c =
    fails _ _ _ _ c.from_residual-in_err-put_counted.ensures.0 (cut-after _ _ (parts c.args.name.now c.args.t.now) c.in_ok-put_blocked.ensures (cut _ c.in_err-put_counted.ensures))

pub returns-in_err-put_measure : goal.returns-in_err-put_measure
returns-in_err-put_measure c =
    let a : FitsSigned w64 c.args.t.now.room = search rules in
    fails _ _ _ _ c.from_residual-in_err-put_measure.ensures.0 (cut-after _ _ (parts c.args.name.now c.args.t.now) c.in_ok-put_blocked.ensures (past _ c.in_ok-put_counted.ensures (cut _ (simp to_z-of_z at c.in_err-put_measure.ensures))))

pub returns-in_err-put_measure-2 : goal.returns-in_err-put_measure-2
returns-in_err-put_measure-2 c =
    let a : FitsSigned w64 c.args.t.now.room = search rules in
    let b : FitsSigned w64 c.args.t.now.high = search rules in
    fails _ _ _ _ c.from_residual-in_err-put_measure-2.ensures.0 (cut-after _ _ (parts c.args.name.now c.args.t.now) c.in_ok-put_blocked.ensures (past _ c.in_ok-put_counted.ensures (past _ (simp to_z-of_z at c.in_ok-put_measure.ensures) (cut _ (simp to_z-of_z at c.in_err-put_measure-2.ensures)))))

pub returns : goal.returns
returns c =
    let a : FitsSigned w64 c.args.t.now.room = search rules in
    let b : FitsSigned w64 c.args.t.now.high = search rules in
    on_joined c.put_end.result c.args.out.now.items c.put_blocked.new.out.items c.put_end.new.out.items _ _ _ (parts c.args.name.now c.args.t.now) c.in_ok-put_blocked.ensures
    (on_joined c.put_end.result c.put_blocked.new.out.items c.put_counted.new.out.items c.put_end.new.out.items _ _ _ refl c.in_ok-put_counted.ensures
    (on_joined c.put_end.result c.put_counted.new.out.items c.put_measure.new.out.items c.put_end.new.out.items _ _ _ refl (simp to_z-of_z at c.in_ok-put_measure.ensures)
    (on_joined c.put_end.result c.put_measure.new.out.items c.put_measure-2.new.out.items c.put_end.new.out.items _ _ _ refl (simp to_z-of_z at c.in_ok-put_measure-2.ensures) c.put_end.ensures)))
