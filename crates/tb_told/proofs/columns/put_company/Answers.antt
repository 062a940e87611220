use Rattle.std.proofs.Common.{FitsSigned, List, [], append_assoc, codes, refl, rules, w64, ℕ, ◌++◌, ◌∷◌, ◌≡◌}
use Rattle.std.proofs.lemmas.Int.{to_z-of_z}
use Rattle.tb_text.specs.Fields.{and_number, and_count, and_text}
use Rattle.tb_text.proofs.FrontLemmas.{cut, cut-in, cut-after, past, fails, on_joined}
use Rattle.tb_node.specs.declared.Name.{Name}
use Rattle.tb_told.specs.declared.Made.{Made}
use Rattle.tb_told.specs.Lines.{verdict_text, company_line}
use Rattle.tb_told.proofs.columns.put_company.Goals as goal

-- the parts, one after another
joined : (a b d e f g h i j k : List ℕ) → (a ++ b) ++ ((d ++ e) ++ ((f ++ g) ++ ((h ++ i) ++ (j ++ k)))) ≡ (a ++ b ++ d ++ e ++ f ++ g ++ h ++ i ++ j) ++ k
joined a b d e f g h i j k = simp append_assoc

-- those of the text
parts : (name : Name) (t : Made) → (codes "company" ++ and_text name) ++ ((codes " floats" ++ and_count t.floats) ++ ((codes " sum" ++ and_number t.sum) ++ ((codes " least" ++ and_number t.least) ++ (verdict_text t.failed ++ 10 ∷ [])))) ≡ company_line name t
parts name t = joined (codes "company") (and_text name) (codes " floats") (and_count t.floats) (codes " sum") (and_number t.sum) (codes " least") (and_number t.least) (verdict_text t.failed) (10 ∷ [])

pub returns-in_err-put_head : goal.returns-in_err-put_head
returns-in_err-put_head c =
    fails _ _ _ _ c.from_residual.ensures.0 (cut-in _ _ (parts c.args.name.now c.args.t.now) c.in_err-put_head.ensures)

pub returns-in_err-put_total : goal.returns-in_err-put_total
returns-in_err-put_total c =
    fails _ _ _ _ c.from_residual-in_err-put_total.ensures.0 (cut-after _ _ (parts c.args.name.now c.args.t.now) c.in_ok-put_head.ensures (cut _ c.in_err-put_total.ensures))

pub returns-in_err-put_sum : goal.returns-in_err-put_sum
returns-in_err-put_sum c =
    fails _ _ _ _ c.from_residual-in_err-put_sum.ensures.0 (cut-after _ _ (parts c.args.name.now c.args.t.now) c.in_ok-put_head.ensures (past _ c.in_ok-put_total.ensures (cut _ c.in_err-put_sum.ensures)))

pub returns-in_err-put_measure : goal.returns-in_err-put_measure
returns-in_err-put_measure c =
    let b : FitsSigned w64 c.args.t.now.least = search rules in
    fails _ _ _ _ c.from_residual-in_err-put_measure.ensures.0 (cut-after _ _ (parts c.args.name.now c.args.t.now) c.in_ok-put_head.ensures (past _ c.in_ok-put_total.ensures (past _ c.in_ok-put_sum.ensures (cut _ (simp to_z-of_z at c.in_err-put_measure.ensures)))))

pub returns : goal.returns
returns c =
    let b : FitsSigned w64 c.args.t.now.least = search rules in
    on_joined c.put_end.result c.args.out.now.items c.put_head.new.out.items c.put_end.new.out.items _ _ _ (parts c.args.name.now c.args.t.now) c.in_ok-put_head.ensures
    (on_joined c.put_end.result c.put_head.new.out.items c.put_total.new.out.items c.put_end.new.out.items _ _ _ refl c.in_ok-put_total.ensures
    (on_joined c.put_end.result c.put_total.new.out.items c.put_sum.new.out.items c.put_end.new.out.items _ _ _ refl c.in_ok-put_sum.ensures
    (on_joined c.put_end.result c.put_sum.new.out.items c.put_measure.new.out.items c.put_end.new.out.items _ _ _ refl (simp to_z-of_z at c.in_ok-put_measure.ensures) c.put_end.ensures)))
