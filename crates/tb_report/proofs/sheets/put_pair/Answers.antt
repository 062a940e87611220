use Rattle.std.proofs.Common.{FitsSigned, List, [], append_assoc, codes, refl, subst, w64, ℕ, ◌++◌, ◌∷◌, ◌≡◌}
use Rattle.std.proofs.lemmas.Int.{to_z-of_z}
use Rattle.tb_text.specs.Fields.{and_number, and_count}
use Rattle.tb_text.specs.Fronts.{PutsFront, PutsAfter}
use Rattle.tb_text.proofs.FrontLemmas.{cut, fails, on_joined, past}
use Rattle.tb_report.proofs.sheets.put_pair.Goals as goal

-- the parts, one after another
joined : (a b d e f : List ℕ) → a ++ b ++ (d ++ e ++ f) ≡ a ++ b ++ d ++ e ++ f
joined a b d e f = simp append_assoc

pub returns-in_err-put_total : goal.returns-in_err-put_total
returns-in_err-put_total c =
    let fa : FitsSigned w64 c.args.at = c.ranges.at in
    fails _ _ _ _ c.from_residual.ensures.0 (subst (λ (t : List ℕ). PutsFront c.args.out.now.items t c.put_total.new.out.items) (joined (codes "page") (and_count c.args.page) (codes " two at") (and_number c.args.at) (10 ∷ []))
    (cut (codes " two at" ++ and_number c.args.at ++ 10 ∷ []) c.in_err-put_total.ensures))

pub returns-in_err-put_measure : goal.returns-in_err-put_measure
returns-in_err-put_measure c =
    let fa : FitsSigned w64 c.args.at = c.ranges.at in
    fails _ _ _ _ c.from_residual-in_err-put_measure.ensures.0 (subst (λ (t : List ℕ). PutsFront c.args.out.now.items t c.put_measure.new.out.items) (joined (codes "page") (and_count c.args.page) (codes " two at") (and_number c.args.at) (10 ∷ []))
    (past _ c.in_ok-put_total.ensures (cut (10 ∷ []) (simp to_z-of_z at c.in_err-put_measure.ensures))))

pub returns : goal.returns
returns c =
    let fa : FitsSigned w64 c.args.at = c.ranges.at in
    subst (λ (t : List ℕ). PutsAfter c.end_line.result c.args.out.now.items t c.end_line.new.out.items) (joined (codes "page") (and_count c.args.page) (codes " two at") (and_number c.args.at) (10 ∷ []))
    (on_joined c.end_line.result c.args.out.now.items c.put_total.new.out.items c.end_line.new.out.items _ _ _ refl c.in_ok-put_total.ensures (on_joined c.end_line.result c.put_total.new.out.items c.put_measure.new.out.items c.end_line.new.out.items _ _ _ refl (simp to_z-of_z at c.in_ok-put_measure.ensures) c.end_line.ensures))
