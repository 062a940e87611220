use Rattle.std.proofs.Common.{FitsSigned, List, append_assoc, codes, refl, rules, subst, w64, ℕ, ◌++◌, ◌≡◌}
use Rattle.std.proofs.lemmas.Int.{to_z-of_z}
use Rattle.tb_text.specs.Fields.{and_number, and_count}
use Rattle.tb_text.specs.Fronts.{PutsFront, PutsAfter}
use Rattle.tb_text.proofs.FrontLemmas.{cut, fails, on_joined, past}
use Rattle.tb_trace.specs.Lines.{and_cost}
use Rattle.tb_rate.proofs.lines.put_break.Goals as goal

-- the parts, one after another
joined : (a b d e f h : List ℕ) → a ++ b ++ (d ++ e ++ (f ++ h)) ≡ a ++ b ++ d ++ e ++ f ++ h
joined a b d e f h = simp append_assoc

pub returns-in_err-put_total : goal.returns-in_err-put_total
returns-in_err-put_total c =
    let r = c.args.r.now in
    fails _ _ _ _ c.from_residual.ensures.0 (subst (λ (t : List ℕ). PutsFront c.args.out.now.items t c.put_total.new.out.items) (joined (codes "rated") (and_count r.page) (codes " badness") (and_cost r.badness) (codes " penalty") (and_number r.penalty))
    (cut (codes " badness" ++ and_cost r.badness ++ (codes " penalty" ++ and_number r.penalty)) c.in_err-put_total.ensures))

pub returns-in_err-put_cost : goal.returns-in_err-put_cost
returns-in_err-put_cost c =
    let r = c.args.r.now in
    let b : FitsSigned w64 c.args.r.now.badness = search rules in
    fails _ _ _ _ c.from_residual-in_err-put_cost.ensures.0 (subst (λ (t : List ℕ). PutsFront c.args.out.now.items t c.put_cost.new.out.items) (joined (codes "rated") (and_count r.page) (codes " badness") (and_cost r.badness) (codes " penalty") (and_number r.penalty))
    (past _ c.in_ok-put_total.ensures (cut (codes " penalty" ++ and_number r.penalty) (simp to_z-of_z at c.in_err-put_cost.ensures))))

pub returns : goal.returns
returns c =
    let r = c.args.r.now in
    let b : FitsSigned w64 c.args.r.now.badness = search rules in
    let q : FitsSigned w64 c.args.r.now.penalty = search rules in
    subst (λ (t : List ℕ). PutsAfter c.put_measure.result c.args.out.now.items t c.put_measure.new.out.items) (joined (codes "rated") (and_count r.page) (codes " badness") (and_cost r.badness) (codes " penalty") (and_number r.penalty))
    (on_joined c.put_measure.result c.args.out.now.items c.put_total.new.out.items c.put_measure.new.out.items _ _ _ refl c.in_ok-put_total.ensures
    (on_joined c.put_measure.result c.put_total.new.out.items c.put_cost.new.out.items c.put_measure.new.out.items _ _ _ refl (simp to_z-of_z at c.in_ok-put_cost.ensures) (simp to_z-of_z at c.put_measure.ensures)))
