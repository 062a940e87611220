use Rattle.std.proofs.Common.{FitsSigned, List, append_assoc, codes, refl, rules, subst, w64, ℕ, ◌++◌, ◌≡◌}
use Rattle.std.proofs.lemmas.Int.{to_z-of_z}
use Rattle.tb_text.specs.Fields.{and_number, and_count}
use Rattle.tb_text.specs.Fronts.{PutsFront, PutsAfter}
use Rattle.tb_text.proofs.FrontLemmas.{cut, fails, on_joined, past}
use Rattle.tb_trace.specs.Lines.{and_numbers}
use Rattle.tb_trace.proofs.put_sums.Goals as goal

-- the parts, one after another
joined : (a b d e f g h i : List ℕ) → a ++ b ++ (d ++ e ++ (f ++ g ++ h ++ i)) ≡ a ++ b ++ d ++ e ++ f ++ g ++ h ++ i
joined a b d e f g h i = simp append_assoc

pub returns-in_err-put_total : goal.returns-in_err-put_total
returns-in_err-put_total c =
    fails _ _ _ _ c.from_residual.ensures.0 (subst (λ (t : List ℕ). PutsFront c.args.out.now.items t c.put_total.new.out.items) (joined (codes "try") (and_count c.args.line) (codes " t") (and_number c.args.sums.now.total) (codes " s") (and_numbers c.args.sums.now.stretch) (codes " z") (and_number c.args.sums.now.shrink))
    (cut (codes " t" ++ and_number c.args.sums.now.total ++ (codes " s" ++ and_numbers c.args.sums.now.stretch ++ codes " z" ++ and_number c.args.sums.now.shrink)) (simp c.from.ensures at c.in_err-put_total.ensures)))

pub returns-in_err-put_measure : goal.returns-in_err-put_measure
returns-in_err-put_measure c =
    let t : FitsSigned w64 c.args.sums.now.total = search rules in
    fails _ _ _ _ c.from_residual-in_err-put_measure.ensures.0 (subst (λ (t : List ℕ). PutsFront c.args.out.now.items t c.put_measure.new.out.items) (joined (codes "try") (and_count c.args.line) (codes " t") (and_number c.args.sums.now.total) (codes " s") (and_numbers c.args.sums.now.stretch) (codes " z") (and_number c.args.sums.now.shrink))
    (past _ (simp c.from.ensures at c.in_ok-put_total.ensures) (cut (codes " s" ++ and_numbers c.args.sums.now.stretch ++ codes " z" ++ and_number c.args.sums.now.shrink) (simp to_z-of_z at c.in_err-put_measure.ensures))))

pub returns : goal.returns
returns c =
    let t : FitsSigned w64 c.args.sums.now.total = search rules in
    subst (λ (t : List ℕ). PutsAfter c.put_glue.result c.args.out.now.items t c.put_glue.new.out.items) (joined (codes "try") (and_count c.args.line) (codes " t") (and_number c.args.sums.now.total) (codes " s") (and_numbers c.args.sums.now.stretch) (codes " z") (and_number c.args.sums.now.shrink))
    (on_joined c.put_glue.result c.args.out.now.items c.put_total.new.out.items c.put_glue.new.out.items _ _ _ refl (simp c.from.ensures at c.in_ok-put_total.ensures) (on_joined c.put_glue.result c.put_total.new.out.items c.put_measure.new.out.items c.put_glue.new.out.items _ _ _ refl (simp to_z-of_z at c.in_ok-put_measure.ensures) c.put_glue.ensures))
