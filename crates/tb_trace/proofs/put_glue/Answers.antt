use Rattle.std.proofs.Common.{FitsSigned, List, append_assoc, codes, refl, rules, subst, w64, ℕ, ◌++◌, ◌≡◌}
use Rattle.std.proofs.lemmas.Int.{to_z-of_z}
use Rattle.tb_text.specs.Fields.{and_number}
use Rattle.tb_text.specs.Fronts.{PutsFront, PutsAfter}
use Rattle.tb_text.proofs.FrontLemmas.{cut, fails, on_joined, past}
use Rattle.tb_trace.specs.Lines.{and_numbers}
use Rattle.tb_trace.proofs.put_glue.Goals as goal

-- the parts, one after another
joined : (a b d e : List ℕ) → a ++ (b ++ (d ++ e)) ≡ a ++ b ++ d ++ e
joined a b d e = simp append_assoc

pub returns-in_err-put : goal.returns-in_err-put
returns-in_err-put c =
    fails _ _ _ _ c.from_residual.ensures.0 (subst (λ (t : List ℕ). PutsFront c.args.out.now.items t c.put.new.out.items) (joined (codes " s") (and_numbers c.args.sums.now.stretch) (codes " z") (and_number c.args.sums.now.shrink))
    (cut (and_numbers c.args.sums.now.stretch ++ (codes " z" ++ and_number c.args.sums.now.shrink)) c.in_err-put.ensures))

pub returns-in_err-put_amounts : goal.returns-in_err-put_amounts
returns-in_err-put_amounts c =
    fails _ _ _ _ c.from_residual-in_err-put_amounts.ensures.0 (subst (λ (t : List ℕ). PutsFront c.args.out.now.items t c.put_amounts.new.out.items) (joined (codes " s") (and_numbers c.args.sums.now.stretch) (codes " z") (and_number c.args.sums.now.shrink))
    (past _ c.in_ok-put.ensures (cut (codes " z" ++ and_number c.args.sums.now.shrink) c.in_err-put_amounts.ensures)))

pub returns : goal.returns
returns c =
    let z : FitsSigned w64 c.args.sums.now.shrink = search rules in
    subst (λ (t : List ℕ). PutsAfter c.put_measure.result c.args.out.now.items t c.put_measure.new.out.items) (joined (codes " s") (and_numbers c.args.sums.now.stretch) (codes " z") (and_number c.args.sums.now.shrink))
    (on_joined c.put_measure.result c.args.out.now.items c.put.new.out.items c.put_measure.new.out.items _ _ _ refl c.in_ok-put.ensures (on_joined c.put_measure.result c.put.new.out.items c.put_amounts.new.out.items c.put_measure.new.out.items _ _ _ refl c.in_ok-put_amounts.ensures (simp to_z-of_z at c.put_measure.ensures)))
