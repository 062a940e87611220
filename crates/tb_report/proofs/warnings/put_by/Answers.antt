use Rattle.std.proofs.Common.{FitsSigned, List, [], append_assoc, refl, subst, w64, ℕ, ◌++◌, ◌∷◌, ◌≡◌}
use Rattle.std.proofs.lemmas.Int.{to_z-of_z}
use Rattle.tb_text.specs.Fields.{and_number}
use Rattle.tb_text.specs.Fronts.{PutsFront, PutsAfter}
use Rattle.tb_text.proofs.FrontLemmas.{cut, fails, on_joined, past}
use Rattle.tb_report.proofs.warnings.put_by.Goals as goal

-- the parts, one after another
joined : (a b d e : List ℕ) → a ++ b ++ (d ++ e) ≡ a ++ b ++ d ++ e
joined a b d e = simp append_assoc

pub returns-in_err-put_named : goal.returns-in_err-put_named
returns-in_err-put_named c =
    let b : FitsSigned w64 c.args.by = c.ranges.by in
    fails _ _ _ _ c.from_residual.ensures.0 (subst (λ (t : List ℕ). PutsFront c.args.out.now.items t c.put_named.new.out.items) (joined c.args.word.now c.args.name.now (and_number c.args.by) (10 ∷ []))
    (cut (and_number c.args.by ++ 10 ∷ []) (simp c.as_bytes.ensures at c.in_err-put_named.ensures)))

pub returns-in_err-put_amount : goal.returns-in_err-put_amount
returns-in_err-put_amount c =
    let b : FitsSigned w64 c.args.by = c.ranges.by in
    fails _ _ _ _ c.from_residual-in_err-put_amount.ensures.0 (subst (λ (t : List ℕ). PutsFront c.args.out.now.items t c.put_amount.new.out.items) (joined c.args.word.now c.args.name.now (and_number c.args.by) (10 ∷ []))
    (past _ (simp c.as_bytes.ensures at c.in_ok-put_named.ensures) (cut (10 ∷ []) (simp to_z-of_z at c.in_err-put_amount.ensures))))

pub returns : goal.returns
returns c =
    let b : FitsSigned w64 c.args.by = c.ranges.by in
    subst (λ (t : List ℕ). PutsAfter c.end_line.result c.args.out.now.items t c.end_line.new.out.items) (joined c.args.word.now c.args.name.now (and_number c.args.by) (10 ∷ []))
    (on_joined c.end_line.result c.args.out.now.items c.put_named.new.out.items c.end_line.new.out.items _ _ _ refl (simp c.as_bytes.ensures at c.in_ok-put_named.ensures) (on_joined c.end_line.result c.put_named.new.out.items c.put_amount.new.out.items c.end_line.new.out.items _ _ _ refl (simp to_z-of_z at c.in_ok-put_amount.ensures) c.end_line.ensures))
