use Rattle.std.proofs.Common.{FitsSigned, w64, rules, List, [], append_assoc, codes, refl, subst, ℕ, ◌++◌, ◌∷◌, ◌≡◌}
use Rattle.std.proofs.lemmas.Int.{to_z-of_z}
use Rattle.tb_text.specs.Fronts.{PutsFront, PutsAfter}
use Rattle.tb_text.proofs.FrontLemmas.{cut, past, fails, on_joined}
use Rattle.tb_report.specs.Lines.{sign_text, over_text}
use Rattle.tb_report.proofs.heads.end_set.Goals as goal

-- the parts, one after another
joined : (a b d e : List ℕ) → a ++ (b ++ (d ++ e)) ≡ a ++ (b ++ d) ++ e
joined a b d e = simp append_assoc

pub returns-in_err-put : goal.returns-in_err-put
returns-in_err-put c =
    fails _ _ _ _ c.from_residual.ensures.0 (subst (λ (t : List ℕ). PutsFront c.args.out.now.items t c.put.new.out.items) (joined (codes " set ") (sign_text c.args.set.now.sign c.args.set.now) (over_text c.args.set.now.over) (10 ∷ []))
    (cut (sign_text c.args.set.now.sign c.args.set.now ++ (over_text c.args.set.now.over ++ 10 ∷ [])) c.in_err-put.ensures))

pub returns-in_err-put_sign : goal.returns-in_err-put_sign
returns-in_err-put_sign c =
    fails _ _ _ _ c.from_residual-in_err-put_sign.ensures.0 (subst (λ (t : List ℕ). PutsFront c.args.out.now.items t c.put_sign.new.out.items) (joined (codes " set ") (sign_text c.args.set.now.sign c.args.set.now) (over_text c.args.set.now.over) (10 ∷ []))
    (past _ c.in_ok-put.ensures (cut (over_text c.args.set.now.over ++ 10 ∷ []) c.in_err-put_sign.ensures)))

pub returns-in_err-put_over : goal.returns-in_err-put_over
returns-in_err-put_over c =
    let o : FitsSigned w64 c.args.set.now.over = search rules in
    fails _ _ _ _ c.from_residual-in_err-put_over.ensures.0 (subst (λ (t : List ℕ). PutsFront c.args.out.now.items t c.put_over.new.out.items) (joined (codes " set ") (sign_text c.args.set.now.sign c.args.set.now) (over_text c.args.set.now.over) (10 ∷ []))
    (past _ c.in_ok-put.ensures (past _ c.in_ok-put_sign.ensures (cut (10 ∷ []) (simp to_z-of_z at c.in_err-put_over.ensures)))))

pub returns : goal.returns
returns c =
    let o : FitsSigned w64 c.args.set.now.over = search rules in
    subst (λ (t : List ℕ). PutsAfter c.end_line.result c.args.out.now.items t c.end_line.new.out.items) (joined (codes " set ") (sign_text c.args.set.now.sign c.args.set.now) (over_text c.args.set.now.over) (10 ∷ []))
    (on_joined c.end_line.result c.args.out.now.items c.put.new.out.items c.end_line.new.out.items _ _ _ refl c.in_ok-put.ensures
    (on_joined c.end_line.result c.put.new.out.items c.put_sign.new.out.items c.end_line.new.out.items _ _ _ refl c.in_ok-put_sign.ensures
    (on_joined c.end_line.result c.put_sign.new.out.items c.put_over.new.out.items c.end_line.new.out.items _ _ _ refl (simp to_z-of_z at c.in_ok-put_over.ensures) c.end_line.ensures)))
