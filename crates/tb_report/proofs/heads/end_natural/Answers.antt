use Rattle.std.proofs.Common.{FitsSigned, List, [], append_assoc, codes, refl, rules, subst, w64, ℕ, ◌++◌, ◌∷◌, ◌≡◌}
use Rattle.std.proofs.lemmas.Int.{to_z-of_z}
use Rattle.tb_text.specs.Fields.{and_number}
use Rattle.tb_text.specs.Fronts.{PutsFront, PutsAfter}
use Rattle.tb_text.proofs.FrontLemmas.{cut, fails, on_joined}
use Rattle.tb_report.specs.Lines.{set_text}
use Rattle.tb_report.proofs.heads.end_natural.Goals as goal

-- the parts, one after another
joined : (a b d e f : List ℕ) → a ++ b ++ (d ++ e ++ f) ≡ a ++ b ++ d ++ e ++ f
joined a b d e f = simp append_assoc

pub returns-in_err-put_measure : goal.returns-in_err-put_measure
returns-in_err-put_measure c =
    let h : FitsSigned w64 c.args.set.now.natural = search rules in
    fails _ _ _ _ c.from_residual.ensures.0 (subst (λ (t : List ℕ). PutsFront c.args.out.now.items t c.put_measure.new.out.items) (joined (codes " natural") (and_number c.args.set.now.natural) (codes " set ") (set_text c.args.set.now) (10 ∷ []))
    (cut (codes " set " ++ set_text c.args.set.now ++ 10 ∷ []) (simp to_z-of_z at c.in_err-put_measure.ensures)))

pub returns : goal.returns
returns c =
    let h : FitsSigned w64 c.args.set.now.natural = search rules in
    subst (λ (t : List ℕ). PutsAfter c.end_set.result c.args.out.now.items t c.end_set.new.out.items) (joined (codes " natural") (and_number c.args.set.now.natural) (codes " set ") (set_text c.args.set.now) (10 ∷ []))
    (on_joined c.end_set.result c.args.out.now.items c.put_measure.new.out.items c.end_set.new.out.items _ _ _ refl (simp to_z-of_z at c.in_ok-put_measure.ensures) c.end_set.ensures)
