use Rattle.std.proofs.Common.{FitsSigned, List, [], append_assoc, codes, refl, rules, subst, w64, ℕ, ◌++◌, ◌∷◌, ◌≡◌}
use Rattle.std.proofs.lemmas.Int.{to_z-of_z}
use Rattle.tb_text.specs.Fields.{and_number}
use Rattle.tb_text.specs.Fronts.{PutsFront, PutsAfter}
use Rattle.tb_text.proofs.FrontLemmas.{cut, fails, on_joined}
use Rattle.tb_report.specs.Lines.{set_text}
use Rattle.tb_report.proofs.heads.end_column.Goals as goal

-- the parts, one after another
joined : (a b d e f g h : List ℕ) → a ++ b ++ (d ++ e ++ f ++ g ++ h) ≡ a ++ b ++ d ++ e ++ f ++ g ++ h
joined a b d e f g h = simp append_assoc

pub returns-in_err-put_measure : goal.returns-in_err-put_measure
returns-in_err-put_measure c =
    let h : FitsSigned w64 c.args.set.now.height = search rules in
    fails _ _ _ _ c.from_residual.ensures.0 (subst (λ (t : List ℕ). PutsFront c.args.out.now.items t c.put_measure.new.out.items) (joined (codes " height") (and_number c.args.set.now.height) (codes " natural") (and_number c.args.set.now.natural) (codes " set ") (set_text c.args.set.now) (10 ∷ []))
    (cut (codes " natural" ++ and_number c.args.set.now.natural ++ codes " set " ++ set_text c.args.set.now ++ 10 ∷ []) (simp to_z-of_z at c.in_err-put_measure.ensures)))

pub returns : goal.returns
returns c =
    let h : FitsSigned w64 c.args.set.now.height = search rules in
    subst (λ (t : List ℕ). PutsAfter c.end_natural.result c.args.out.now.items t c.end_natural.new.out.items) (joined (codes " height") (and_number c.args.set.now.height) (codes " natural") (and_number c.args.set.now.natural) (codes " set ") (set_text c.args.set.now) (10 ∷ []))
    (on_joined c.end_natural.result c.args.out.now.items c.put_measure.new.out.items c.end_natural.new.out.items _ _ _ refl (simp to_z-of_z at c.in_ok-put_measure.ensures) c.end_natural.ensures)
