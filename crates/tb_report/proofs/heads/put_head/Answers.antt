use Rattle.std.proofs.Common.{List, [], append_assoc, codes, refl, subst, ℕ, ◌++◌, ◌∷◌, ◌≡◌}
use Rattle.tb_text.specs.Fields.{and_number, and_count, and_text}
use Rattle.tb_text.specs.Fronts.{PutsFront, PutsAfter}
use Rattle.tb_text.proofs.FrontLemmas.{cut, fails, on_joined, past}
use Rattle.tb_report.specs.Lines.{set_text, kind_text}
use Rattle.tb_report.proofs.heads.put_head.Goals as goal

-- the parts, one after another
joined : (a b d e f g h i j k : List ℕ) → a ++ b ++ (d ++ (e ++ f ++ g ++ h ++ i ++ j ++ k)) ≡ a ++ b ++ d ++ e ++ f ++ g ++ h ++ i ++ j ++ k
joined a b d e f g h i j k = simp append_assoc

pub returns-in_err-put_total : goal.returns-in_err-put_total
returns-in_err-put_total c =
    fails _ _ _ _ c.from_residual.ensures.0 (subst (λ (t : List ℕ). PutsFront c.args.out.now.items t c.put_total.new.out.items) (joined (codes "column") (and_count c.args.number) (and_text (kind_text c.args.kind)) (codes " height") (and_number c.args.set.now.height) (codes " natural") (and_number c.args.set.now.natural) (codes " set ") (set_text c.args.set.now) (10 ∷ []))
    (cut (and_text (kind_text c.args.kind) ++ (codes " height" ++ and_number c.args.set.now.height ++ codes " natural" ++ and_number c.args.set.now.natural ++ codes " set " ++ set_text c.args.set.now ++ 10 ∷ [])) c.in_err-put_total.ensures))

pub returns-in_err-put_text : goal.returns-in_err-put_text
returns-in_err-put_text c =
    fails _ _ _ _ c.from_residual-in_err-put_text.ensures.0 (subst (λ (t : List ℕ). PutsFront c.args.out.now.items t c.put_text.new.out.items) (joined (codes "column") (and_count c.args.number) (and_text (kind_text c.args.kind)) (codes " height") (and_number c.args.set.now.height) (codes " natural") (and_number c.args.set.now.natural) (codes " set ") (set_text c.args.set.now) (10 ∷ []))
    (past _ c.in_ok-put_total.ensures (cut (codes " height" ++ and_number c.args.set.now.height ++ codes " natural" ++ and_number c.args.set.now.natural ++ codes " set " ++ set_text c.args.set.now ++ 10 ∷ []) (simp c.kind_text.ensures at c.in_err-put_text.ensures))))

pub returns : goal.returns
returns c =
    subst (λ (t : List ℕ). PutsAfter c.end_column.result c.args.out.now.items t c.end_column.new.out.items) (joined (codes "column") (and_count c.args.number) (and_text (kind_text c.args.kind)) (codes " height") (and_number c.args.set.now.height) (codes " natural") (and_number c.args.set.now.natural) (codes " set ") (set_text c.args.set.now) (10 ∷ []))
    (on_joined c.end_column.result c.args.out.now.items c.put_total.new.out.items c.end_column.new.out.items _ _ _ refl c.in_ok-put_total.ensures (on_joined c.end_column.result c.put_total.new.out.items c.put_text.new.out.items c.end_column.new.out.items _ _ _ refl (simp c.kind_text.ensures at c.in_ok-put_text.ensures) c.end_column.ensures))
