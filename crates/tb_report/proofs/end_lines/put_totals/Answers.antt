use Rattle.std.proofs.Common.{List, [], append_assoc, codes, refl, subst, ℕ, ◌++◌, ◌∷◌, ◌≡◌}
use Rattle.tb_text.specs.Fields.{and_count}
use Rattle.tb_text.specs.Fronts.{PutsFront, PutsAfter}
use Rattle.tb_text.proofs.FrontLemmas.{cut, fails, on_joined, past}
use Rattle.tb_report.proofs.end_lines.put_totals.Goals as goal

-- the parts, one after another
joined : (a b d e f g h i j : List ℕ) → a ++ b ++ (d ++ e ++ (f ++ g ++ h ++ i ++ j)) ≡ a ++ b ++ d ++ e ++ f ++ g ++ h ++ i ++ j
joined a b d e f g h i j = simp append_assoc

pub returns-in_err-put_total : goal.returns-in_err-put_total
returns-in_err-put_total c =
    fails _ _ _ _ c.from_residual.ensures.0 (subst (λ (t : List ℕ). PutsFront c.args.out.now.items t c.put_total.new.out.items) (joined c.args.pages.now (and_count c.args.t.now.pages) (codes " boxes") (and_count c.args.t.now.boxes) (codes " floats") (and_count c.args.t.now.floats) (codes " warnings") (and_count c.args.t.now.warnings) (10 ∷ []))
    (cut (codes " boxes" ++ and_count c.args.t.now.boxes ++ (codes " floats" ++ and_count c.args.t.now.floats ++ codes " warnings" ++ and_count c.args.t.now.warnings ++ 10 ∷ [])) c.in_err-put_total.ensures))

pub returns-in_err-put_total-2 : goal.returns-in_err-put_total-2
returns-in_err-put_total-2 c =
    fails _ _ _ _ c.from_residual-in_err-put_total-2.ensures.0 (subst (λ (t : List ℕ). PutsFront c.args.out.now.items t c.put_total-2.new.out.items) (joined c.args.pages.now (and_count c.args.t.now.pages) (codes " boxes") (and_count c.args.t.now.boxes) (codes " floats") (and_count c.args.t.now.floats) (codes " warnings") (and_count c.args.t.now.warnings) (10 ∷ []))
    (past _ c.in_ok-put_total.ensures (cut (codes " floats" ++ and_count c.args.t.now.floats ++ codes " warnings" ++ and_count c.args.t.now.warnings ++ 10 ∷ []) c.in_err-put_total-2.ensures)))

pub returns : goal.returns
returns c =
    subst (λ (t : List ℕ). PutsAfter c.end_totals.result c.args.out.now.items t c.end_totals.new.out.items) (joined c.args.pages.now (and_count c.args.t.now.pages) (codes " boxes") (and_count c.args.t.now.boxes) (codes " floats") (and_count c.args.t.now.floats) (codes " warnings") (and_count c.args.t.now.warnings) (10 ∷ []))
    (on_joined c.end_totals.result c.args.out.now.items c.put_total.new.out.items c.end_totals.new.out.items _ _ _ refl c.in_ok-put_total.ensures (on_joined c.end_totals.result c.put_total.new.out.items c.put_total-2.new.out.items c.end_totals.new.out.items _ _ _ refl c.in_ok-put_total-2.ensures c.end_totals.ensures))
