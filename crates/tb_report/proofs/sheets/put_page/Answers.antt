use Rattle.std.proofs.Common.{List, [], append_assoc, codes, refl, subst, ℕ, ◌++◌, ◌∷◌, ◌≡◌}
use Rattle.tb_text.specs.Fields.{and_count}
use Rattle.tb_text.specs.Fronts.{PutsFront, PutsAfter}
use Rattle.tb_text.proofs.FrontLemmas.{cut, fails, on_joined, past}
use Rattle.tb_report.proofs.sheets.put_page.Goals as goal

-- the parts, one after another
joined : (a b d e : List ℕ) → a ++ b ++ (d ++ e) ≡ a ++ b ++ d ++ e
joined a b d e = simp append_assoc

pub returns-in_err-put_total : goal.returns-in_err-put_total
returns-in_err-put_total c =
    fails _ _ _ _ c.from_residual.ensures.0 (subst (λ (t : List ℕ). PutsFront c.args.out.now.items t c.put_total.new.out.items) (joined (codes "page") (and_count c.args.page) c.args.form.now (10 ∷ []))
    (cut (c.args.form.now ++ 10 ∷ []) c.in_err-put_total.ensures))

pub returns-in_err-put : goal.returns-in_err-put
returns-in_err-put c =
    fails _ _ _ _ c.from_residual-in_err-put.ensures.0 (subst (λ (t : List ℕ). PutsFront c.args.out.now.items t c.put.new.out.items) (joined (codes "page") (and_count c.args.page) c.args.form.now (10 ∷ []))
    (past _ c.in_ok-put_total.ensures (cut (10 ∷ []) c.in_err-put.ensures)))

pub returns : goal.returns
returns c =
    subst (λ (t : List ℕ). PutsAfter c.end_line.result c.args.out.now.items t c.end_line.new.out.items) (joined (codes "page") (and_count c.args.page) c.args.form.now (10 ∷ []))
    (on_joined c.end_line.result c.args.out.now.items c.put_total.new.out.items c.end_line.new.out.items _ _ _ refl c.in_ok-put_total.ensures (on_joined c.end_line.result c.put_total.new.out.items c.put.new.out.items c.end_line.new.out.items _ _ _ refl c.in_ok-put.ensures c.end_line.ensures))
