use Rattle.std.proofs.Common.{List, append_assoc, codes, refl, subst, ℕ, ◌++◌, ◌≡◌}
use Rattle.tb_text.specs.Fields.{and_count, and_text}
use Rattle.tb_text.specs.Fronts.{PutsFront, PutsAfter}
use Rattle.tb_text.proofs.FrontLemmas.{cut, fails, on_joined, past}
use Rattle.tb_report.specs.Lines.{where_text}
use Rattle.tb_report.proofs.items.put_classed.Goals as goal

-- the parts, one after another
joined : (a b d e : List ℕ) → a ++ b ++ (d ++ e) ≡ a ++ b ++ d ++ e
joined a b d e = simp append_assoc

pub returns-in_err-put_named : goal.returns-in_err-put_named
returns-in_err-put_named c =
    fails _ _ _ _ c.from_residual.ensures.0 (subst (λ (t : List ℕ). PutsFront c.args.out.now.items t c.put_named.new.out.items) (joined (codes "float ") c.args.name.now (and_count c.args.class) (and_text (where_text c.args.place)))
    (cut (and_count c.args.class ++ and_text (where_text c.args.place)) (simp c.as_bytes.ensures at c.in_err-put_named.ensures)))

pub returns-in_err-put_count : goal.returns-in_err-put_count
returns-in_err-put_count c =
    fails _ _ _ _ c.from_residual-in_err-put_count.ensures.0 (subst (λ (t : List ℕ). PutsFront c.args.out.now.items t c.put_count.new.out.items) (joined (codes "float ") c.args.name.now (and_count c.args.class) (and_text (where_text c.args.place)))
    (past _ (simp c.as_bytes.ensures at c.in_ok-put_named.ensures) (cut (and_text (where_text c.args.place)) (simp c.from.ensures at c.in_err-put_count.ensures))))

pub returns : goal.returns
returns c =
    subst (λ (t : List ℕ). PutsAfter c.put_text.result c.args.out.now.items t c.put_text.new.out.items) (joined (codes "float ") c.args.name.now (and_count c.args.class) (and_text (where_text c.args.place)))
    (on_joined c.put_text.result c.args.out.now.items c.put_named.new.out.items c.put_text.new.out.items _ _ _ refl (simp c.as_bytes.ensures at c.in_ok-put_named.ensures) (on_joined c.put_text.result c.put_named.new.out.items c.put_count.new.out.items c.put_text.new.out.items _ _ _ refl (simp c.from.ensures at c.in_ok-put_count.ensures) (simp c.where_text.ensures at c.put_text.ensures)))
