use Rattle.std.proofs.Common.{List, append_assoc, codes, refl, subst, ℕ, ◌++◌, ◌≡◌}
use Rattle.tb_text.specs.Fields.{and_count}
use Rattle.tb_text.specs.Fronts.{PutsFront, PutsAfter}
use Rattle.tb_text.proofs.FrontLemmas.{cut, fails, on_joined, past}
use Rattle.tb_dvi.specs.Refusal.{cause_text}
use Rattle.tb_dvi.proofs.refusal.put_cause.Goals as goal

-- the parts, one after another
joined : (a b d e : List ℕ) → a ++ b ++ (d ++ e) ≡ a ++ b ++ d ++ e
joined a b d e = simp append_assoc

pub returns-in_err-put_total : goal.returns-in_err-put_total
returns-in_err-put_total c =
    fails _ _ _ _ c.from_residual.ensures.0 (subst (λ (t : List ℕ). PutsFront c.args.out.now.items t c.put_total.new.out.items) (joined (codes "byte") (and_count c.args.byte) (codes ": ") (cause_text c.args.cause))
    (cut (codes ": " ++ cause_text c.args.cause) c.in_err-put_total.ensures))

pub returns-in_err-put : goal.returns-in_err-put
returns-in_err-put c =
    fails _ _ _ _ c.from_residual-in_err-put.ensures.0 (subst (λ (t : List ℕ). PutsFront c.args.out.now.items t c.put.new.out.items) (joined (codes "byte") (and_count c.args.byte) (codes ": ") (cause_text c.args.cause))
    (past _ c.in_ok-put_total.ensures (cut (cause_text c.args.cause) c.in_err-put.ensures)))

pub returns : goal.returns
returns c =
    subst (λ (t : List ℕ). PutsAfter c.put-2.result c.args.out.now.items t c.put-2.new.out.items) (joined (codes "byte") (and_count c.args.byte) (codes ": ") (cause_text c.args.cause))
    (on_joined c.put-2.result c.args.out.now.items c.put_total.new.out.items c.put-2.new.out.items _ _ _ refl c.in_ok-put_total.ensures (on_joined c.put-2.result c.put_total.new.out.items c.put.new.out.items c.put-2.new.out.items _ _ _ refl c.in_ok-put.ensures (simp c.cause_text.ensures at c.put-2.ensures)))
