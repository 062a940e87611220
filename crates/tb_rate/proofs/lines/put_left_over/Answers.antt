use Rattle.std.proofs.Common.{List, append_assoc, codes, refl, subst, ℕ, ◌++◌, ◌≡◌}
use Rattle.tb_text.specs.Fields.{and_count}
use Rattle.tb_text.specs.Fronts.{PutsFront, PutsAfter}
use Rattle.tb_text.proofs.FrontLemmas.{cut, fails, on_joined}
use Rattle.tb_rate.proofs.lines.put_left_over.Goals as goal

-- the parts, one after another
joined : (a b d e : List ℕ) → a ++ b ++ (d ++ e) ≡ a ++ b ++ d ++ e
joined a b d e = simp append_assoc

pub returns-in_err-put_total : goal.returns-in_err-put_total
returns-in_err-put_total c =
    fails _ _ _ _ c.from_residual.ensures.0 (subst (λ (t : List ℕ). PutsFront c.args.out.now.items t c.put_total.new.out.items) (joined (codes " waiting") (and_count c.args.r.now.waiting) (codes " held") (and_count c.args.r.now.held))
    (cut (codes " held" ++ and_count c.args.r.now.held) c.in_err-put_total.ensures))

pub returns : goal.returns
returns c =
    subst (λ (t : List ℕ). PutsAfter c.put_total-2.result c.args.out.now.items t c.put_total-2.new.out.items) (joined (codes " waiting") (and_count c.args.r.now.waiting) (codes " held") (and_count c.args.r.now.held))
    (on_joined c.put_total-2.result c.args.out.now.items c.put_total.new.out.items c.put_total-2.new.out.items _ _ _ refl c.in_ok-put_total.ensures c.put_total-2.ensures)
