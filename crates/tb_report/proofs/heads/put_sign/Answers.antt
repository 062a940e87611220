use Rattle.std.proofs.Common.{refl, sym, subst, List, ℕ, codes, append_assoc}
use Rattle.tb_text.specs.Fields.{and_text}
use Rattle.tb_text.specs.Fronts.{PutsAfter}
use Rattle.tb_text.proofs.FrontLemmas.{cut, past, fails, on_joined}
use Rattle.tb_report.specs.Lines.{order_text, ratio_text}
use Rattle.tb_report.proofs.heads.put_sign.Goals as goal

pub returns-in_err-put-in-Stretch : goal.returns-in_err-put-in-Stretch
returns-in_err-put-in-Stretch c = rw c.in-Stretch.is (fails _ _ _ _ c.from_residual.ensures.0 (cut _ c.in_err-put-in-Stretch.ensures))

pub returns-in_err-put_text-in-Stretch : goal.returns-in_err-put_text-in-Stretch
returns-in_err-put_text-in-Stretch c =
    rw c.in-Stretch.is (fails _ _ _ _ c.from_residual-in_err-put_text-in-Stretch.ensures.0
    (past _ c.in_ok-put-in-Stretch.ensures (cut _ (rw c.order_text.ensures at c.in_err-put_text-in-Stretch.ensures))))

pub returns-in_err-put-in-Shrink : goal.returns-in_err-put-in-Shrink
returns-in_err-put-in-Shrink c = rw c.in-Shrink.is (fails _ _ _ _ c.from_residual-in_err-put-in-Shrink.ensures.0 (cut _ c.in_err-put-in-Shrink.ensures))

pub returns-in_ok-put_text-in-Stretch : goal.returns-in_ok-put_text-in-Stretch
returns-in_ok-put_text-in-Stretch c =
    rw c.in-Stretch.is
    (subst (λ (t : List ℕ). PutsAfter c.put_ratio.result c.args.out.now.items t c.put_ratio.new.out.items) (sym (append_assoc (codes "stretch") (and_text (order_text c.args.set.now.order)) (ratio_text c.args.set.now)))
    (on_joined c.put_ratio.result c.args.out.now.items c.put-in-Stretch.new.out.items c.put_ratio.new.out.items _ _ _ refl c.in_ok-put-in-Stretch.ensures
    (on_joined c.put_ratio.result c.put-in-Stretch.new.out.items c.put_text.new.out.items c.put_ratio.new.out.items _ _ _ refl (rw c.order_text.ensures at c.in_ok-put_text-in-Stretch.ensures) c.put_ratio.ensures)))

pub returns-in_ok-put-in-Shrink : goal.returns-in_ok-put-in-Shrink
returns-in_ok-put-in-Shrink c =
    rw c.in-Shrink.is (on_joined c.put_ratio-in-Shrink.result c.args.out.now.items c.put-in-Shrink.new.out.items c.put_ratio-in-Shrink.new.out.items _ _ _ refl c.in_ok-put-in-Shrink.ensures c.put_ratio-in-Shrink.ensures)
