use Rattle.std.proofs.Common.{◌≡◌, refl, ℕ, None, Some, Option}
use Rattle.tb_lines.proofs.TableBack.{back_more, back_falls, back_done}
use Rattle.tb_lines.proofs.solution.named_breaks.Goals as goal

pub back-preserved : goal.back-preserved
back-preserved c =
    back_more c.args.rows.now c.args.last c.args.from c.back.breaks.items c.back.at c.in-Some.place c.push-in-Some.new.self.items c.break_before-at.result
    c.requires.linked c.back.invariant c.in-Some.is c.in_ok-push-2.ensures.items c.break_before-at.ensures

pub back-smaller : goal.back-smaller
back-smaller c =
    back_falls c.args.rows.now c.args.last c.args.from c.back.breaks.items c.back.at c.in-Some.place c.break_before-at.result
    c.requires.linked c.back.invariant c.in-Some.is c.break_before-at.ensures

pub returns : goal.returns
returns c = back_done c.args.rows.now c.args.last c.args.from c.back.breaks.items c.back.at c.back.invariant (is_none c.back.at c.in_default.not-Some)
  where
    is_none : (x : Option ℕ) → ((place : ℕ) → x ≡ Some place → ⊥) → x ≡ None
    is_none None h = refl
    is_none (Some p) h = absurd (h p refl)
