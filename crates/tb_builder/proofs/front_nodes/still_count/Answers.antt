use Rattle.std.proofs.Common.{◌∙◌, sym, ap, ◌+◌, length, arith}
use Rattle.std.specs.Prelude.{if◌then◌else◌}
use Rattle.tb_builder.specs.PageWalks.{still_count}
use Rattle.tb_builder.proofs.front_nodes.still_count.Goals as goal

pub loop-n-init : goal.loop-n-init
loop-n-init c =
    let items = c.into_iter-n-iterator.ensures.into_iter_gives ∙ c.iter-n-items.ensures in
    record {
      can_next = tt;
      is_finite = tt;
      within = omega arith;
      few = omega (arith, c.len-count.ensures, ap length items);
      counted = omega (arith, ap still_count items);
    }

pub loop-n-preserved : goal.loop-n-preserved
loop-n-preserved c =
    let h = c.loop-n.invariant in
    let steps = c.in-Some.ensures.steps in
    let one = ap still_count steps ∙ ap (λ b. if b then still_count c.next.new.self + 1 else 0) (sym c.is_still.ensures ∙ c.if-not-is_still.false) in
    record {
      can_next = tt;
      is_finite = tt;
      within = omega (arith, h.within);
      few = omega (arith, h.few, ap length steps);
      counted = omega (arith, h.within, h.few, ap length steps, h.counted, one);
    }

pub returns-then-not-is_still : goal.returns-then-not-is_still
returns-then-not-is_still c =
    let h = c.loop-n.invariant in
    let none = ap still_count c.in-Some.ensures.steps ∙ ap (λ b. if b then still_count c.next.new.self + 1 else 0) (sym c.is_still.ensures ∙ c.if-not-is_still.true) in
    omega (arith, h.counted, none)

pub returns : goal.returns
returns c =
    let h = c.loop-n.invariant in
    omega (arith, h.counted, ap still_count c.in-None.ensures.steps.0)
