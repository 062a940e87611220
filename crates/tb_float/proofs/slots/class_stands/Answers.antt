use Rattle.std.proofs.Common.{ap, sym, ◌∙◌}
use Rattle.std.proofs.Common.{take, []}
use Rattle.tb_float.specs.Lists.{has_class, float_before}
use Rattle.tb_float.specs.Shelves.{floats_in}
use Rattle.tb_float.proofs.SlotLemmas.{class-passed}
use Rattle.tb_float.proofs.slots.class_stands.Goals as goal

pub loop-slot-preserved : goal.loop-slot-preserved
loop-slot-preserved c =
    let not = sym c.is_of_class.ensures ∙ c.if-is_of_class.false in
    let other = ap (λ s. has_class c.args.class (float_before s.entry [])) (sym c.slot.view_is) ∙ not in
    let steps = ap (λ ss. has_class c.args.class (floats_in (take c.loop-slot.left ss))) (sym c.in-Some.ensures.steps) in
    record {
      can_next = tt;
      is_finite = tt;
      passed = sym (class-passed c.args.class c.loop-slot.left c.in-Some.slot.now c.next.new.self c.if-left-eq0.false other) ∙ steps ∙ c.loop-slot.invariant.passed;
    }
