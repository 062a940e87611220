use Rattle.std.proofs.Common.{◌≡◌, refl, true, false, ◌∙◌, sym, ap, length}
use Rattle.tb_node.proofs.StepLemmas.{walk_begins, walk_goes, walk_parts, both_end, none_falls_short, even_after, denied}
use Rattle.tb_float.proofs.SameLemmas.{count_of-entries}
use Rattle.tb_float.proofs.Pool.lists_same.Goals as goal

pub returns-then-len : goal.returns-then-len
returns-then-len c =
    denied _ _ (λ e. c.if-len.true
    (c.len.ensures.value ∙ count_of-entries c.args.part c.args.self.now.lists ∙ ap length e
    ∙ sym (count_of-entries c.args.part c.args.other.now.lists) ∙ sym c.len-2.ensures.value))

pub loop-entry-init : goal.loop-entry-init
loop-entry-init c = record {
  can_next = tt;
  is_finite = tt;
  in_step = walk_begins _ _ _ _ (c.into_iter-entry-iterator.ensures.into_iter_gives ∙ c.entries-entry-items.ensures) c.entries-others.ensures;
  even = ap length (c.into_iter-entry-iterator.ensures.into_iter_gives ∙ c.entries-entry-items.ensures)
      ∙ sym (count_of-entries c.args.part c.args.self.now.lists) ∙ sym c.len.ensures.value ∙ c.if-len.false ∙ c.len-2.ensures.value
      ∙ count_of-entries c.args.part c.args.other.now.lists ∙ ap length (sym c.entries-others.ensures);
}

pub returns-in_default : goal.returns-in_default
returns-in_default c = absurd (none_falls_short _ _ _ _ c.in-Some.ensures.steps c.loop-entry.invariant.even c.in_default.ensures.steps.0)

pub returns-then-not-is_same : goal.returns-then-not-is_same
returns-then-not-is_same c =
    denied _ _ (walk_parts _ _ _ _ _ _ _ _ c.in-Some.ensures.steps c.in-Some-next.ensures.steps (λ same. let never : false ≡ true = c.if-not-is_same.ensures.1 same in cc) c.loop-entry.invariant.in_step)

pub loop-entry-preserved : goal.loop-entry-preserved
loop-entry-preserved c = record {
  can_next = tt;
  is_finite = tt;
  in_step = walk_goes _ _ _ _ _ _ _ _ c.in-Some.ensures.steps c.in-Some-next.ensures.steps (c.if-not-is_same.ensures.0 refl) c.loop-entry.invariant.in_step;
  even = even_after _ _ _ _ _ _ c.in-Some.ensures.steps c.in-Some-next.ensures.steps c.loop-entry.invariant.even;
}

pub returns : goal.returns
returns c = (λ yes. c.loop-entry.invariant.in_step.0 (c.in-None.ensures.steps.0 ∙ sym (both_end _ _ c.in-None.ensures.steps.0 c.loop-entry.invariant.even)), λ e. refl)
