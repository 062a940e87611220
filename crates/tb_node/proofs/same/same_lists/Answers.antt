use Rattle.std.proofs.Common.{◌≡◌, refl, true, false, ◌∙◌, sym, ap, length}
use Rattle.tb_node.proofs.StepLemmas.{walk_begins, walk_goes, walk_parts, both_end, none_falls_short, even_after, denied}
use Rattle.tb_node.proofs.same.same_lists.Goals as goal

pub loop-node-init : goal.loop-node-init
loop-node-init c = record {
  can_next = tt;
  is_finite = tt;
  in_step = walk_begins _ _ _ _ (c.into_iter-node-iterator.ensures.into_iter_gives ∙ c.iter-node-items.ensures) c.iter-others.ensures;
  even = ap length (c.into_iter-node-iterator.ensures.into_iter_gives ∙ c.iter-node-items.ensures) ∙ sym c.len.ensures ∙ c.if-len.false ∙ c.len-2.ensures ∙ ap length (sym c.iter-others.ensures);
}

pub returns-in_default : goal.returns-in_default
returns-in_default c = absurd (none_falls_short _ _ _ _ c.in-Some.ensures.steps c.loop-node.invariant.even c.in_default.ensures.steps.0)

pub returns-then-not-same_nodes : goal.returns-then-not-same_nodes
returns-then-not-same_nodes c =
    denied _ _ (walk_parts _ _ _ _ _ _ _ _ c.in-Some.ensures.steps c.in-Some-next.ensures.steps (λ same. let never : false ≡ true = c.if-not-same_nodes.ensures.1 same in cc) c.loop-node.invariant.in_step)

pub loop-node-preserved : goal.loop-node-preserved
loop-node-preserved c = record {
  can_next = tt;
  is_finite = tt;
  in_step = walk_goes _ _ _ _ _ _ _ _ c.in-Some.ensures.steps c.in-Some-next.ensures.steps (c.if-not-same_nodes.ensures.0 refl) c.loop-node.invariant.in_step;
  even = even_after _ _ _ _ _ _ c.in-Some.ensures.steps c.in-Some-next.ensures.steps c.loop-node.invariant.even;
}

pub returns : goal.returns
returns c = (λ yes. c.loop-node.invariant.in_step.0 (c.in-None.ensures.steps.0 ∙ sym (both_end _ _ c.in-None.ensures.steps.0 c.loop-node.invariant.even)), λ e. refl)
