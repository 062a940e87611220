use Rattle.std.proofs.Common.{◌≡◌, ◌∙◌, sym, subst, refl, true, false, List}
use Rattle.tb_pool.specs.Lists.{list_at}
use Rattle.tb_node.specs.declared.Node.{Node}
use Rattle.tb_node.proofs.StepLemmas.{denied, none_falls_short}
use Rattle.tb_builder.proofs.SameLemmas.{Walking, walking_begins, walking_at, walking_live, walking_live_too, walking_plain, walking_plain_too, walking_next, walking_parts, walking_ends, same_length}
use Rattle.tb_builder.proofs.same.same_waiting.Goals as goal

pub returns-then-len : goal.returns-then-len
returns-then-len c =
    let s = c.args.store.now in
    let t = c.args.other_store.now in
    let ns = list_at s c.args.list in
    let ms = list_at t c.args.other_list in
    denied _ _ (λ e. c.if-len.true (c.len.ensures ∙ same_length s t ns ms e ∙ sym c.len-2.ensures))

pub loop-node-init : goal.loop-node-init
loop-node-init c =
    let s = c.args.store.now in
    let t = c.args.other_store.now in
    let ns = list_at s c.args.list in
    let ms = list_at t c.args.other_list in
    record {
      can_next = tt;
      is_finite = tt;
      walking = subst (λ (others : List Node). Walking s t ns ms c.into_iter-node-iterator.result others) (sym c.iter-others.ensures)
          (subst (λ (rest : List Node). Walking s t ns ms rest ms) (sym (c.into_iter-node-iterator.ensures.into_iter_gives ∙ c.iter-node-items.ensures))
          (walking_begins s t ns ms (sym c.len.ensures ∙ c.if-len.false ∙ c.len-2.ensures) c.requires.inner c.requires.other_inner c.requires.plain c.requires.other_plain));
    }

pub same_nodes-requires-clause-live : goal.same_nodes-requires-clause-live
same_nodes-requires-clause-live c =
    let s = c.args.store.now in
    let t = c.args.other_store.now in
    let ns = list_at s c.args.list in
    let ms = list_at t c.args.other_list in
    let walking = walking_at s t ns ms _ _ _ _ c.in-Some.ensures.steps c.in-Some-next.ensures.steps c.loop-node.invariant.walking in
    walking_live s t ns ms c.in-Some.node.now c.in-Some-next.other.now c.next.new.self c.next-in-loop-node.new.self walking

pub same_nodes-requires-clause-other_live : goal.same_nodes-requires-clause-other_live
same_nodes-requires-clause-other_live c =
    let s = c.args.store.now in
    let t = c.args.other_store.now in
    let ns = list_at s c.args.list in
    let ms = list_at t c.args.other_list in
    let walking = walking_at s t ns ms _ _ _ _ c.in-Some.ensures.steps c.in-Some-next.ensures.steps c.loop-node.invariant.walking in
    walking_live_too s t ns ms c.in-Some.node.now c.in-Some-next.other.now c.next.new.self c.next-in-loop-node.new.self walking

pub same_nodes-requires-clause-plain : goal.same_nodes-requires-clause-plain
same_nodes-requires-clause-plain c =
    let s = c.args.store.now in
    let t = c.args.other_store.now in
    let ns = list_at s c.args.list in
    let ms = list_at t c.args.other_list in
    let walking = walking_at s t ns ms _ _ _ _ c.in-Some.ensures.steps c.in-Some-next.ensures.steps c.loop-node.invariant.walking in
    walking_plain s t ns ms c.in-Some.node.now c.in-Some-next.other.now c.next.new.self c.next-in-loop-node.new.self walking

pub same_nodes-requires-clause-other_plain : goal.same_nodes-requires-clause-other_plain
same_nodes-requires-clause-other_plain c =
    let s = c.args.store.now in
    let t = c.args.other_store.now in
    let ns = list_at s c.args.list in
    let ms = list_at t c.args.other_list in
    let walking = walking_at s t ns ms _ _ _ _ c.in-Some.ensures.steps c.in-Some-next.ensures.steps c.loop-node.invariant.walking in
    walking_plain_too s t ns ms c.in-Some.node.now c.in-Some-next.other.now c.next.new.self c.next-in-loop-node.new.self walking

pub returns-in_default : goal.returns-in_default
returns-in_default c = absurd (none_falls_short _ _ _ _ c.in-Some.ensures.steps c.loop-node.invariant.walking.even c.in_default.ensures.steps.0)

pub returns-then-not-same_nodes : goal.returns-then-not-same_nodes
returns-then-not-same_nodes c =
    let s = c.args.store.now in
    let t = c.args.other_store.now in
    let ns = list_at s c.args.list in
    let ms = list_at t c.args.other_list in
    let walking = walking_at s t ns ms _ _ _ _ c.in-Some.ensures.steps c.in-Some-next.ensures.steps c.loop-node.invariant.walking in
    denied _ _ (walking_parts s t ns ms c.in-Some.node.now c.in-Some-next.other.now c.next.new.self c.next-in-loop-node.new.self walking (λ same. let never : false ≡ true = c.if-not-same_nodes.ensures.1 same in cc))

pub loop-node-preserved : goal.loop-node-preserved
loop-node-preserved c =
    let s = c.args.store.now in
    let t = c.args.other_store.now in
    let ns = list_at s c.args.list in
    let ms = list_at t c.args.other_list in
    let walking = walking_at s t ns ms _ _ _ _ c.in-Some.ensures.steps c.in-Some-next.ensures.steps c.loop-node.invariant.walking in
    record {
      can_next = tt;
      is_finite = tt;
      walking = walking_next s t ns ms c.in-Some.node.now c.in-Some-next.other.now c.next.new.self c.next-in-loop-node.new.self walking (c.if-not-same_nodes.ensures.0 refl);
    }

pub returns : goal.returns
returns c =
    let s = c.args.store.now in
    let t = c.args.other_store.now in
    let ns = list_at s c.args.list in
    let ms = list_at t c.args.other_list in (
      λ yes. walking_ends s t ns ms c.loop-node.others
          (subst (λ (rest : List Node). Walking s t ns ms rest c.loop-node.others) c.in-None.ensures.steps.0 c.loop-node.invariant.walking),
      λ e. refl,
    )
