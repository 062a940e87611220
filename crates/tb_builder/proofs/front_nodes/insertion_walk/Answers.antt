use Rattle.std.proofs.Common.{◌∙◌, sym, subst}
use Rattle.tb_pool.specs.Lists.{list_at}
use Rattle.tb_builder.proofs.Sorting.PlaceLemmas.{Looking, looking_next, looking_ends}
use Rattle.tb_builder.proofs.front_nodes.insertion_walk.Goals as goal

pub loop-n-preserved : goal.loop-n-preserved
loop-n-preserved c =
    let h = subst (λ it. Looking (list_at c.args.store.now c.args.l) it c.loop-n.left) c.in-Some.ensures.steps c.loop-n.invariant.looking in
    record { can_next = tt; is_finite = tt; looking = looking_next (list_at c.args.store.now c.args.l) c.in-Some.n.now c.next.new.self c.loop-n.left h (sym c.is_insertion.ensures ∙ c.if-is_insertion.false) }

pub overflow_shl-never : goal.overflow_shl-never
overflow_shl-never c = absurd (looking_ends (list_at c.args.store.now c.args.l) c.loop-n.n-iterator c.loop-n.left c.loop-n.invariant.looking c.in-None.ensures.steps.0 c.requires.some)

pub unreachable-requires : goal.unreachable-requires
unreachable-requires c = looking_ends (list_at c.args.store.now c.args.l) c.loop-n.n-iterator c.loop-n.left c.loop-n.invariant.looking c.in-None.ensures.steps.0 c.requires.some
