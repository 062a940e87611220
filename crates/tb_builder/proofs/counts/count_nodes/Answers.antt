use Rattle.std.proofs.Common.{◌∙◌, sym, subst}
use Rattle.tb_pool.specs.Lists.{list_at}
use Rattle.tb_node.specs.PlainNodes.{plain_list}
use Rattle.tb_builder.specs.Contents.{node_count}
use Rattle.tb_builder.proofs.Amounts.CountLemmas.{Counting, counting_begins, counting_live, counting_next, counting_ends}
use Rattle.tb_builder.proofs.counts.count_nodes.Goals as goal

pub loop-n-init : goal.loop-n-init
loop-n-init c = record {
  can_next = tt;
  is_finite = tt;
  counting = subst (λ it. Counting c.args.store.now 18446744073709551615 (node_count (plain_list c.args.store.now c.args.l)) it 0) (sym (c.into_iter-n-iterator.ensures.into_iter_gives ∙ c.iter-n-items.ensures)) (counting_begins c.args.store.now 18446744073709551615 (list_at c.args.store.now c.args.l) c.requires.inner);
}

pub count_of-requires : goal.count_of-requires
count_of-requires c =
    let s = subst (λ it. Counting c.args.store.now 18446744073709551615 (node_count (plain_list c.args.store.now c.args.l)) it c.loop-n.total) c.in-Some.ensures.steps c.loop-n.invariant.counting in
    counting_live c.args.store.now 18446744073709551615 _ c.loop-n.total c.in-Some.n.now c.next.new.self s

pub loop-n-preserved : goal.loop-n-preserved
loop-n-preserved c =
    let s = subst (λ it. Counting c.args.store.now 18446744073709551615 (node_count (plain_list c.args.store.now c.args.l)) it c.loop-n.total) c.in-Some.ensures.steps c.loop-n.invariant.counting in
    record {
      can_next = tt;
      is_finite = tt;
      counting = counting_next c.args.store.now 18446744073709551615 _ c.loop-n.total c.in-Some.n.now c.next.new.self s c.count_of.result c.more-total.result c.count_of.ensures c.more-total.ensures;
    }

pub returns : goal.returns
returns c =
    counting_ends c.args.store.now 18446744073709551615 (node_count (plain_list c.args.store.now c.args.l)) c.loop-n.total
    (subst (λ it. Counting c.args.store.now 18446744073709551615 (node_count (plain_list c.args.store.now c.args.l)) it c.loop-n.total) c.in-None.ensures.steps.0 c.loop-n.invariant.counting)
