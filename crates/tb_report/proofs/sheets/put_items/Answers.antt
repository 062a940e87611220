use Rattle.std.proofs.Common.{◌∙◌}
use Rattle.tb_pool.specs.Lists.{list_at}
use Rattle.tb_report.proofs.PrintLemmas.{begins, shares, node_fits, natural_fits, glue_fits, stops, goes_on, ends}
use Rattle.tb_text.proofs.FrontLemmas.{fails}
use Rattle.tb_report.proofs.sheets.put_items.Goals as goal

pub loop-node-init : goal.loop-node-init
loop-node-init c =
    let items = c.into_iter-node-iterator.ensures.into_iter_gives ∙ c.iter-node-items.ensures in
    record { can_next = tt; is_finite = tt; printing = rw items (begins (list_at c.args.store.now) c.args.set _ c.new-tops.result _ c.new-tops.ensures.none) }

pub put_next-requires : goal.put_next-requires
put_next-requires c = shares _ _ _ _ _ _ _ c.loop-node.invariant.printing c.requires.share

pub pass-requires-clause-node : goal.pass-requires-clause-node
pass-requires-clause-node c = node_fits _ _ _ _ _ _ _ _ (rw c.in-Some.ensures.steps at c.loop-node.invariant.printing) c.requires.list.nodes

pub pass-requires-clause-natural : goal.pass-requires-clause-natural
pass-requires-clause-natural c = natural_fits _ _ _ _ _ _ _ _ (rw c.in-Some.ensures.steps at c.loop-node.invariant.printing) c.requires.list.limit c.requires.list.sums

pub pass-requires-clause-glue : goal.pass-requires-clause-glue
pass-requires-clause-glue c = glue_fits _ _ _ _ _ _ _ _ (rw c.in-Some.ensures.steps at c.loop-node.invariant.printing) c.requires.list.limit c.requires.list.sums

pub loop-node-preserved : goal.loop-node-preserved
loop-node-preserved c =
    let so_far = rw c.in-Some.ensures.steps at c.loop-node.invariant.printing in
    record { can_next = tt; is_finite = tt; printing = goes_on _ _ _ _ _ _ _ _ so_far _ _ c.in_ok-put_next.ensures c.pass.ensures.passed }

pub returns : goal.returns
returns c = ends _ _ _ _ _ _ (rw c.in-None.ensures.steps.0 at c.loop-node.invariant.printing)

pub returns-in_err-put_next : goal.returns-in_err-put_next
returns-in_err-put_next c = fails _ _ _ _ c.from_residual.ensures.0 (stops _ _ _ _ _ _ _ _ (rw c.in-Some.ensures.steps at c.loop-node.invariant.printing) _ c.in_err-put_next.ensures)
