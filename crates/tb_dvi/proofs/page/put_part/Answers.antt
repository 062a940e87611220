use Rattle.std.proofs.Common.{rules, ◌∙◌, FitsSigned, w32, w64}
use Rattle.std.specs.Int.{w128}
use Rattle.std.proofs.lemmas.Int.{to_z-of_z}
use Rattle.std.proofs.lemmas.Result.{err_from_is_err_and}
use Rattle.tb_pool.specs.Lists.{list_at}
use Rattle.tb_dvi.proofs.PlacementLemmas.{begins, shares, node_fits, natural_fits, glue_fits, goes_on, stops, ends}
use Rattle.tb_dvi.proofs.page.put_part.Goals as goal

pub loop-node-init : goal.loop-node-init
loop-node-init c =
    let items = c.into_iter-node-iterator.ensures.into_iter_gives ∙ c.iter-node-items.ensures in
    record { can_next = tt; is_finite = tt; placing = rw items (begins (list_at c.args.store.now) c.args.part.now.h c.args.part.now.at c.args.part.now.set _ c.new-tops.result _ c.new-tops.ensures.none) }

pub top-requires : goal.top-requires
top-requires c = shares _ _ _ _ _ _ _ _ _ c.loop-node.invariant.placing c.requires.share

pub returns-in_err-put_node : goal.returns-in_err-put_node
returns-in_err-put_node c =
    let so_far = rw c.in-Some.ensures.steps at c.loop-node.invariant.placing in
    let fits : FitsSigned w128 c.top.result = search rules in
    let right : FitsSigned w32 c.args.part.now.h = c.requires.right in
    let wide : FitsSigned w64 c.args.part.now.h = search rules in
    let at : FitsSigned w64 c.args.part.now.at = search rules in
    let wrote = simp to_z-of_z at c.in_err-put_node.ensures in
    let p = err_from_is_err_and c.from_residual.result c.from_residual.ensures.1 in
    rw (p.1, p.2) (stops _ _ _ _ _ _ _ _ _ _ so_far c.top.result c.top.ensures.after _ _ wrote)

pub pass-requires-clause-node : goal.pass-requires-clause-node
pass-requires-clause-node c = node_fits _ _ _ _ _ _ _ _ _ _ (rw c.in-Some.ensures.steps at c.loop-node.invariant.placing) c.requires.list.nodes

pub pass-requires-clause-natural : goal.pass-requires-clause-natural
pass-requires-clause-natural c = natural_fits _ _ _ _ _ _ _ _ _ _ (rw c.in-Some.ensures.steps at c.loop-node.invariant.placing) c.requires.list.limit c.requires.list.sums

pub pass-requires-clause-glue : goal.pass-requires-clause-glue
pass-requires-clause-glue c = glue_fits _ _ _ _ _ _ _ _ _ _ (rw c.in-Some.ensures.steps at c.loop-node.invariant.placing) c.requires.list.limit c.requires.list.sums

pub loop-node-preserved : goal.loop-node-preserved
loop-node-preserved c =
    let so_far = rw c.in-Some.ensures.steps at c.loop-node.invariant.placing in
    let fits : FitsSigned w128 c.top.result = search rules in
    let right : FitsSigned w32 c.args.part.now.h = c.requires.right in
    let wide : FitsSigned w64 c.args.part.now.h = search rules in
    let at : FitsSigned w64 c.args.part.now.at = search rules in
    let wrote = simp to_z-of_z at c.in_ok-put_node.ensures in
    record { can_next = tt; is_finite = tt; placing = goes_on _ _ _ _ _ _ _ _ _ _ so_far c.top.result c.top.ensures.after _ _ wrote c.pass.ensures.passed }

pub returns : goal.returns
returns c = ends _ _ _ _ _ _ _ _ (rw c.in-None.ensures.steps.0 at c.loop-node.invariant.placing)
