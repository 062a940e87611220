use Rattle.std.proofs.Common.{◌∙◌, FitsSigned, w64}
use Rattle.std.proofs.lemmas.Int.{to_z-of_z}
use Rattle.tb_node.proofs.SumLemmas.{begins, so_far_fits, next_fits, goes_on, ends}
use Rattle.tb_node.proofs.node_sums.list_sums.Goals as goal

pub loop-n-init : goal.loop-n-init
loop-n-init c =
    let d : FitsSigned w64 c.args.max_depth = c.ranges.max_depth in
    let items = c.into_iter-n-iterator.ensures.into_iter_gives ∙ c.iter-n-items.ensures in
    record { can_next = tt; is_finite = tt; summing = simp to_z-of_z (rw items (begins c.args.max_depth _ c.requires.low)) }

pub add-requires-clause-small : goal.add-requires-clause-small
add-requires-clause-small c =
    let d : FitsSigned w64 c.args.max_depth = c.ranges.max_depth in
    let so_far = simp to_z-of_z at c.loop-n.invariant.summing in
    so_far_fits _ _ _ _ c.requires.sums so_far

pub add-requires-clause-node : goal.add-requires-clause-node
add-requires-clause-node c =
    let d : FitsSigned w64 c.args.max_depth = c.ranges.max_depth in
    let so_far = simp to_z-of_z at c.loop-n.invariant.summing in
    next_fits _ _ _ _ _ c.requires.nodes (rw c.in-Some.ensures.steps at so_far)

pub loop-n-preserved : goal.loop-n-preserved
loop-n-preserved c =
    let d : FitsSigned w64 c.args.max_depth = c.ranges.max_depth in
    let so_far = simp to_z-of_z at c.loop-n.invariant.summing in
    let added = simp to_z-of_z at c.add.ensures in
    record { can_next = tt; is_finite = tt; summing = simp to_z-of_z (goes_on _ _ _ _ _ _ added (rw c.in-Some.ensures.steps at so_far)) }

pub returns : goal.returns
returns c =
    let d : FitsSigned w64 c.args.max_depth = c.ranges.max_depth in
    let so_far = simp to_z-of_z at c.loop-n.invariant.summing in
    ends _ _ _ (rw c.in-None.ensures.steps.0 at so_far)
