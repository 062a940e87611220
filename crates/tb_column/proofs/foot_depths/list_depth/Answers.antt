use Rattle.std.proofs.Common.{◌∙◌, ap, map, pos, rules, FitsSigned, w64}
use Rattle.std.proofs.lemmas.Int.{to_z-of_z}
use Rattle.tb_node.specs.PlainNodes.{shape_of}
use Rattle.tb_node.specs.Sums.{depth_from}
use Rattle.tb_column.proofs.foot_depths.list_depth.Goals as goal

pub loop-node-init : goal.loop-node-init
loop-node-init c =
    let items = c.into_iter-node-iterator.ensures.into_iter_gives ∙ c.iter-node-items.ensures in
    record { can_next = tt; is_finite = tt; left = ap (λ ns. depth_from (pos 0) (map shape_of ns)) items }

pub loop-node-preserved : goal.loop-node-preserved
loop-node-preserved c =
    let after : FitsSigned w64 c.depth_after-depth.result = search rules in
    let so_far = rw c.in-Some.ensures.steps at c.loop-node.invariant.left in
    record { can_next = tt; is_finite = tt; left = simp to_z-of_z (ap (λ d. depth_from d (map shape_of c.next.new.self)) c.depth_after-depth.ensures ∙ so_far) }
