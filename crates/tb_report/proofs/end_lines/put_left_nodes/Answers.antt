use Rattle.std.proofs.Common.{◌∙◌}
use Rattle.tb_text.proofs.FrontLemmas.{put-begins, put-ends, fails}
use Rattle.tb_report.proofs.PrintLemmas.{leaves_cut, leaves_on}
use Rattle.tb_report.proofs.end_lines.put_left_nodes.Goals as goal

pub loop-node-init : goal.loop-node-init
loop-node-init c =
    let items = c.into_iter-node-iterator.ensures.into_iter_gives ∙ c.iter-node-items.ensures in
    record { can_next = tt; is_finite = tt; leaving = rw items (record { text = put-begins _ _ }) }

pub returns-in_err-put_left : goal.returns-in_err-put_left
returns-in_err-put_left c =
    fails _ _ _ _ c.from_residual.ensures.0 (leaves_cut _ _ _ _ _ _ (rw c.in-Some.ensures.steps at c.loop-node.invariant.leaving) _ c.in_err-put_left.ensures)

pub loop-node-preserved : goal.loop-node-preserved
loop-node-preserved c =
    let so_far = rw c.in-Some.ensures.steps at c.loop-node.invariant.leaving in
    record { can_next = tt; is_finite = tt; leaving = leaves_on _ _ _ _ _ _ so_far _ c.in_ok-put_left.ensures }

pub returns : goal.returns
returns c = put-ends (rw c.in-None.ensures.steps.0 at c.loop-node.invariant.leaving).text
