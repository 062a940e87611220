use Rattle.std.proofs.Common.{ap, ◌∙◌, ◌++◌}
use Rattle.std.specs.Prelude.{option_to_list}
use Rattle.tb_pool.specs.Lists.{list_at}
use Rattle.tb_node.specs.PlainNodes.{plain_list}
use Rattle.tb_node.specs.declared.Node.{Node}
use Rattle.tb_told.specs.Standing.{line_here}
use Rattle.tb_told.specs.Tales.{here_lines}
use Rattle.tb_told.proofs.StandingLemmas.{here-step}
use Rattle.tb_told.proofs.standing.here_lines.Goals as goal

pub loop-node-init : goal.loop-node-init
loop-node-init c =
    let items = c.into_iter-node-iterator.ensures.into_iter_gives ∙ c.iter-node-items.ensures in
    record { can_next = tt; is_finite = tt; lines = rw items (ap (λ ls. ls ++ here_lines (plain_list c.args.store.now c.args.body)) c.new-lines.ensures.items) }

pub loop-node-preserved : goal.loop-node-preserved
loop-node-preserved c =
    let so_far = rw c.in-Some.ensures.steps at c.loop-node.invariant.lines in
    record {
      can_next = tt;
      is_finite = tt;
      lines = here-step (list_at c.args.store.now) c.in-Some.node.now c.next.new.self c.loop-node.lines.items c.push_here.new.lines.items (here_lines (plain_list c.args.store.now c.args.body)) (c.in_ok-push_here.ensures ∙ ap (λ (n : Node). c.loop-node.lines.items ++ option_to_list (line_here n.kind)) c.node.view_is) so_far;
    }
