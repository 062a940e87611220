use Rattle.std.proofs.Common.{◌∙◌, ◌-◌, ap, map, arith}
use Rattle.tb_node.specs.PlainNodes.{shape_of}
use Rattle.tb_node.proofs.ExtentLemmas.{extent-room, extent-depth}
use Rattle.tb_output.proofs.Firings.ReadingLemmas.{text, text-begins, text-amount, text-node, text-goes_on, text-stops}
use Rattle.tb_output.proofs.reading.text_extent.Goals as goal

pub loop-node-init : goal.loop-node-init
loop-node-init c =
    let items = c.into_iter-node-iterator.ensures.into_iter_gives ∙ c.iter-node-items.ensures in
    let e = c.list_extent-extent.result in
    record {
      can_next = tt;
      is_finite = tt;
      extending = rw items (text-begins c.args.store.now c.args.held c.args.body c.requires.held c.requires.body c.requires.few e.room e.depth c.saturating_sub-left.result c.list_extent-extent.ensures.room c.list_extent-extent.ensures.depth (c.saturating_sub-left.ensures ∙ ap (λ n. n - 2) c.len.ensures));
    }

pub with_node-extent-requires-clause-room : goal.with_node-extent-requires-clause-room
with_node-extent-requires-clause-room c =
    text-amount c.args.store.now c.args.held c.args.body c.requires.held c.requires.body c.requires.few c.loop-node.extent.room c.loop-node.extent.depth c.loop-node.left c.loop-node.node-iterator c.loop-node.invariant.extending

pub with_node-extent-requires-clause-node : goal.with_node-extent-requires-clause-node
with_node-extent-requires-clause-node c =
    let so_far = rw c.in-Some.ensures.steps at c.loop-node.invariant.extending in
    text-node c.args.store.now c.args.held c.args.body c.requires.held c.requires.body c.requires.few c.loop-node.extent.room c.loop-node.extent.depth c.loop-node.left c.in-Some.node.now c.next.new.self (λ e. omega (arith, e, c.if-left-eq0.false)) so_far

pub loop-node-preserved : goal.loop-node-preserved
loop-node-preserved c =
    let so_far = rw c.in-Some.ensures.steps at c.loop-node.invariant.extending in
    let e = c.with_node-extent.result in
    record {
      can_next = tt;
      is_finite = tt;
      extending = text-goes_on c.args.store.now c.args.held c.args.body c.requires.held c.requires.body c.requires.few c.loop-node.extent.room c.loop-node.extent.depth c.loop-node.left c.in-Some.node.now c.next.new.self e.room e.depth (λ e. omega (arith, e, c.if-left-eq0.false)) c.with_node-extent.ensures.room c.with_node-extent.ensures.depth so_far;
    }

pub returns-then-left-eq0-clause-room : goal.returns-then-left-eq0-clause-room
returns-then-left-eq0-clause-room c =
    extent-room (map shape_of (text c.args.store.now c.args.held c.args.body)) c.loop-node.extent.room c.loop-node.extent.depth
    (text-stops c.args.store.now c.args.held c.args.body c.requires.held c.requires.body c.requires.few c.loop-node.extent.room c.loop-node.extent.depth c.loop-node.left c.loop-node.node-iterator (omega (arith, c.if-left-eq0.true)) c.loop-node.invariant.extending)

pub returns-then-left-eq0-clause-depth : goal.returns-then-left-eq0-clause-depth
returns-then-left-eq0-clause-depth c =
    extent-depth (map shape_of (text c.args.store.now c.args.held c.args.body)) c.loop-node.extent.room c.loop-node.extent.depth
    (text-stops c.args.store.now c.args.held c.args.body c.requires.held c.requires.body c.requires.few c.loop-node.extent.room c.loop-node.extent.depth c.loop-node.left c.loop-node.node-iterator (omega (arith, c.if-left-eq0.true)) c.loop-node.invariant.extending)
