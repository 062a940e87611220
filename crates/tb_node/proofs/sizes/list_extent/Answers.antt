use Rattle.std.proofs.Common.{◌∙◌, map}
use Rattle.tb_pool.specs.Lists.{list_at}
use Rattle.tb_node.specs.PlainNodes.{shape_of}
use Rattle.tb_node.specs.Fit.{shapes}
use Rattle.tb_node.proofs.FitLemmas.{summable}
use Rattle.tb_node.proofs.ExtentLemmas.{extent-begins, extent-small, extent-goes_on}
use Rattle.tb_node.proofs.sizes.list_extent.Goals as goal

pub loop-n-init : goal.loop-n-init
loop-n-init c =
    let items = c.into_iter-n-iterator.ensures.into_iter_gives ∙ c.iter-n-items.ensures in
    record { can_next = tt; is_finite = tt; extending = rw items (extent-begins (shapes c.args.store.now c.args.l) (summable (list_at c.args.store.now c.args.l) c.requires.sized c.requires.few)) }

pub with_node-extent-requires-clause-room : goal.with_node-extent-requires-clause-room
with_node-extent-requires-clause-room c =
    extent-small (shapes c.args.store.now c.args.l) c.loop-n.extent.room c.loop-n.extent.depth (map shape_of c.loop-n.n-iterator) (summable (list_at c.args.store.now c.args.l) c.requires.sized c.requires.few) c.loop-n.invariant.extending

pub loop-n-preserved : goal.loop-n-preserved
loop-n-preserved c =
    let so_far = rw c.in-Some.ensures.steps at c.loop-n.invariant.extending in
    record {
      can_next = tt;
      is_finite = tt;
      extending = extent-goes_on (shapes c.args.store.now c.args.l) c.loop-n.extent.room c.loop-n.extent.depth (shape_of c.in-Some.n.now) (map shape_of c.next.new.self) c.with_node-extent.result.room c.with_node-extent.result.depth c.with_node-extent.ensures.room c.with_node-extent.ensures.depth so_far;
    }
