use Rattle.std.proofs.Common.{◌∙◌, arith}
use Rattle.tb_pool.proofs.CallerLemmas.{live_same}
use Rattle.tb_items.proofs.FootLemmas.{leaf-added, no-leaf}
use Rattle.tb_items.proofs.foot_nodes.put_leaves.Goals as goal

pub loop-leaf-init : goal.loop-leaf-init
loop-leaf-init c = record {
  added = c.in_ok-reserve.ensures.lists ∙ no-leaf c.args.store.now c.args.l c.requires;
  room = omega (arith, c.in_ok-reserve.ensures.room);
}

pub put_leaf-requires-clause-live : goal.put_leaf-requires-clause-live
put_leaf-requires-clause-live c = live_same c.args.store.now c.loop-leaf.store c.args.l _ c.loop-leaf.invariant.added

pub put_leaf-requires-clause-room : goal.put_leaf-requires-clause-room
put_leaf-requires-clause-room c = omega (arith, c.loop-leaf.invariant.room)

pub loop-leaf-preserved : goal.loop-leaf-preserved
loop-leaf-preserved c = record {
  added =
      leaf-added c.args.store.now c.loop-leaf.store c.put_leaf.new.store c.args.l c.args.leaves.now c.loop-leaf.leaf-index c.leaf-item.result (omega arith) c.leaf-item.is c.loop-leaf.invariant.added
      c.put_leaf.ensures.pushed;
  room = omega (arith, c.loop-leaf.invariant.room, c.put_leaf.ensures.spare);
}
