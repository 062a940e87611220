use Rattle.std.proofs.Common.{ap, ◌+◌, drop, arith}
use Rattle.tb_builder.specs.Contents.{node_count}
use Rattle.tb_galley.specs.GalleyNodes.{item_nodes}
use Rattle.tb_items.proofs.LeftLemmas.{count-all, count-more}
use Rattle.tb_items.proofs.items_left.ItemsLeft.nodes.Goals as goal

pub loop-item-init : goal.loop-item-init
loop-item-init c = let e = count-all c.args.self.now in omega (arith, e)

pub loop-item-preserved : goal.loop-item-preserved
loop-item-preserved c =
    let p = c.args.self.now.params in
    let items = c.args.self.now.items.now in
    let i = c.loop-item.item-index in
    let more = count-more p c.loop-item.two items i c.item-item.result (omega arith) c.item-item.is in
    let after = ap (λ two. node_count (item_nodes p two (drop (i + 1) items))) c.two_after-two.ensures in
    let own = c.item_count-count.ensures in
    let so_far = c.loop-item.invariant in
    omega (arith, more, after, own, so_far)
