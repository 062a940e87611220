use Rattle.std.proofs.Common.{refl, ◌∙◌, arith}
use Rattle.tb_items.proofs.ItemLemmas.{columns-more, params-more, item-more}
use Rattle.tb_items.proofs.WaitsLemmas.{waits-nothing}
use Rattle.tb_items.proofs.galley_nodes.put_items.Goals as goal

pub loop-item-init : goal.loop-item-init
loop-item-init c = (refl, refl, waits-nothing c.args.builder.now c.args.store.now c.reserve.new.self c.in_ok-reserve.ensures.lists c.requires.can.sound)

pub loop-item-preserved : goal.loop-item-preserved
loop-item-preserved c = (
  c.in_ok-two.ensures.two ∙ columns-more c.args.p.now c.args.two c.args.items.now c.loop-item.item-index c.item-item.result (omega arith) c.item-item.is c.loop-item.two c.loop-item.invariant.0,
  c.in_ok-two.ensures.params ∙ params-more c.args.p.now c.args.two c.args.items.now c.loop-item.item-index c.item-item.result (omega arith) c.item-item.is c.loop-item.p c.loop-item.invariant.1,
  item-more c.args.p.now c.args.two c.args.items.now c.loop-item.item-index c.item-item.result (omega arith) c.item-item.is c.loop-item.two c.loop-item.invariant.0 c.loop-item.p c.loop-item.invariant.1 c.args.builder.now c.args.store.now c.loop-item.builder c.loop-item.store c.put_next.new.builder c.put_next.new.store c.loop-item.invariant.2 c.in_ok-two.ensures.waits,
)
