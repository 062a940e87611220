use Rattle.std.proofs.Common.{arith}
use Rattle.tb_items.proofs.WaitsLemmas.{waits-nothing}
use Rattle.tb_makeup.proofs.FromGalley.ItemLemmas.{item-more}
use Rattle.tb_makeup.proofs.galley_nodes.put_items.Goals as goal

pub loop-item-init : goal.loop-item-init
loop-item-init c = waits-nothing c.args.builder.now c.args.store.now c.reserve.new.self c.in_ok-reserve.ensures.lists c.requires.can.sound

pub loop-item-preserved : goal.loop-item-preserved
loop-item-preserved c = item-more c.args.p.now c.args.items.now c.loop-item.item-index c.item-item.result (omega arith) c.item-item.is c.args.builder.now c.args.store.now c.loop-item.builder c.loop-item.store c.put_makeup.new.builder c.put_makeup.new.store c.loop-item.invariant c.in_ok-put_makeup.ensures
