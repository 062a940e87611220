use Rattle.std.proofs.Common.{arith}
use Rattle.tb_makeup.proofs.FromGalley.ItemLemmas.{acts-made}
use Rattle.tb_makeup.proofs.galley_nodes.act_count.Goals as goal

pub returns : goal.returns
returns c = acts-made c.args.galley.now c.as_slice-item-items.result.now c.loop-item.count c.loop-item.item-index c.as_slice-item-items.ensures c.loop-item.invariant.sum (let h = c.loop-item-test.false in omega (arith, h))
