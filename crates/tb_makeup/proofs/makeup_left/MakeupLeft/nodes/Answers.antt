use Rattle.std.proofs.Common.{arith}
use Rattle.tb_makeup.proofs.FromGalley.LeftLemmas.{count-all}
use Rattle.tb_makeup.proofs.makeup_left.MakeupLeft.nodes.Goals as goal

pub loop-item-init : goal.loop-item-init
loop-item-init c = let e = count-all c.args.self.now in omega (arith, e)
