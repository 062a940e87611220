use Rattle.std.proofs.Common.{◌-◌, arith}
use Rattle.tb_pool.specs.Lists.{list_at}
use Rattle.tb_output.proofs.InText.ExtentLemmas.{look-begun, look-on, none-there}
use Rattle.tb_output.proofs.extents.near_depth.Goals as goal

pub look-init : goal.look-init
look-init c = look-begun (list_at c.args.store.now c.args.l) c.len-left.result c.len-left.ensures

pub look-smaller : goal.look-smaller
look-smaller c = omega (arith, c.if-left-least.true)

pub look-preserved : goal.look-preserved
look-preserved c =
    look-on (list_at c.args.store.now c.args.l) c.look.left (c.look.left - 1) c.look.depth c.depth_at-depth.result c.look.invariant (none-there c.look.depth c.is_none.result c.is_none.ensures c.look-test.true) (omega (arith, c.if-left-least.true)) c.depth_at-depth.ensures

pub returns-after-look : goal.returns-after-look
returns-after-look c = c.look.invariant.found
