use Rattle.std.proofs.Common.{FitsSigned, w64, rules, sym, subst}
use Rattle.std.proofs.lemmas.Int.{to_z-of_z, ints}
use Rattle.tb_pool.specs.Lists.{list_at}
use Rattle.tb_node.specs.SmallAmounts.{IsAmount}
use Rattle.tb_node.specs.Fit.{shapes}
use Rattle.tb_node.proofs.FitLemmas.{summable}
use Rattle.tb_items.proofs.FootLemmas.{room-small}
use Rattle.tb_items.proofs.foot_nodes.list_height.Goals as goal

pub returns : goal.returns
returns c =
    let small = subst IsAmount (sym c.list_extent.ensures.room) (room-small (shapes c.args.store.now c.args.l) (summable (list_at c.args.store.now c.args.l) c.requires.sized c.requires.few)) in
    let f : FitsSigned w64 c.list_extent.result.room = search (rules, ints, small.low, small.high) in
    simp to_z-of_z c.list_extent.ensures.room
