use Rattle.std.proofs.Common.{sym, subst, rules, FitsSigned, w64}
use Rattle.std.proofs.lemmas.Int.{to_z-of_z}
use Rattle.std.proofs.lemmas.List.Elements.{All-map}
use Rattle.tb_pool.specs.Lists.{list_at}
use Rattle.tb_node.specs.PlainNodes.{shape_of}
use Rattle.tb_node.specs.Fit.{IsExtent, IsSized, shapes}
use Rattle.tb_node.proofs.FitLemmas.{last_depth_extent}
use Rattle.tb_column.proofs.foot_depths.foot_kern.Goals as goal

pub taken_back-requires-clause-depth : goal.taken_back-requires-clause-depth
taken_back-requires-clause-depth c =
    let depth : FitsSigned w64 c.list_depth.result = search rules in
    simp to_z-of_z (subst IsExtent (sym c.list_depth.ensures) (last_depth_extent (shapes c.args.store.now c.args.body) (All-map IsSized shape_of (list_at c.args.store.now c.args.body) c.requires.sized)))
