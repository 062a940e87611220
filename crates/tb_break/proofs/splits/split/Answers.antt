use Rattle.std.proofs.Common.{ap, sym, subst, FitsSigned, w64, arith}
use Rattle.std.proofs.lemmas.Int.{to_z-of_z}
use Rattle.std.proofs.lemmas.List.{length-map}
use Rattle.tb_pool.specs.Lists.{list_at}
use Rattle.tb_node.specs.PlainNodes.{shape_of}
use Rattle.tb_break.specs.declared.Found.{Found}
use Rattle.tb_break.specs.SplitPlace.{shapes}
use Rattle.tb_break.proofs.PlacesLemmas.{split-within}
use Rattle.tb_break.specs.LastLeast.{IsLastLeast}
use Rattle.tb_break.proofs.LastLemmas.{split-last_least}
use Rattle.tb_break.proofs.splits.split.Goals as goal

pub cut-requires-clause-within : goal.cut-requires-clause-within
cut-requires-clause-within c =
    let h : FitsSigned w64 c.args.height = c.ranges.height in
    let d : FitsSigned w64 c.args.max_depth = c.ranges.max_depth in
    let found = simp to_z-of_z at c.find-found.ensures in
    omega (arith, ap (λ (f : Found). f.index) found, split-within c.args.height c.args.max_depth (shapes c.args.store.now c.args.l), length-map (list_at c.args.store.now c.args.l) shape_of)

pub returns-clause-within : goal.returns-clause-within
returns-clause-within c =
    let h : FitsSigned w64 c.args.height = c.ranges.height in
    let d : FitsSigned w64 c.args.max_depth = c.ranges.max_depth in
    let found = simp to_z-of_z at c.find-found.ensures in
    omega (arith, ap (λ (f : Found). f.index) found, split-within c.args.height c.args.max_depth (shapes c.args.store.now c.args.l), length-map (list_at c.args.store.now c.args.l) shape_of)

pub returns-clause-last_least : goal.returns-clause-last_least
returns-clause-last_least c =
    let h : FitsSigned w64 c.args.height = c.ranges.height in
    let d : FitsSigned w64 c.args.max_depth = c.ranges.max_depth in
    let found = simp to_z-of_z at c.find-found.ensures in
    subst (IsLastLeast c.args.height c.args.max_depth (shapes c.args.store.now c.args.l)) (sym found) (split-last_least c.args.height c.args.max_depth (shapes c.args.store.now c.args.l))
