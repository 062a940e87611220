use Rattle.std.proofs.Common.{◌∙◌, ap, sym, subst, FitsSigned, w64, rules}
use Rattle.std.specs.Int.{w128}
use Rattle.std.proofs.lemmas.Int.{to_z-of_z}
use Rattle.tb_pack.specs.Pack.{floor_ratio}
use Rattle.tb_pack.specs.PositionRange.{IsProduct}
use Rattle.tb_pack.proofs.FloorLemmas.{product_small, floor_small}
use Rattle.tb_pack.proofs.position.set_amount.Goals as goal

pub returns-clause-small : goal.returns-clause-small
returns-clause-small c =
    let sum : FitsSigned w64 c.args.sum = c.ranges.sum in
    let num : FitsSigned w64 c.args.set.now.num = search rules in
    let product : FitsSigned w128 c.product.result = search rules in
    let floor : FitsSigned w128 c.floor_ratio.result = search rules in
    let p = simp to_z-of_z at c.product.ensures in
    let small = subst IsProduct (sym p) (product_small c.args.sum c.args.set.now.num sum num) in
    let q = simp to_z-of_z at c.floor_ratio.ensures in
    simp to_z-of_z (subst IsProduct (sym q) (floor_small _ _ small))

pub floor_ratio-requires-clause-small : goal.floor_ratio-requires-clause-small
floor_ratio-requires-clause-small c =
    let sum : FitsSigned w64 c.args.sum = c.ranges.sum in
    let num : FitsSigned w64 c.args.set.now.num = search rules in
    let product : FitsSigned w128 c.product.result = search rules in
    let p = simp to_z-of_z at c.product.ensures in
    simp to_z-of_z (subst IsProduct (sym p) (product_small c.args.sum c.args.set.now.num sum num))

pub returns-clause-value : goal.returns-clause-value
returns-clause-value c =
    let sum : FitsSigned w64 c.args.sum = c.ranges.sum in
    let num : FitsSigned w64 c.args.set.now.num = search rules in
    let den : FitsSigned w64 c.args.set.now.den = search rules in
    let product : FitsSigned w128 c.product.result = search rules in
    let floor : FitsSigned w128 c.floor_ratio.result = search rules in
    let p = simp to_z-of_z at c.product.ensures in
    let q = simp to_z-of_z at c.floor_ratio.ensures in
    simp to_z-of_z (q ∙ ap (λ z. floor_ratio z c.args.set.now.den) p)
