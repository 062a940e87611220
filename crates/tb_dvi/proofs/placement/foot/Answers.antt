use Rattle.std.proofs.Common.{◌≡◌, ◌∙◌, ap, ◌+ℤ◌, FitsSigned, w64, arith, rules}
use Rattle.std.specs.Int.{w128}
use Rattle.std.proofs.lemmas.Int.{ints, to_z-of_z}
use Rattle.tb_dvi.specs.File.{near}
use Rattle.tb_dvi.proofs.placement.foot.Goals as goal

pub returns : goal.returns
returns c =
    let a : FitsSigned w64 c.args.at = c.ranges.at in
    let t : FitsSigned w128 c.args.top = c.ranges.top in
    let h : FitsSigned w64 c.args.height = c.ranges.height in
    let d : FitsSigned w64 c.args.depth = c.ranges.depth in
    let r : FitsSigned w128 c.sum_of_three.result = search rules in
    let sum : c.sum_of_three.result ≡ c.args.at +ℤ c.args.height +ℤ c.args.depth = simp to_z-of_z at c.sum_of_three.ensures.value in
    let whole : c.args.top +ℤ c.sum_of_three.result ≡ c.args.at +ℤ c.args.top +ℤ (c.args.height +ℤ c.args.depth) = omega (arith, ints, sum) in
    let by : c.near_by.result ≡ near (c.args.top +ℤ c.sum_of_three.result) = simp to_z-of_z at c.near_by.ensures in
    by ∙ ap near whole
