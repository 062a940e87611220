use Rattle.std.proofs.Common.{◌∙◌, ap, sym, FitsSigned, w64, rules, arith}
use Rattle.std.proofs.lemmas.Int.{ints, to_z-of_z}
use Rattle.tb_pack.specs.Pack.{shrunk}
use Rattle.tb_pack.specs.SetSums.{set_by}
use Rattle.tb_pack.proofs.PackLemmas.{sums_setting-above, sums_setting-below}
use Rattle.tb_pack.proofs.set_glue.Goals as goal

pub returns-then-excess-gt0 : goal.returns-then-excess-gt0
returns-then-excess-gt0 c =
    let e : FitsSigned w64 c.args.excess = c.ranges.excess in
    let set = simp to_z-of_z at c.stretched.ensures in
    set ∙ ap (set_by c.args.set) (sym (sums_setting-above c.args.excess c.args.sums.now (omega (arith, ints))))

pub returns-else-excess-gt0 : goal.returns-else-excess-gt0
returns-else-excess-gt0 c =
    let e : FitsSigned w64 c.args.excess = c.ranges.excess in
    let lack : FitsSigned w64 c.negated.result = search rules in
    let shrink : FitsSigned w64 c.args.sums.now.shrink = search rules in
    let is = simp to_z-of_z at c.negated.ensures.value in
    let set = simp to_z-of_z at c.shrunk.ensures in
    set ∙ ap (λ l. set_by c.args.set (shrunk l c.args.sums.now.shrink)) is ∙ ap (set_by c.args.set) (sym (sums_setting-below c.args.excess c.args.sums.now (omega (arith, ints, c.if-excess-eq0.false))))
