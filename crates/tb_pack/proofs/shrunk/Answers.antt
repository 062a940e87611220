use Rattle.std.proofs.Common.{◌∙◌, ap, sym, ◌-ℤ◌, FitsSigned, w64, of_z, arith}
use Rattle.std.proofs.lemmas.Int.{ints, to_z-of_z}
use Rattle.tb_pack.specs.SetSums.{set_by}
use Rattle.tb_pack.proofs.PackLemmas.{shrunk-overfull}
use Rattle.tb_pack.proofs.shrunk.Goals as goal

pub returns-else-shrink-eq0 : goal.returns-else-shrink-eq0
returns-else-shrink-eq0 c =
    let lack : FitsSigned w64 c.args.lack = c.ranges.lack in
    let shrink : FitsSigned w64 c.args.shrink = c.ranges.shrink in
    let over : FitsSigned w64 (c.args.lack -ℤ c.args.shrink) = omega (arith, ints) in
    let set = simp to_z-of_z at c.shrunk_by-else-shrink-eq0.ensures in
    set ∙ ap (set_by c.args.set) (sym (shrunk-overfull c.args.lack c.args.shrink (omega (arith, ints)) (λ e. c.if-shrink-eq0.false (ap (of_z w64) e))))
