use Rattle.std.proofs.Common.{◌≢◌, pos, sym, subst, FitsSigned, w64}
use Rattle.std.proofs.lemmas.Int.{to_z-of_z}
use Rattle.tb_node.specs.Fit.{shapes}
use Rattle.tb_pack.specs.declared.Set.{Set}
use Rattle.tb_pack.proofs.PackLemmas.{packed-divisor, sums_small}
use Rattle.tb_pack.proofs.pack.Goals as goal

pub pack_sums-requires-clause-small : goal.pack_sums-requires-clause-small
pack_sums-requires-clause-small c =
    let d : FitsSigned w64 c.args.depth_limit = c.ranges.depth_limit in
    sums_small c.args.depth_limit (shapes c.args.store.now c.args.l) c.list_sums.result (simp to_z-of_z at c.list_sums.ensures) c.requires.sums

pub returns-clause-value : goal.returns-clause-value
returns-clause-value c =
    let d : FitsSigned w64 c.args.depth_limit = c.ranges.depth_limit in
    let h : FitsSigned w64 c.args.height = c.ranges.height in
    let value = c.pack_sums.ensures.value c.args.depth_limit (shapes c.args.store.now c.args.l) (simp to_z-of_z at c.list_sums.ensures) in
    simp to_z-of_z at value

pub returns-clause-divisor : goal.returns-clause-divisor
returns-clause-divisor c =
    let P : Set → Type 0 = λ s. s.den ≢ pos 0 in
    subst P (sym (returns-clause-value c)) (packed-divisor c.args.height c.args.depth_limit (shapes c.args.store.now c.args.l))
