use Rattle.std.proofs.Common.{◌∙◌, ◌++◌, get_or, pos, FitsSigned, w64, rules}
use Rattle.std.proofs.lemmas.Int.{to_z-of_z}
use Rattle.tb_trace.proofs.NumberLemmas.{number-count, four-numbers}
use Rattle.tb_trace.proofs.plain.plain_stretch.Goals as goal

pub returns : goal.returns
returns c =
    let ns = c.args.stretch.now in
    let a : FitsSigned w64 (get_or ns 0 (pos 0)) = search rules in
    let b : FitsSigned w64 (get_or ns 1 (pos 0)) = search rules in
    let d : FitsSigned w64 (get_or ns 2 (pos 0)) = search rules in
    let e : FitsSigned w64 (get_or ns 3 (pos 0)) = search rules in
    let p = simp to_z-of_z at c.if-normal-lt0.false in
    let q = simp to_z-of_z at c.if-fil-lt0.false in
    let r = simp to_z-of_z at c.if-fill-lt0.false in
    let s = simp to_z-of_z at c.if-filll-lt0.false in
    let counts = (λ i. number-count (get_or ns 0 (pos 0)) p i ++ number-count (get_or ns 1 (pos 0)) q i ++ number-count (get_or ns 2 (pos 0)) r i ++ number-count (get_or ns 3 (pos 0)) s i) ∙ four-numbers ns (pos 0) c.told-stretch in
    simp to_z-of_z counts
