use Rattle.std.proofs.Common.{◌≡◌, false, ap, ◌∙◌, FitsSigned, w64, rules}
use Rattle.std.proofs.lemmas.Int.{to_z-of_z, ints}
use Rattle.tb_scaled.specs.Scaled.{fraction_of}
use Rattle.tb_fpage.specs.Company.{wanted_of}
use Rattle.tb_float.specs.Rooms.{column_height_of}
use Rattle.tb_why.proofs.lists.single_wanted.Goals as goal

pub returns : goal.returns
returns c =
    let p = c.args.p.now in
    let h = c.column_height-height.result in
    let height : h ≡ column_height_of p c.args.pool.now.lists = c.column_height-height.ensures.value in
    let high : FitsSigned w64 h = search rules in
    let least : FitsSigned w64 c.share_of.result = search rules in
    let sep : FitsSigned w64 p.fpsep.width = search (rules, ints, c.requires.columns.fpsep.width) in
    let share : FitsSigned w64 p.floatpagefraction = search (rules, ints, c.requires.floatpagefraction) in
    let minimum : c.share_of.result ≡ fraction_of p.floatpagefraction h = simp to_z-of_z at c.share_of.ensures.value in
    simp to_z-of_z (ap (λ n. wanted_of h n p.fpsep.width c.args.clearing false) minimum ∙ ap (λ n. wanted_of n (fraction_of p.floatpagefraction n) p.fpsep.width c.args.clearing false) height)
