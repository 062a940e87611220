use Rattle.std.proofs.Common.{◌≡◌, true, ap, FitsSigned, w64, rules}
use Rattle.std.proofs.lemmas.Int.{to_z-of_z, ints}
use Rattle.tb_scaled.specs.Scaled.{fraction_of}
use Rattle.tb_fpage.specs.Company.{wanted_of}
use Rattle.tb_why.proofs.lists.wide_wanted.Goals as goal

pub returns : goal.returns
returns c =
    let p = c.args.p.now in
    let high : FitsSigned w64 p.textheight = search (rules, ints, c.requires.columns.floats.textheight) in
    let least : FitsSigned w64 c.share_of.result = search rules in
    let sep : FitsSigned w64 p.dblfpsep.width = search (rules, ints, c.requires.columns.dblfpsep.width) in
    let share : FitsSigned w64 p.dblfloatpagefraction = search (rules, ints, c.requires.dblfloatpagefraction) in
    let minimum : c.share_of.result ≡ fraction_of p.dblfloatpagefraction p.textheight = simp to_z-of_z at c.share_of.ensures.value in
    simp to_z-of_z (ap (λ n. wanted_of p.textheight n p.dblfpsep.width c.args.clearing true) minimum)
