use Rattle.std.proofs.Common.{inl, inr, FitsSigned, w64, arith, rules}
use Rattle.std.proofs.lemmas.Int.{ints}
use Rattle.tb_fpage.proofs.walk.Walk.is_over.Goals as goal

pub returns-then-is_full : goal.returns-then-is_full
returns-then-is_full c = λ _. inl (λ fs all h left. c.is_full.ensures.all c.if-is_full.true fs all h left)

pub returns : goal.returns
returns c = λ t.
    let fits_sep : FitsSigned w64 c.args.wanted.now.sep = search rules in
    let fits_most : FitsSigned w64 c.args.wanted.now.height = search rules in
    let fits_least : FitsSigned w64 c.args.least = search rules in
    inr (omega (arith, ints, t))
