use Rattle.std.proofs.Common.{subst, arith}
use Rattle.std.specs.Int.{w128}
use Rattle.std.specs.List.{AllByRecursion}
use Rattle.std.proofs.lemmas.Int.{to_z-of_z}
use Rattle.tb_search.specs.Prices.{IsPriceAbove}
use Rattle.tb_search.proofs.SumLemmas.{held}
use Rattle.tb_search.proofs.ToldLemmas.{all-walked}
use Rattle.tb_search.proofs.prices.are_above.Goals as goal

pub returns : goal.returns
returns c _ =
    let done = c.loop-price-test.false in
    let most = held c.args.most in
    subst (λ m. AllByRecursion (IsPriceAbove c.args.line m) c.args.prices.now) (to_z-of_z w128 c.args.most c.ranges.most)
    (all-walked (IsPriceAbove c.args.line most) c.args.prices.now c.loop-price.price-index (omega (arith, done)) c.loop-price.invariant)
