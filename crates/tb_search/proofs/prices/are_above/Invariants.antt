use Rattle.tb_search.specs.Prices.{IsPriceAbove}
use Rattle.tb_search.proofs.ToldLemmas.{AllIfRest}
use Rattle.tb_search.proofs.prices.are_above.Given as goal

-- all are above if those from here on are
abbrev pub invariant-loop-price : goal.invariant-loop-price
invariant-loop-price l = AllIfRest (IsPriceAbove l.line l.most) l.price-index l.prices
