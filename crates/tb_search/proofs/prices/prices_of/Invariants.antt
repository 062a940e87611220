use Rattle.std.proofs.Common.{◌≡◌, ◌++◌, drop}
use Rattle.tb_search.specs.Prices.{prices_among}
use Rattle.tb_search.proofs.prices.prices_of.Given as goal

-- with the prices from here on they are all
abbrev pub invariant-loop-happening : goal.invariant-loop-happening
invariant-loop-happening l = record {
  all : l.prices.items ++ prices_among l.fn.params l.fn.places.places.items (drop l.happening-index l.happened) ≡ prices_among l.fn.params l.fn.places.places.items l.fn.happened;
}
