-- The prices of the places that were tried while a page was filled.
use Rattle.std.specs.Prelude.{◌≡◌, ◌<ℤ◌, ℕ, ℤ, List, [], ◌∷◌, ◌++◌}
use Rattle.tb_param.specs.declared.Params.{Params}
use Rattle.tb_items.specs.declared.happenings.Happening.{Happening}
use Rattle.tb_items.specs.declared.happenings.Happening.TheVariants as happenings
use Rattle.tb_rate.specs.declared.PlacePenalty.{PlacePenalty}
use Rattle.tb_best.specs.PlacePrices.{price}
use Rattle.tb_search.specs.declared.prices.Priced.{Priced}

-- the price of a place, if this is one that was tried
abbrev pub price_in : Params → List PlacePenalty → Happening → List Priced
price_in p places (happenings.Tried t) = record { line = t.line; demerits = price p places t } ∷ []
price_in p places (happenings.Sent e) = []

-- the prices of all of them
abbrev pub prices_among : Params → List PlacePenalty → List Happening → List Priced
prices_among p places [] = []
prices_among p places (h ∷ hs) = price_in p places h ++ prices_among p places hs

-- if the place is on this line, its price is above d
abbrev pub IsPriceAbove : ℕ → ℤ → Priced → Type 0
IsPriceAbove line d q = q.line ≡ line → d <ℤ q.demerits
