-- The penalties of places neither force a break nor forbid one.
use Rattle.std.proofs.Common.{◌≡◌, refl, ℕ, ℤ, pos, Bool, true, false, List, [], ◌∷◌, ◌++◌, Option, Some, None, arith}
use Rattle.std.specs.Prelude.{negsuc, ◌<ℤ◌, if◌then◌else◌}
use Rattle.std.specs.List.{AllByRecursion}
use Rattle.std.proofs.lemmas.Int.{ints}
use Rattle.tb_galley.specs.declared.Item.{Item}
use Rattle.tb_rate.specs.declared.PlacePenalty.{PlacePenalty}
use Rattle.tb_rate.specs.Places.{item_penalty, is_mild, place_by, places_among, place_penalties, IsMildPlace}

mild-low : (v : ℤ) → is_mild v ≡ true → negsuc 9999 <ℤ v
mild-low v e = grind (arith, ints)

mild-high : (v : ℤ) → is_mild v ≡ true → v <ℤ pos 10000
mild-high v e = grind (arith, ints)

mild-before : (line : ℕ) (v : ℤ) (t : Bool) → is_mild v ≡ t → (rest : List PlacePenalty) → AllByRecursion IsMildPlace rest
    → AllByRecursion IsMildPlace ((if t then (let q : PlacePenalty = record { line = line; penalty = v } in q) ∷ [] else []) ++ rest)
mild-before line v true e rest h = (record { low = mild-low v e; high = mild-high v e }, h)
mild-before line v false e rest h = h

mild-by : (line : ℕ) (o : Option ℤ) (rest : List PlacePenalty) → AllByRecursion IsMildPlace rest → AllByRecursion IsMildPlace (place_by line o ++ rest)
mild-by line None rest h = h
mild-by line (Some v) rest h = mild-before line v (is_mild v) refl rest h

pub mild-among : (is : List Item) → AllByRecursion IsMildPlace (places_among is)
mild-among [] = tt
mild-among (i ∷ is) = mild-by i.line (item_penalty i.kind) (places_among is) (mild-among is)

pub mild-places : (is : List Item) → AllByRecursion IsMildPlace (place_penalties is)
mild-places [] = tt
mild-places (i ∷ is) = mild-among is
