-- The penalties at the places of a galley, found by their lines.
use Rattle.std.specs.Prelude.{◌≡◌, ◌≤◌, true, ℕ, suc, List, [], ◌∷◌, Option, Some, None}
use Rattle.std.specs.List.{AllByRecursion}
use Rattle.tb_builder.specs.declared.Try.{Try}
use Rattle.tb_galley.specs.declared.Item.{Item}
use Rattle.tb_rate.specs.declared.PlacePenalty.{PlacePenalty}
use Rattle.tb_rate.specs.Places.{own_penalty, place_penalties, IsMildPlace}
use Rattle.tb_search.specs.declared.penalties.Penalties.{Penalties}

-- the lines of these places rise, the first from n on
abbrev pub RiseFrom : ℕ → List PlacePenalty → Type 0
RiseFrom n [] = Unit {0}
RiseFrom n (q ∷ qs) = (n ≤ q.line) × RiseFrom (suc q.line) qs

-- penalties that neither force a break nor forbid one, and whose lines rise if they are said to
pub record IsPenalties (p : Penalties) : Type 0 where
  pub mild : AllByRecursion IsMildPlace p.places.items
  pub rise : p.rise ≡ true → RiseFrom 0 p.places.items

-- they are those of these items
pub record ArePenaltiesOf (is : List Item) (p : Penalties) : Type 0 where
  pub fit : IsPenalties p
  pub places : p.places.items ≡ place_penalties is

-- the line of a place; 0 if there is none
abbrev pub line_of : Option Try → ℕ
line_of None = 0
line_of (Some t) = t.line

-- some of them, by which the penalty on a line is what it is by all
pub record SayTheSame (p : Penalties) (line : ℕ) (qs : List PlacePenalty) : Type 0 where
  pub mild : AllByRecursion IsMildPlace qs
  pub same : own_penalty qs line ≡ own_penalty p.places.items line
