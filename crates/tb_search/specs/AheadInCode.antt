-- The items that a state of the search has ahead in code, against those of the definition.
use Rattle.std.specs.Prelude.{◌≡◌, ℕ, ◌-◌, List, [], length, drop, Option, Some, None}
use Rattle.tb_galley.specs.declared.Galley.{Galley}
use Rattle.tb_items.specs.declared.items_left.ItemsLeft.{ItemsLeft}
use Rattle.tb_plans.specs.declared.walk.Before.{Before}
use Rattle.tb_best.specs.ItemsAhead.{Ahead, last_ahead, ahead_from, all_ahead}

-- the last so many of the items of a galley, the clear at the end counted as one
abbrev pub items_ahead : Galley → ℕ → List Ahead
items_ahead g left = drop (length (all_ahead g) - left) (all_ahead g)

-- these items, each with its nodes, are those that are left in code
pub record IsAt (g : Galley) (l : ItemsLeft) (cs : List Ahead) : Type 0 where
  pub number : ℕ
  pub before : Before
  pub galley : l.galley.now ≡ g
  pub ahead : cs ≡ ahead_from g.params l.params (last_ahead g) l.two before number l.items.now

-- the same; none are left if there are none
abbrev pub HasAhead : Galley → Option ItemsLeft → List Ahead → Type 0
HasAhead g None cs = cs ≡ []
HasAhead g (Some l) cs = IsAt g l cs
