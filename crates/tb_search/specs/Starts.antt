-- The states from which the search goes on, as rows of a table.
use Rattle.std.specs.Prelude.{◌≡◌, ◌⊎◌, false, ℕ, suc, ◌+◌, ◌<◌, ◌≤◌, ℤ, pos, ◌≤ℤ◌, Some, List, [], ◌∷◌, ◌++◌, map, length, reverse}
use Rattle.std.specs.List.{AllByRecursion}
use Rattle.std.specs.declared.alloc.Global.{Global}
use Rattle.std.specs.declared.vec.Vec.{Vec}
use Rattle.tb_galley.specs.declared.Galley.{Galley}
use Rattle.tb_output.specs.State.{State}
use Rattle.tb_items.specs.Classes.{classes_of}
use Rattle.tb_plans.specs.Plans.{IsPlan}
use Rattle.tb_rate.specs.Places.{place_penalties}
use Rattle.tb_search.specs.Penalties.{IsPenalties}
use Rattle.tb_best.specs.ItemsAhead.{all_ahead}
use Rattle.tb_best.specs.Sides.{may_alternate, sides_of, KeepsSides}
use Rattle.tb_best.specs.PlanDemerits.{plan_demerits, reach_in}
use Rattle.tb_best.specs.ClosedTables.{Row, Reaches}
use Rattle.tb_search.specs.declared.table.Way.{Way}
use Rattle.tb_search.specs.declared.table.Start.{Start}
use Rattle.tb_search.specs.declared.table.Table.{Table}
use Rattle.tb_search.specs.Branches.{shown, IsBranch}
use Rattle.tb_search.specs.FilledBranches.{IsRefused}
use Rattle.tb_search.specs.AheadInCode.{items_ahead, HasAhead}
use Rattle.tb_search.specs.PlainStarts.{PlainIfSet}

-- a state with so many items ahead, reached in this way, as a row
abbrev pub row_of : Galley → ℕ → Start → Row
row_of g left x = record { state = shown x.branch; ahead = items_ahead g left; demerits = x.way.demerits; breaks = reverse x.way.breaks.items }

-- the rows of all states that wait; the first of these lists has so many items ahead
abbrev pub rows_from : Galley → ℕ → List (Vec Start Global) → List Row
rows_from g left [] = []
rows_from g left (v ∷ vs) = map (row_of g left) v.items ++ rows_from g (suc left) vs

-- the rows of a table
abbrev pub rows_of : Table → List Row
rows_of t = rows_from t.galley.now 0 t.starts.items

-- a state between two pages with so many items of the galley ahead, reached in its way
pub record IsReached (g : Galley) (left : ℕ) (x : Start) : Type 0 where
  pub branch : IsBranch x.branch
  pub ahead : HasAhead g x.branch.ahead (items_ahead g left)
  pub classes : (shown x.branch).classes ≡ classes_of g
  pub sides : KeepsSides (sides_of g) (shown x.branch)
  pub reached : Reaches g (shown x.branch) (items_ahead g left) x.way.demerits (reverse x.way.breaks.items)
  pub low : pos 0 ≤ℤ x.way.demerits
  pub plain : PlainIfSet g left x.branch

-- no page fires in a state, so items may be taken, or from it no run goes on
abbrev pub MayTake : State → Type 0
MayTake s = ((reach_in s).fires ≡ false) ⊎ IsRefused s

-- a state between two pages in which no page fires, or from which no run goes on, with so many items of the galley ahead, reached in its way
pub record IsStart (g : Galley) (bound : ℤ) (left : ℕ) (x : Start) : Type 0 where
  pub branch : IsBranch x.branch
  pub ahead : HasAhead g x.branch.ahead (items_ahead g left)
  pub classes : (shown x.branch).classes ≡ classes_of g
  pub sides : KeepsSides (sides_of g) (shown x.branch)
  pub some : 0 < left
  pub quiet : MayTake (shown x.branch)
  pub reached : Reaches g (shown x.branch) (items_ahead g left) x.way.demerits (reverse x.way.breaks.items)
  pub low : pos 0 ≤ℤ x.way.demerits
  pub plain : PlainIfSet g left x.branch
  pub high : x.way.demerits ≤ℤ bound

-- so are all states that wait
abbrev pub AreStarts : Galley → ℤ → ℕ → List (Vec Start Global) → Type 0
AreStarts g bound left [] = Unit {0}
AreStarts g bound left (v ∷ vs) = AllByRecursion (IsStart g bound left) v.items × AreStarts g bound (suc left) vs

-- a way that is a plan of the galley, with its demerits
pub record IsRated (g : Galley) (w : Way) : Type 0 where
  pub is_plan : IsPlan g w.breaks.items
  pub sum : plan_demerits g w.breaks.items ≡ Some w.demerits

-- a table of the search: what it says of the galley is true, its states can be gone on from, and its best way is a plan
pub record IsTable (t : Table) : Type 0 where
  pub fit : IsPenalties t.penalties
  pub range : t.bound ≤ℤ pos 1000000000000000000000000000
  pub penalties : t.penalties.places.items ≡ place_penalties t.galley.now.items
  pub places : t.is_place.items ≡ map (λ c. c.is_place) (all_ahead t.galley.now)
  pub alternate : t.may_alternate ≡ may_alternate t.galley.now
  pub few : length (all_ahead t.galley.now) ≤ 4294967296
  pub levels : length t.starts.items ≤ length (all_ahead t.galley.now) + 1
  pub starts : AreStarts t.galley.now t.bound 0 t.starts.items
  pub best : IsRated t.galley.now t.best
  pub bounded : t.best.demerits ≤ℤ pos 1000000000000000000000000000
