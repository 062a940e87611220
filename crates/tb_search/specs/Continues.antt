-- A table after a part of the search, against that before.
use Rattle.std.specs.Prelude.{◌≡◌, ◌≤◌, true, ℕ, ℤ, pos, ◌+ℤ◌, ◌≤ℤ◌, List, [], ◌∷◌, ◌++◌, length, reverse}
use Rattle.tb_galley.specs.declared.Galley.{Galley}
use Rattle.tb_builder.specs.Reach.{holds_box}
use Rattle.tb_output.specs.State.{State}
use Rattle.tb_best.specs.ItemsAhead.{Ahead, forced, state_with}
use Rattle.tb_best.specs.ClosedTables.{Row, rows_know, IsNoBetter}
use Rattle.tb_search.specs.declared.table.Start.{Start}
use Rattle.tb_search.specs.declared.table.Table.{Table}
use Rattle.tb_search.specs.Branches.{shown}
use Rattle.tb_search.specs.AheadInCode.{items_ahead}
use Rattle.tb_search.specs.Searched.{IsSearched, IsSearchedAsGood, KnowsAsMuch}
use Rattle.tb_search.specs.Starts.{rows_of, IsReached}

-- the best way of a table is no worse than that of another
abbrev pub IsNoWorse : Table → Table → Type 0
IsNoWorse t u = IsNoBetter u.best.demerits (reverse u.best.breaks.items) t.best.demerits (reverse t.best.breaks.items)

-- all is searched from this state, up to the rows that wait in the table and to the best way that it has
abbrev pub IsSearchedBy : Table → State → List Ahead → ℤ → List ℕ → Type 0
IsSearchedBy t = IsSearched t.galley.now t.bound t.best.demerits (reverse t.best.breaks.items) (rows_of t)

-- or from one that is as good
abbrev pub IsSearchedAsGoodBy : Table → State → List Ahead → ℤ → List ℕ → Type 0
IsSearchedAsGoodBy t = IsSearchedAsGood t.galley.now t.bound t.best.demerits (reverse t.best.breaks.items) (rows_of t)

-- the second table is one of the same galley with the same bound and no worse a best way
pub record IsLater (t u : Table) : Type 0 where
  pub galley : u.galley ≡ t.galley
  pub bound : u.bound ≡ t.bound
  pub better : IsNoWorse t u

-- and it knows what the first knows, or states that are as good
pub record Continues (t u : Table) : Type 0 where
  pub later : IsLater t u
  pub levels : length u.starts.items ≡ length t.starts.items
  pub more : KnowsAsMuch t.galley.now (rows_of t) (rows_of u)

-- and it has searched the ways from these rows
pub record HasSearched (rows : List Row) (t u : Table) : Type 0 where
  pub later : IsLater t u
  pub all : (s : State) (cs : List Ahead) (d : ℤ) (breaks : List ℕ) → rows_know (rows ++ rows_of t) s cs d breaks → IsSearchedBy u s cs d breaks

-- this state of a table with so many items ahead is searched
abbrev pub IsSearchedFrom : Galley → ℕ → Start → Table → Type 0
IsSearchedFrom g left x u = IsSearchedBy u (shown x.branch) (items_ahead g left) x.way.demerits (reverse x.way.breaks.items)

-- items were taken from the first state to the second, and the table went on from the first to the second: if the second state is searched later, so is the first
pub record IsTakenOn (t : Table) (left : ℕ) (x : Start) (u : Table) (behind : ℕ) (y : Start) : Type 0 where
  pub searched : HasSearched [] t u
  pub levels : length u.starts.items ≡ length t.starts.items
  pub reached : IsReached u.galley.now behind y
  pub below : behind ≤ left
  pub high : y.way.demerits ≤ℤ u.bound
  pub back : (v : Table) → HasSearched [] u v → IsSearchedFrom u.galley.now behind y v → IsSearchedFrom t.galley.now left x v

-- the ways on which a break is put in before the first of these items are searched
abbrev pub IsCutSearched : Table → State → List Ahead → ℤ → List ℕ → Type 0
IsCutSearched u s [] d breaks = Unit {0}
IsCutSearched u s (c ∷ cs) d breaks = c.is_place ≡ true → holds_box s.waiting ≡ true → IsSearchedBy u (state_with (forced c ∷ c.nodes) s) cs (d +ℤ pos 1000) (c.number ∷ breaks)
