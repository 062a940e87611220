-- States that are kept in a table of the search.
use Rattle.std.specs.Prelude.{◌≡◌, ◌⊎◌, ◌<◌, Bool, ℕ, List, length, reverse, slice_index_or}
use Rattle.tb_output.specs.State.{State}
use Rattle.tb_best.specs.ClosedTables.{rows_know, KnowsAsGood, IsNoBetter}
use Rattle.tb_best.specs.Counts.{counts_of, AreNoGreater}
use Rattle.tb_search.specs.declared.table.Way.{Way}
use Rattle.tb_search.specs.declared.table.Start.{Start}
use Rattle.tb_search.specs.declared.table.Table.{Table}
use Rattle.tb_search.specs.Branches.{shown}
use Rattle.tb_search.specs.SameStates.{without_counts}
use Rattle.tb_search.specs.AheadInCode.{items_ahead}
use Rattle.tb_search.specs.Starts.{rows_of}

-- the first way is no worse than the second
abbrev pub IsNoWorseWay : Way → Way → Type 0
IsNoWorseWay w v = IsNoBetter w.demerits (reverse w.breaks.items) v.demerits (reverse v.breaks.items)

-- one of the two ways, which is no worse than either of them
pub record IsBetterOf (v w kept : Way) : Type 0 where
  pub one : (kept ≡ v) ⊎ (kept ≡ w)
  pub first : IsNoWorseWay kept v
  pub second : IsNoWorseWay kept w

-- the first state may stand for the second: they are the same but for the left column, its counts are no greater, and its way is no worse; if marginal notes may change sides from page to page, they go to the same sides
pub record MayStandFor (may : Bool) (x y : Start) : Type 0 where
  pub same : without_counts (shown x.branch) ≡ without_counts (shown y.branch)
  pub counts : AreNoGreater may (counts_of (shown x.branch)) (counts_of (shown y.branch))
  pub way : IsNoWorseWay x.way y.way

-- this one of the states may stand for the given one
pub record StandsAt (may : Bool) (starts : List Start) (k : ℕ) (x : Start) : Type 0 where
  pub inside : k < length starts
  pub stands : (d : Start) → MayStandFor may (slice_index_or starts k d) x

-- the given one may stand for this one of the states
pub record IsNeedlessAt (may : Bool) (starts : List Start) (k : ℕ) (x : Start) : Type 0 where
  pub inside : k < length starts
  pub stands : (d : Start) → MayStandFor may x (slice_index_or starts k d)

-- the table has a row with this state and so many items ahead, reached in a way that is no worse
abbrev pub HasRow : Table → ℕ → State → Way → Type 0
HasRow t left s w = rows_know (rows_of t) s (items_ahead t.galley.now left) w.demerits (reverse w.breaks.items)

-- or with one that is as good
abbrev pub HasRowAsGood : Table → ℕ → State → Way → Type 0
HasRowAsGood t left s w = KnowsAsGood t.galley.now (rows_know (rows_of t)) s (items_ahead t.galley.now left) w.demerits (reverse w.breaks.items)
