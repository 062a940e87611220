-- The counts of a state: how many pages were shipped, the number of the next page, and the firings since a page was shipped. A
-- run looks at them only for its limits, and at the number for the sides of marginal notes.
use Rattle.std.specs.Prelude.{◌≡◌, ◌≤◌, ℕ, ◌%◌, Bool, true}
use Rattle.tb_output.specs.State.{State}

-- the counts of a state
pub record Counts : Type 0 where
  pub page : ℕ
  pub number : ℕ
  pub dead_cycles : ℕ

-- those of this state
abbrev pub counts_of : State → Counts
counts_of s = record { page = s.page; number = s.number; dead_cycles = s.dead_cycles }

-- the state with these counts
abbrev pub with_counts : Counts → State → State
with_counts c s = record s { page = c.page; number = c.number; dead_cycles = c.dead_cycles }

-- the first counts are no greater than the second, and if marginal notes may change sides from page to page, they go to the same sides; the numbers themselves are only shown
pub record AreNoGreater (may : Bool) (c e : Counts) : Type 0 where
  pub pages : c.page ≤ e.page
  pub dead_cycles : c.dead_cycles ≤ e.dead_cycles
  pub sides : may ≡ true → (c.number % 2) ≡ (e.number % 2)
