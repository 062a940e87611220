-- What holds of the pages of a galley whatever page breaks are put into it: each law speaks of the galley without them.
use Rattle.std.specs.Prelude.{ℕ, false, nat_le, IsTrue, List}
use Rattle.tb_galley.specs.declared.Galley.{Galley}
use Rattle.tb_galley.specs.Valid.{IsValid, weight, behind_nothing, do_items_stand}
use Rattle.tb_steps.specs.Run.{run_of}
use Rattle.tb_laws.specs.Totals.{totals_of}
use Rattle.tb_laws.specs.Laws.{ShipsOnce, HasTotals, KeepsClassOrder, WithinLimits, EndsDone, taken_floats}
use Rattle.tb_plans.specs.Plans.{IsPlan, with_breaks}

-- the galley with the breaks has no more items than a galley may have
abbrev pub FewItems : Galley → List ℕ → Type 0
FewItems g plan = IsTrue (nat_le (weight (with_breaks g plan).items) 100000)

-- no break stands between a clear or a change of columns and what must stand directly behind it: a title, or a measure that is set
abbrev pub ItemsStand : Galley → List ℕ → Type 0
ItemsStand g plan = IsTrue (do_items_stand behind_nothing (with_breaks g plan).items)

-- the galley may have the breaks: its items are not too many then, and its titles and the parameters that its items set stand where they may
abbrev pub TakesBreaks : Galley → List ℕ → Type 0
TakesBreaks g plan = FewItems g plan × ItemsStand g plan

-- a plan leaves the titles and the parameters that items set where they may stand
abbrev pub PlansKeepOrder : Type 0
PlansKeepOrder = (g : Galley) (plan : List ℕ) → IsValid g → IsPlan g plan → ItemsStand g plan

-- it is valid where the galley is
abbrev pub BreaksKeepValid : Type 0
BreaksKeepValid = (g : Galley) (plan : List ℕ) → IsValid g → TakesBreaks g plan → IsValid (with_breaks g plan)

-- each box, rule, float and note of the galley ships once, and its text in order
abbrev pub BreaksShipOnce : Type 0
BreaksShipOnce = (g : Galley) (plan : List ℕ) → IsValid g → TakesBreaks g plan → EndsDone (run_of (with_breaks g plan)).end → ShipsOnce g (run_of (with_breaks g plan))

-- the totals are those of the galley
abbrev pub BreaksKeepTotals : Type 0
BreaksKeepTotals = (g : Galley) (plan : List ℕ) → IsValid g → TakesBreaks g plan → EndsDone (run_of (with_breaks g plan)).end → HasTotals g (totals_of (run_of (with_breaks g plan)).events)

-- the galley's floats of one class keep their order
abbrev pub BreaksKeepOrder : Type 0
BreaksKeepOrder = (g : Galley) (plan : List ℕ) → IsValid g → TakesBreaks g plan → EndsDone (run_of (with_breaks g plan)).end → KeepsClassOrder g.params (run_of (with_breaks g plan)) (taken_floats false g.items)

-- no area takes a float past its limits
abbrev pub BreaksKeepLimits : Type 0
BreaksKeepLimits = (g : Galley) (plan : List ℕ) → WithinLimits (run_of (with_breaks g plan))
