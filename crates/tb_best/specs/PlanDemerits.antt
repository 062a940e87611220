-- The demerits of a plan: 1000 for each of its breaks, and those of the run of the galley with its breaks. Here the number of
-- nodes that a run holds is not tested, since it counts what is still far behind.
use Rattle.std.specs.Prelude.{ℕ, zero, suc, pred, ◌*◌, ℤ, pos, ◌++◌, List, [], ◌∷◌, map, length, Option, Some, None, int_lt, if◌then◌else◌}
use Rattle.tb_scaled.specs.Scaled.{awful_bad}
use Rattle.tb_galley.specs.declared.Galley.{Galley}
use Rattle.tb_builder.specs.declared.Ask.{Ask}
use Rattle.tb_builder.specs.Reach.{Reach}
use Rattle.tb_builder.specs.FiredPages.{reach_of, fired_of}
use Rattle.tb_output.specs.State.{State, Recorded, Work, emptied}
use Rattle.tb_output.specs.Output.{out}
use Rattle.tb_items.specs.RunEvents.{RunEvent, sent}
use Rattle.tb_steps.specs.Run.{done, pool_full, dead_cycles, page_limit, Progress, progress, ask_for, Step, ends, goes_on, firings_left}
use Rattle.tb_plans.specs.Plans.{with_breaks}
use Rattle.tb_rate.specs.declared.PlacePenalty.{PlacePenalty}
use Rattle.tb_rate.specs.Places.{place_penalties}
use Rattle.tb_rate.specs.RatedRun.{rating_by, demerits_if, demerits_after, more_demerits, start_of}

-- what a state reaches with the nodes that wait
abbrev pub reach_in : State → Reach
reach_in s = reach_of (ask_for s) s.classes s.boxes [] s.waiting

-- ---- a step in which the number of nodes is not tested

-- a firing by its work: the run ends at the page limit, or goes on
abbrev pub unlimited_firing : List RunEvent → List Recorded → Work → Step
unlimited_firing es rs w = if w.refused then ends (es ++ map sent w.sent) (rs ++ w.records) (page_limit (pred w.state.page)) else goes_on (es ++ map sent w.sent) (rs ++ w.records) w.state

-- the firing of the page that is reached, which was made for this, if it is allowed
abbrev pub unlimited_fire : Ask → Reach → Progress → Step
unlimited_fire a w q =
    let fired = unlimited_firing q.events q.records (out q.state.params q.state (fired_of a q.state.classes q.state.boxes w)) in
    if int_lt (pos q.state.dead_cycles) q.state.params.maxdeadcycles then fired else ends q.events q.records (dead_cycles q.state.dead_cycles)

-- the step by the progress of its page
abbrev pub unlimited_progress : Ask → Reach → Progress → Option (ℕ × ℕ) → Step
unlimited_progress a w q None = let fired = unlimited_fire a w q in if w.fires then fired else ends q.events (q.records ++ emptied q.state.floats ∷ []) (done w.passed)
unlimited_progress a w q (Some f) = ends q.events q.records (pool_full f.0 f.1)

-- the step by what its page is made for and what is reached of it
abbrev pub unlimited_step_of : State → Ask → Reach → Step
unlimited_step_of s a w = let q = progress w.reached awful_bad s in unlimited_progress a w q q.fault

-- one step of a run: a page and its firing
unfoldable pub unlimited_step : State → Step
unlimited_step s = unlimited_step_of s (ask_for s) (reach_in s)

-- ---- the demerits

-- the demerits of a step from a state
abbrev pub step_demerits : List PlacePenalty → State → Step → ℤ
step_demerits places s x = demerits_if (rating_by places s x)

-- the demerits of the columns of a run from a state, with as much fuel as the run; none if the run does not end well
unfoldable pub unlimited_demerits_from : List PlacePenalty → ℕ → State → Option ℤ
unlimited_demerits_from places zero s = None
unlimited_demerits_from places (suc fuel) s =
    demerits_after (λ t. unlimited_demerits_from places fuel t) (step_demerits places s (unlimited_step s)) (unlimited_step s)

-- the demerits of the pages of a galley; none if its run does not end well
unfoldable pub unlimited_demerits : Galley → Option ℤ
unlimited_demerits g = unlimited_demerits_from (place_penalties g.items) (suc (firings_left (start_of g))) (start_of g)

-- what the breaks of a plan cost
abbrev pub breaks_cost : List ℕ → ℤ
breaks_cost plan = pos (1000 * length plan)

-- the demerits of a plan of a galley; none if the run with its breaks does not end well
unfoldable pub plan_demerits : Galley → List ℕ → Option ℤ
plan_demerits g plan = more_demerits (breaks_cost plan) (unlimited_demerits (with_breaks g plan))
