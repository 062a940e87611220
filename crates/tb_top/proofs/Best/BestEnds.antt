-- If a plan has demerits, the run with its breaks ends well or at the limit on nodes.
use Rattle.std.proofs.Common.{◌≡◌, refl, sym, subst, ◌⊎◌, inl, inr, ℕ, zero, suc, ℤ, Bool, true, false, List, [], ◌∷◌, ◌++◌, map, Option, Some, None}
use Rattle.std.specs.Prelude.{pos, pred, int_lt, if◌then◌else◌}
use Rattle.tb_scaled.specs.Scaled.{awful_bad}
use Rattle.tb_param.specs.declared.Params.{Params}
use Rattle.tb_galley.specs.declared.Galley.{Galley}
use Rattle.tb_builder.specs.declared.Ask.{Ask}
use Rattle.tb_builder.specs.Reach.{Reach}
use Rattle.tb_builder.specs.FiredPages.{fired_of}
use Rattle.tb_output.specs.State.{State, Work, Recorded, emptied}
use Rattle.tb_output.specs.Output.{out}
use Rattle.tb_items.specs.RunEvents.{RunEvent, sent}
use Rattle.tb_steps.specs.Run.{End, Run, run_by, run_from, run_of, done, pool_full, dead_cycles, page_limit, node_limit, Progress, progress, Step, ends, goes_on, held_count, after_firing, fire, after_progress, step, firings_left, ask_for}
use Rattle.tb_plans.specs.Plans.{with_breaks}
use Rattle.tb_rate.specs.declared.PlacePenalty.{PlacePenalty}
use Rattle.tb_rate.specs.Places.{place_penalties}
use Rattle.tb_rate.specs.RatedRun.{demerits_at, demerits_after, start_of}
use Rattle.tb_best.specs.PlanDemerits.{reach_in, unlimited_firing, unlimited_fire, unlimited_progress, unlimited_step, step_demerits, unlimited_demerits_from, unlimited_demerits, breaks_cost, plan_demerits}
use Rattle.tb_best.proofs.Paths.{no-amount, more-some}

-- the run ends well, or at the limit on nodes
abbrev pub EndsOrIsLimited : End → Type 0
EndsOrIsLimited (done left) = Unit {0}
EndsOrIsLimited (node_limit n) = Unit {0}
EndsOrIsLimited (pool_full line live) = ⊥
EndsOrIsLimited (dead_cycles n) = ⊥
EndsOrIsLimited (page_limit n) = ⊥

-- ---- a step

-- the step ends the run at the limit on nodes
abbrev IsLimited : Step → Type 0
IsLimited (ends es rs (node_limit n)) = Unit {0}
IsLimited (ends es rs (done left)) = ⊥
IsLimited (ends es rs (pool_full line live)) = ⊥
IsLimited (ends es rs (dead_cycles n)) = ⊥
IsLimited (ends es rs (page_limit n)) = ⊥
IsLimited (goes_on es rs t) = ⊥

abbrev IsSame : Step → Step → Type 0
IsSame x y = IsLimited x ⊎ (x ≡ y)

work-same : (p : Params) (es : List RunEvent) (rs : List Recorded) (w : Work) → IsSame (after_firing p es rs w) (unlimited_firing es rs w)
work-same p es rs w = by w.refused (int_lt p.maxnodes (pos (held_count w.state)))
  where
    by : (t u : Bool)
        → IsSame (if t then ends (es ++ map sent w.sent) (rs ++ w.records) (page_limit (pred w.state.page)) else (if u then ends (es ++ map sent w.sent) (rs ++ w.records) (node_limit (held_count w.state)) else goes_on (es ++ map sent w.sent) (rs ++ w.records) w.state))
        (if t then ends (es ++ map sent w.sent) (rs ++ w.records) (page_limit (pred w.state.page)) else goes_on (es ++ map sent w.sent) (rs ++ w.records) w.state)
    by true u = inr refl
    by false true = inl tt
    by false false = inr refl

either-same : (t : Bool) (x y e : Step) → IsSame x y → IsSame (if t then x else e) (if t then y else e)
either-same true x y e h = h
either-same false x y e h = inr refl

progress-same : (a : Ask) (w : Reach) (q : Progress) (o : Option (ℕ × ℕ)) → IsSame (after_progress a w q o) (unlimited_progress a w q o)
progress-same a w q (Some f) = inr refl
progress-same a w q None =
    let p = q.state.params in
    let work = out p q.state (fired_of a q.state.classes q.state.boxes w) in
    either-same w.fires (fire a w q) (unlimited_fire a w q) (ends q.events (q.records ++ emptied q.state.floats ∷ []) (done w.passed))
    (either-same (int_lt (pos q.state.dead_cycles) p.maxdeadcycles) (after_firing p q.events q.records work) (unlimited_firing q.events q.records work) (ends q.events q.records (dead_cycles q.state.dead_cycles))
    (work-same p q.events q.records work))

step-same : (s : State) → IsSame (step s) (unlimited_step s)
unfolding step unlimited_step
step-same s = let q = progress (reach_in s).reached awful_bad s in progress-same (ask_for s) (reach_in s) q q.fault

-- ---- the run

limited-ends : (later : State → Run) (x : Step) → IsLimited x → EndsOrIsLimited (run_by later x).end
limited-ends later (ends es rs (node_limit n)) h = tt
limited-ends later (ends es rs (done left)) h = absurd h
limited-ends later (ends es rs (pool_full line live)) h = absurd h
limited-ends later (ends es rs (dead_cycles n)) h = absurd h
limited-ends later (ends es rs (page_limit n)) h = absurd h
limited-ends later (goes_on es rs t) h = absurd h

end-of : (e : End) (d : ℤ) → demerits_at e ≡ Some d → EndsOrIsLimited e
end-of (done left) d h = tt
end-of (node_limit n) d h = tt
end-of (pool_full line live) d h = absurd (no-amount h)
end-of (dead_cycles n) d h = absurd (no-amount h)
end-of (page_limit n) d h = absurd (no-amount h)

step-ends : (later : State → Run) (f : State → Option ℤ) (r d : ℤ) (x : Step) → ((t : State) (e : ℤ) → f t ≡ Some e → EndsOrIsLimited (later t).end) → demerits_after f r x ≡ Some d → EndsOrIsLimited (run_by later x).end
step-ends later f r d (ends es rs e) is h = end-of e d h
step-ends later f r d (goes_on es rs t) is h = let parts = more-some r (f t) d h in is t parts.0 parts.1

same-ends : (later : State → Run) (f : State → Option ℤ) (r d : ℤ) (x y : Step) → ((t : State) (e : ℤ) → f t ≡ Some e → EndsOrIsLimited (later t).end) → IsSame x y → demerits_after f r y ≡ Some d → EndsOrIsLimited (run_by later x).end
same-ends later f r d x y is (inl limited) h = limited-ends later x limited
same-ends later f r d x y is (inr same) h = subst (λ z. EndsOrIsLimited (run_by later z).end) (sym same) (step-ends later f r d y is h)

from-ends : (places : List PlacePenalty) (k : ℕ) (s : State) (d : ℤ) → unlimited_demerits_from places k s ≡ Some d → EndsOrIsLimited (run_from k s).end
unfolding run_from unlimited_demerits_from
from-ends places zero s d h = absurd (no-amount h)
from-ends places (suc k) s d h =
    same-ends (λ t. run_from k t) (λ t. unlimited_demerits_from places k t) (step_demerits places s (unlimited_step s)) d (step s) (unlimited_step s) (λ t e x. from-ends places k t e x) (step-same s) h

either-ends : (t : Bool) (n : ℕ) (r : Run) → EndsOrIsLimited r.end → EndsOrIsLimited (if t then record { events = []; records = []; end = node_limit n } else r).end
either-ends true n r h = tt
either-ends false n r h = h

galley-ends : (g : Galley) (d : ℤ) → unlimited_demerits g ≡ Some d → EndsOrIsLimited (run_of g).end
unfolding run_of unlimited_demerits
galley-ends g d h =
    let s = start_of g in
    let k = suc (firings_left s) in
    either-ends (int_lt g.params.maxnodes (pos (held_count s))) (held_count s) (run_from k s) (from-ends (place_penalties g.items) k s d h)

-- the run with the breaks of a plan that has demerits
pub plan-ends : (g : Galley) (plan : List ℕ) (d : ℤ) → plan_demerits g plan ≡ Some d → EndsOrIsLimited (run_of (with_breaks g plan)).end
unfolding plan_demerits
plan-ends g plan d h = let parts = more-some (breaks_cost plan) (unlimited_demerits (with_breaks g plan)) d h in galley-ends (with_breaks g plan) parts.0 parts.1
