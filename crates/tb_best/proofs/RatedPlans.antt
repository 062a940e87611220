-- A run that does not meet the limit on nodes is the same without that limit.
use Rattle.std.proofs.Common.{◌≡◌, refl, sym, ◌∙◌, ap, subst, ◌⊎◌, inl, inr, ℕ, zero, suc, ℤ, Bool, true, false, List, [], ◌∷◌, ◌++◌, map, Option, Some, None, arith}
use Rattle.std.specs.Prelude.{pos, pred, int_lt, ◌+ℤ◌, ◌≤ℤ◌, if◌then◌else◌}
use Rattle.std.proofs.lemmas.Int.{ints}
use Rattle.tb_scaled.specs.Scaled.{awful_bad}
use Rattle.tb_node.specs.PlainNodes.{PlainNode}
use Rattle.tb_param.specs.declared.Params.{Params}
use Rattle.tb_galley.specs.declared.Galley.{Galley}
use Rattle.tb_builder.specs.declared.Ask.{Ask}
use Rattle.tb_builder.specs.Reach.{Reach}
use Rattle.tb_builder.specs.FiredPages.{fired_of}
use Rattle.tb_output.specs.State.{State, Work, Recorded, emptied}
use Rattle.tb_output.specs.Output.{out}
use Rattle.tb_items.specs.RunEvents.{RunEvent, sent}
use Rattle.tb_steps.specs.Run.{End, Run, run_by, run_from, run_of, done, pool_full, dead_cycles, page_limit, node_limit, Progress, progress, Step, ends, goes_on, held_count, after_firing, fire, after_progress, step, firings_left, ask_for}
use Rattle.tb_plans.specs.Plans.{with_breaks}
use Rattle.tb_rate.specs.declared.PlacePenalty.{PlacePenalty}
use Rattle.tb_rate.specs.Places.{place_penalties}
use Rattle.tb_rate.specs.RatedRun.{step_rating, demerits_if, demerits_at, demerits_after, more_demerits, demerits_from, demerits, start_of}
use Rattle.tb_best.specs.PlanDemerits.{reach_in, unlimited_firing, unlimited_fire, unlimited_progress, unlimited_step, step_demerits, unlimited_demerits_from, unlimited_demerits, breaks_cost, plan_demerits}
use Rattle.tb_best.specs.BestPlan.{IsBest, HasNoPlan}
use Rattle.tb_best.proofs.PlanMarks.{broken-none}
use Rattle.tb_best.proofs.Paths.{no-amount, more-some}

-- ---- a step

-- the step ends the run at the limit on nodes
abbrev IsLimited : Step → Type 0
IsLimited (ends es rs (node_limit n)) = Unit {0}
IsLimited (ends es rs (done left)) = ⊥
IsLimited (ends es rs (pool_full line live)) = ⊥
IsLimited (ends es rs (dead_cycles n)) = ⊥
IsLimited (ends es rs (page_limit n)) = ⊥
IsLimited (goes_on es rs t) = ⊥

abbrev IsSame : Step → Step → Type 0
IsSame x y = IsLimited x ⊎ (x ≡ y)

work-same : (p : Params) (es : List RunEvent) (rs : List Recorded) (w : Work) → IsSame (after_firing p es rs w) (unlimited_firing es rs w)
work-same p es rs w = by w.refused (int_lt p.maxnodes (pos (held_count w.state)))
  where
    by : (t u : Bool)
        → IsSame (if t then ends (es ++ map sent w.sent) (rs ++ w.records) (page_limit (pred w.state.page)) else (if u then ends (es ++ map sent w.sent) (rs ++ w.records) (node_limit (held_count w.state)) else goes_on (es ++ map sent w.sent) (rs ++ w.records) w.state))
        (if t then ends (es ++ map sent w.sent) (rs ++ w.records) (page_limit (pred w.state.page)) else goes_on (es ++ map sent w.sent) (rs ++ w.records) w.state)
    by true u = inr refl
    by false true = inl tt
    by false false = inr refl

either-same : (t : Bool) (x y e : Step) → IsSame x y → IsSame (if t then x else e) (if t then y else e)
either-same true x y e h = h
either-same false x y e h = inr refl

progress-same : (a : Ask) (w : Reach) (q : Progress) (o : Option (ℕ × ℕ)) → IsSame (after_progress a w q o) (unlimited_progress a w q o)
progress-same a w q (Some f) = inr refl
progress-same a w q None =
    let work = out q.state.params q.state (fired_of a q.state.classes q.state.boxes w) in
    either-same w.fires (fire a w q) (unlimited_fire a w q) (ends q.events (q.records ++ emptied q.state.floats ∷ []) (done w.passed))
    (either-same (int_lt (pos q.state.dead_cycles) q.state.params.maxdeadcycles) (after_firing q.state.params q.events q.records work) (unlimited_firing q.events q.records work) (ends q.events q.records (dead_cycles q.state.dead_cycles))
    (work-same q.state.params q.events q.records work))

step-same : (s : State) → IsSame (step s) (unlimited_step s)
unfolding step unlimited_step
step-same s = let q = progress (reach_in s).reached awful_bad s in progress-same (ask_for s) (reach_in s) q q.fault

-- a step that goes on is the same without the limit
same-goes-on : (x y : Step) (es : List RunEvent) (rs : List Recorded) (t : State) → x ≡ goes_on es rs t → IsSame x y → y ≡ goes_on es rs t
same-goes-on x y es rs t e (inl h) = absurd (subst IsLimited e h)
same-goes-on x y es rs t e (inr h) = sym h ∙ e

pub goes-on : (s t : State) (es : List RunEvent) (rs : List Recorded) → step s ≡ goes_on es rs t → unlimited_step s ≡ goes_on es rs t
goes-on s t es rs h = same-goes-on (step s) (unlimited_step s) es rs t h (step-same s)

same-ends : (x y : Step) (es : List RunEvent) (rs : List Recorded) (left : List PlainNode) → x ≡ ends es rs (done left) → IsSame x y → y ≡ ends es rs (done left)
same-ends x y es rs left e (inl h) = absurd (subst IsLimited e h)
same-ends x y es rs left e (inr h) = sym h ∙ e

pub ends-well : (s : State) (es : List RunEvent) (rs : List Recorded) (left : List PlainNode) → step s ≡ ends es rs (done left) → unlimited_step s ≡ ends es rs (done left)
ends-well s es rs left h = same-ends (step s) (unlimited_step s) es rs left h (step-same s)

-- ---- the run

limited-none : (later : State → Option ℤ) (r : ℤ) (x : Step) → IsLimited x → demerits_after later r x ≡ None
limited-none later r (ends es rs (node_limit n)) h = refl
limited-none later r (ends es rs (done left)) h = absurd h
limited-none later r (ends es rs (pool_full line live)) h = absurd h
limited-none later r (ends es rs (dead_cycles n)) h = absurd h
limited-none later r (ends es rs (page_limit n)) h = absurd h
limited-none later r (goes_on es rs t) h = absurd h

later-same : (f g : State → Option ℤ) (r d : ℤ) (x : Step) → ((t : State) (e : ℤ) → f t ≡ Some e → g t ≡ Some e) → demerits_after f r x ≡ Some d → demerits_after g r x ≡ Some d
later-same f g r d (ends es rs e) is h = h
later-same f g r d (goes_on es rs t) is h = let parts = more-some r (f t) d h in ap (more_demerits r) (is t parts.0 parts.1) ∙ ap Some parts.2

by-same : (places : List PlacePenalty) (s : State) (f g : State → Option ℤ) (d : ℤ) (x y : Step) → ((t : State) (e : ℤ) → f t ≡ Some e → g t ≡ Some e) → IsSame x y
    → demerits_after f (step_demerits places s x) x ≡ Some d → demerits_after g (step_demerits places s y) y ≡ Some d
by-same places s f g d x y is (inl h) e = absurd (no-amount (sym (limited-none f (step_demerits places s x) x h) ∙ e))
by-same places s f g d x y is (inr h) e = subst (λ z. demerits_after g (step_demerits places s z) z ≡ Some d) h (later-same f g (step_demerits places s x) d x is e)

from-same : (places : List PlacePenalty) (k : ℕ) (s : State) (d : ℤ) → demerits_from places k s ≡ Some d → unlimited_demerits_from places k s ≡ Some d
unfolding demerits_from unlimited_demerits_from
from-same places zero s d h = absurd (no-amount h)
from-same places (suc k) s d h =
    by-same places s (λ t. demerits_from places k t) (λ t. unlimited_demerits_from places k t) d (step s) (unlimited_step s) (λ t e x. from-same places k t e x) (step-same s) h

start-same : (t : Bool) (o : Option ℤ) (d : ℤ) → (if t then None else o) ≡ Some d → o ≡ Some d
start-same true o d h = absurd (no-amount h)
start-same false o d h = h

demerits-same : (g : Galley) (d : ℤ) → demerits g ≡ Some d → unlimited_demerits g ≡ Some d
unfolding demerits unlimited_demerits
demerits-same g d h =
    let s = start_of g in
    from-same (place_penalties g.items) (suc (firings_left s)) s d
    (start-same (int_lt g.params.maxnodes (pos (held_count s))) (demerits_from (place_penalties g.items) (suc (firings_left s)) s) d h)

-- a plan has the demerits of the run with its breaks, and 1000 for each break
pub plan-rated : (g : Galley) (plan : List ℕ) (d : ℤ) → demerits (with_breaks g plan) ≡ Some d → plan_demerits g plan ≡ more_demerits (breaks_cost plan) (Some d)
unfolding plan_demerits
plan-rated g plan d h = ap (more_demerits (breaks_cost plan)) (demerits-same (with_breaks g plan) d h)

-- ---- no break at all

no-breaks : (g : Galley) → with_breaks g [] ≡ g
no-breaks g = ap (λ ns. record g { items = ns }) (broken-none 0 g.items)

none-added : (d : ℤ) → (pos 0 +ℤ d) ≡ d
none-added d = omega (arith, ints)

pub never-worse : (g : Galley) (plan : List ℕ) (total d : ℤ) → IsBest g plan total → demerits g ≡ Some d → total ≤ℤ d
never-worse g plan total d best h = best.least [] d refl (plan-rated g [] d (ap demerits (no-breaks g) ∙ h) ∙ ap Some (none-added d))

-- ---- a run that ends well has demerits

-- there are demerits
abbrev HasDemerits : Option ℤ → Type 0
HasDemerits o = (d : ℤ) × (o ≡ Some d)

more-has : (r : ℤ) (o : Option ℤ) → HasDemerits o → HasDemerits (more_demerits r o)
more-has r o (d, e) = (r +ℤ d, ap (more_demerits r) e)

at-end : (e : End) (left : List PlainNode) → e ≡ done left → HasDemerits (demerits_at e)
at-end e left h = (pos 0, ap demerits_at h)

step-has : (run : State → Run) (f : State → Option ℤ) (r : ℤ) (left : List PlainNode) → ((t : State) → (run t).end ≡ done left → HasDemerits (f t)) → (x : Step) → (run_by run x).end ≡ done left → HasDemerits (demerits_after f r x)
step-has run f r left is (ends es rs e) h = at-end e left h
step-has run f r left is (goes_on es rs t) h = more-has r (f t) (is t h)

not-done : (n : ℕ) (left : List PlainNode) → dead_cycles n ≡ done left → ⊥
not-done n left h = no-amount (ap demerits_at h)

run-has : (places : List PlacePenalty) (k : ℕ) (s : State) (left : List PlainNode) → (run_from k s).end ≡ done left → HasDemerits (demerits_from places k s)
unfolding run_from demerits_from
run-has places zero s left h = absurd (not-done s.dead_cycles left h)
run-has places (suc k) s left h =
    step-has (λ t. run_from k t) (λ t. demerits_from places k t) (demerits_if (step_rating places s)) left (λ t e. run-has places k t left e) (step s) h

start-has : (t : Bool) (n : ℕ) (run : Run) (o : Option ℤ) (left : List PlainNode) → (run.end ≡ done left → HasDemerits o) → (if t then record { events = []; records = []; end = node_limit n } else run).end ≡ done left
    → HasDemerits (if t then None else o)
start-has true n run o left is h = absurd (no-amount (ap demerits_at h))
start-has false n run o left is h = is h

done-has : (g : Galley) (left : List PlainNode) → (run_of g).end ≡ done left → HasDemerits (demerits g)
unfolding run_of demerits
done-has g left h =
    let s = start_of g in
    let k = suc (firings_left s) in
    start-has (int_lt g.params.maxnodes (pos (held_count s))) (held_count s) (run_from k s) (demerits_from (place_penalties g.items) k s) left (λ e. run-has (place_penalties g.items) k s left e) h

-- if the run of a galley ends well, no break at all is a plan with demerits
pub none-is-plan : (g : Galley) (left : List PlainNode) → (run_of g).end ≡ done left → HasNoPlan g → ⊥
none-is-plan g left h none =
    let d = done-has g left h in
    none [] (pos 0 +ℤ d.0) refl (plan-rated g [] d.0 (ap demerits (no-breaks g) ∙ d.1))
