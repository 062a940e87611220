-- A rating changes nothing, and the demerits of a run are those of its ratings.
use Rattle.std.proofs.Common.{◌≡◌, refl, ap, ◌∙◌, ℕ, zero, suc, pos, Bool, true, false, List, [], ◌∷◌, ◌++◌, map, Option, Some, None, append-nil}
use Rattle.std.specs.Prelude.{int_lt, if◌then◌else◌}
use Rattle.tb_galley.specs.declared.Galley.{Galley}
use Rattle.tb_output.specs.State.{State}
use Rattle.tb_items.specs.RunEvents.{RunEvent}
use Rattle.tb_steps.specs.Run.{End, node_limit, Step, ends, goes_on, step, step_events, Run, run_by, run_from, run_of, firings_left, held_count}
use Rattle.tb_rate.specs.declared.Rating.{Rating}
use Rattle.tb_rate.specs.declared.PlacePenalty.{PlacePenalty}
use Rattle.tb_rate.specs.Places.{place_penalties}
use Rattle.tb_rate.specs.RatedRun.{Rated, happens, rates, if_rated, step_rating, step_rated, rated_after, rated_from, start_of, rated_run, happened_among}

happened-append : (xs ys : List Rated) → happened_among (xs ++ ys) ≡ happened_among xs ++ happened_among ys
happened-append [] ys = refl
happened-append (happens e ∷ xs) ys = ap (λ es. e ∷ es) (happened-append xs ys)
happened-append (rates r ∷ xs) ys = happened-append xs ys

happened-all : (es : List RunEvent) → happened_among (map (λ e. happens e) es) ≡ es
happened-all [] = refl
happened-all (e ∷ es) = ap (λ fs. e ∷ fs) (happened-all es)

happened-rating : (o : Option Rating) → happened_among (if_rated o) ≡ []
happened-rating None = refl
happened-rating (Some r) = refl

step-happens : (places : List PlacePenalty) (s : State) → happened_among (step_rated places s) ≡ step_events (step s)
step-happens places s =
    happened-append (map (λ e. happens e) (step_events (step s))) (if_rated (step_rating places s))
    ∙ ap (λ es. es ++ happened_among (if_rated (step_rating places s))) (happened-all (step_events (step s)))
    ∙ ap (λ es. step_events (step s) ++ es) (happened-rating (step_rating places s))
    ∙ append-nil (step_events (step s))

run-step : (later : State → Run) (shown : State → List Rated) (x : Step) → ((s : State) → happened_among (shown s) ≡ (later s).events) → step_events x ++ happened_among (rated_after shown x) ≡ (run_by later x).events
run-step later shown (ends es rs e) is = append-nil es
run-step later shown (goes_on es rs s) is = ap (λ fs. es ++ fs) (is s)

from-happens : (places : List PlacePenalty) (fuel : ℕ) (s : State) → happened_among (rated_from places fuel s) ≡ (run_from fuel s).events
unfolding rated_from run_from
from-happens places zero s = refl
from-happens places (suc fuel) s =
    happened-append (step_rated places s) (rated_after (λ t. rated_from places fuel t) (step s))
    ∙ ap (λ es. es ++ happened_among (rated_after (λ t. rated_from places fuel t) (step s))) (step-happens places s)
    ∙ run-step (λ t. run_from fuel t) (λ t. rated_from places fuel t) (step s) (λ t. from-happens places fuel t)

limit-by : (over : Bool) (shown : List Rated) (run : Run) (e : End) → happened_among shown ≡ run.events → happened_among (if over then [] else shown) ≡ (if over then record { events = []; records = []; end = e } else run).events
limit-by true shown run e is = refl
limit-by false shown run e is = is

-- without the ratings, what is shown of the run of a galley are the events of that run
pub run-happens : (g : Galley) → happened_among (rated_run g) ≡ (run_of g).events
unfolding rated_run run_of
run-happens g =
    let s = start_of g in
    limit-by (int_lt g.params.maxnodes (pos (held_count s))) (rated_from (place_penalties g.items) (suc (firings_left s)) s) (run_from (suc (firings_left s)) s) (node_limit (held_count s))
    (from-happens (place_penalties g.items) (suc (firings_left s)) s)
