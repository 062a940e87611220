-- A turn of the routine is a step of the run.
use Rattle.std.proofs.Common.{◌≡◌, sym, subst, ◌∙◌, ap, ◌<◌, ◌≤◌, Bool, List, Option, None, refl}
use Rattle.tb_output.specs.State.{State}
use Rattle.tb_items.specs.declared.happenings.Happening.{Happening}
use Rattle.tb_run.specs.declared.routine.Routine.{Routine}
use Rattle.tb_run.specs.declared.routine.Ending.{Ending}
use Rattle.tb_steps.specs.Run.{Step, ends, goes_on, step, firings_left, step_events}
use Rattle.tb_items.specs.Happenings.{events_of, noted}
use Rattle.tb_run.specs.Routine.{state_of, EndsAs, IsTurned}
use Rattle.tb_top.proofs.Written.GoingLemmas.{steps}

-- what a turn came to is the next step from a state: what happened in it, and how the run ended
pub record ShowsStep (wanted : Bool) (s : State) (q : Routine) (hs : List Happening) (o : Option Ending) : Type 0 where
  pub events : events_of q.store hs ≡ noted wanted (step_events (step s))
  pub ended : EndsAs q o (step s)

-- a turn of a routine
pub shows-step : (t wanted : Bool) (r q : Routine) (hs : List Happening) (o : Option Ending) → t ≡ wanted → IsTurned t r hs o q → ShowsStep wanted (state_of r) q hs o
shows-step t wanted r q hs o same turned = record {
  events = turned.events ∙ ap (λ b. noted b (step_events (step (state_of r)))) same;
  ended = turned.ended;
}

module _ (s : State) (q : Routine) (page : 1 ≤ s.page) where
  fewer-by-step : (st : Step) → step s ≡ st → EndsAs q None st → firings_left (state_of q) < firings_left s
  fewer-by-step (ends es rs e) is h = absurd h
  fewer-by-step (goes_on es rs u) is h = subst (λ x. firings_left x < firings_left s) (sym h) (steps s u es rs is page).fewer

  -- after a turn that is not the last fewer firings are left
  pub turn-fewer : (wanted : Bool) (hs : List Happening) (o : Option Ending) → ShowsStep wanted s q hs o → o ≡ None → firings_left (state_of q) < firings_left s
  turn-fewer wanted hs o shows none = fewer-by-step (step s) refl (subst (λ x. EndsAs q x (step s)) none shows.ended)
