-- A step after which a run goes on: its page fires, and the next state is that of the firing.
use Rattle.std.proofs.Common.{◌≡◌, pos, true, false, List, None}
use Rattle.std.specs.Prelude.{int_lt}
use Rattle.tb_output.specs.State.{State, Recorded}
use Rattle.tb_output.specs.Output.{out}
use Rattle.tb_items.specs.RunEvents.{RunEvent}
use Rattle.tb_steps.specs.Run.{Step, goes_on, step}
use Rattle.tb_laws.proofs.NothingLost.RunWeights.{page_of}
use Rattle.tb_why.specs.WhyRun.{Shown}
use Rattle.tb_why.proofs.ShownTree.{StepShows, shows_going, shows_ending, shows_page, step-shows}
use Rattle.tb_why_laws.proofs.OnePlace.OnceStates.{Running, now, fires}

module _ (s : State) (o : Running s) where
  -- no act found the pool full, the page fired below the dead cycles and the page limit, and this state is that after the firing
  pub record GoesOn (t : State) : Type 0 where
    pub fault : (now s o).fault ≡ None
    pub fired : (page_of s).fires ≡ true
    pub cycles : int_lt (pos (now s o).state.dead_cycles) (now s o).state.params.maxdeadcycles ≡ true
    pub unrefused : (out (now s o).state.params (now s o).state (fires s o)).refused ≡ false
    pub state : t ≡ (out (now s o).state.params (now s o).state (fires s o)).state

  goes-in : {x : Step} {xs : List Shown} → StepShows s x xs → (es : List RunEvent) (rs : List Recorded) (t : State) → x ≡ goes_on es rs t → GoesOn t
  goes-in (shows_going f x r qs) es rs t e = record { fault = f; fired = x.stops; cycles = x.cycles; unrefused = r; state = cc }
  goes-in (shows_ending f x qs d) es rs t e = cc
  goes-in (shows_page qs d) es rs t e = cc

  pub going-on : (es : List RunEvent) (rs : List Recorded) (t : State) → step s ≡ goes_on es rs t → GoesOn t
  going-on es rs t e = goes-in (step-shows s) es rs t e
