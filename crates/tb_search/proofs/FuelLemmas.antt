-- Each page that fires lowers what is left of the firings, so the search comes to an end.
use Rattle.std.proofs.Common.{◌≡◌, subst, ◌≤◌, List}
use Rattle.std.specs.Prelude.{◌<◌, ℤ}
use Rattle.tb_output.specs.State.{State, Recorded}
use Rattle.tb_items.specs.RunEvents.{RunEvent}
use Rattle.tb_steps.specs.Run.{goes_on, firings_left}
use Rattle.tb_laws.proofs.Defined.FuelLemmas.{Turns}
use Rattle.tb_rate.specs.declared.PlacePenalty.{PlacePenalty}
use Rattle.tb_best.specs.PlanDemerits.{unlimited_step}
use Rattle.tb_best.proofs.FuelLemmas.{step-turns}
use Rattle.tb_search.specs.declared.branch.Branch.{Branch}
use Rattle.tb_search.specs.Branches.{shown, IsBranch}
use Rattle.tb_search.specs.FilledBranches.{HasFired}

-- a step that goes on from a state whose page has a number
pub fewer-left : (s t : State) (es : List RunEvent) (rs : List Recorded) → 1 ≤ s.page → unlimited_step s ≡ goes_on es rs t → firings_left t < firings_left s
fewer-left s t es rs one h = (subst (Turns s) h (step-turns s one)).1

-- the page of a state has a number
pub numbered : (b : Branch) → IsBranch b → 1 ≤ (shown b).page
numbered b h = h.ready.settled.whole.machine.first

-- a page that was filled and fired
pub fired-fewer : (places : List PlacePenalty) (d : ℤ) (b c : Branch) → IsBranch b → HasFired places d b c → firings_left (shown c) < firings_left (shown b)
fired-fewer places d b c h f = fewer-left (shown b) (shown c) f.events f.records (numbered b h) f.step
