-- A page that is filled and served in a state of the search, against the definition of a step.
use Rattle.std.specs.Prelude.{◌≡◌, ◌≢◌, ◌⊎◌, ◌<◌, ℤ, pos, ◌≤ℤ◌, Bool, true, false, List, if◌then◌else◌}
use Rattle.tb_node.specs.PlainNodes.{PlainNode}
use Rattle.tb_items.specs.ItemsLeft.{kern_last}
use Rattle.tb_output.specs.State.{State, Recorded}
use Rattle.tb_items.specs.RunEvents.{RunEvent}
use Rattle.tb_steps.specs.Run.{done, Step, ends, goes_on, held_count}
use Rattle.tb_run.specs.declared.routine.Ending.{Ending}
use Rattle.tb_run.specs.declared.routine.Ending.TheVariants as endings
use Rattle.tb_rate.specs.declared.PlacePenalty.{PlacePenalty}
use Rattle.tb_best.specs.PlanDemerits.{reach_in, unlimited_step, step_demerits}
use Rattle.tb_best.specs.ItemsAhead.{state_with}
use Rattle.tb_search.specs.declared.branch.Branch.{Branch}
use Rattle.tb_search.specs.declared.branch.Filled.{Filled}
use Rattle.tb_search.specs.declared.branch.Filled.TheVariants as filled
use Rattle.tb_search.specs.Branches.{shown, IsBranch}

-- the step neither goes on nor ends a run well
abbrev pub IsRefusal : Step → Type 0
IsRefusal (goes_on es rs t) = ⊥
IsRefusal (ends es rs e) = (left : List PlainNode) → e ≢ done left

-- from the state no run goes on or ends well; if no page fires in it, none does whatever comes behind
pub record IsRefused (s : State) : Type 0 where
  pub step : IsRefusal (unlimited_step s)
  pub later : ((reach_in s).fires ≡ true) ⊎ ((more : List PlainNode) → IsRefusal (unlimited_step (state_with more s)))

-- from the state no run goes on or ends well, and what waits ends in a kern but for acts; with glue behind, a page may fire there before the pool is full
pub record IsFull (s : State) : Type 0 where
  pub step : IsRefusal (unlimited_step s)
  pub kern : kern_last false s.waiting ≡ true

-- no page fires in the state, and a run ends well there
pub record IsQuiet (s : State) : Type 0 where
  pub events : List RunEvent
  pub records : List Recorded
  pub left : List PlainNode
  pub quiet : (reach_in s).fires ≡ false
  pub step : unlimited_step s ≡ ends events records (done left)

-- the step goes on, and more nodes are held after it than a state may hold
pub record HasTooMany (s : State) : Type 0 where
  pub events : List RunEvent
  pub records : List Recorded
  pub state : State
  pub step : unlimited_step s ≡ goes_on events records state
  pub many : 4194304 < held_count state

-- the page of the state fired; the second branch shows the state after it with its flag not set, and these are the demerits of the step
pub record HasFired (places : List PlacePenalty) (d : ℤ) (b c : Branch) : Type 0 where
  pub events : List RunEvent
  pub records : List Recorded
  pub fires : (reach_in (shown b)).fires ≡ true
  pub step : unlimited_step (shown b) ≡ goes_on events records (shown c)
  pub demerits : d ≡ step_demerits places (shown b) (goes_on events records (shown c))
  pub low : pos 0 ≤ℤ d
  pub high : d ≤ℤ pos 352689971456
  pub branch : IsBranch c
  pub ahead : c.ahead ≡ b.ahead
  pub classes : (shown c).classes ≡ (shown b).classes
  pub plain : c.plain ≡ false

-- what becomes of a page before whose firing the run does not end well, by whether what waited ends in a kern
abbrev pub stopped : Bool → Filled
stopped kern = if kern then filled.Full else filled.Refused

-- what becomes of a page if the run ends so before one fires
abbrev pub unfired : Ending → Bool → Filled
unfired endings.Done kern = filled.Quiet
unfired _ kern = stopped kern

-- what becomes of a page if the run ends so with its firing
abbrev pub unserved : Ending → Filled
unserved (endings.NodeLimit n) = filled.TooMany
unserved _ = filled.Refused

-- what becomes of the page of a branch
abbrev pub FillsTo : List PlacePenalty → Branch → Filled → Branch → Type 0
FillsTo places b (filled.Fired d) c = HasFired places d b c
FillsTo places b filled.Quiet c = IsQuiet (shown b)
FillsTo places b filled.Full c = IsFull (shown b)
FillsTo places b filled.Refused c = IsRefused (shown b)
FillsTo places b filled.TooMany c = HasTooMany (shown b)
