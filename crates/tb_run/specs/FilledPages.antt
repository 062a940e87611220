-- A page that is filled and then served, against the definition of a step of the run: what `fill` and `serve_page` say of it.
use Rattle.std.specs.Prelude.{◌≡◌, ◌+◌, ◌≤◌, pos, not, Bool, true, false, List, [], ◌++◌, map, Option, Some, None, int_lt, if◌then◌else◌}
use Rattle.tb_scaled.specs.Scaled.{awful_bad}
use Rattle.tb_pool.specs.Lists.{Lists}
use Rattle.tb_node.specs.declared.Node.{Node}
use Rattle.tb_node.specs.PlainNodes.{PlainNode}
use Rattle.tb_node.specs.Fit.{shapes}
use Rattle.tb_node.specs.Sums.{size_of}
use Rattle.tb_param.specs.declared.Params.{Params}
use Rattle.tb_builder.specs.declared.Page.{Page}
use Rattle.tb_builder.specs.Reach.{Reach}
use Rattle.tb_builder.specs.FiredPages.{Fired, reach_of, fired_of}
use Rattle.tb_builder.specs.SizedContents.{fired_count}
use Rattle.tb_builder.specs.Contents.{node_count}
use Rattle.tb_builder.specs.PageEvents.{fired_room}
use Rattle.tb_sheet.specs.declared.Sent.{Sent}
use Rattle.tb_sheet.specs.Sheet.{PlainSent}
use Rattle.tb_output.specs.declared.RunFault.TheVariants as faults
use Rattle.tb_output.specs.State.{State, Recorded}
use Rattle.tb_output.specs.Output.{out}
use Rattle.tb_output.specs.Machine.{state_shown, events_shown}
use Rattle.tb_output.specs.Firing.{CanFire, fired_in}
use Rattle.tb_items.specs.declared.happenings.Happening.{Happening}
use Rattle.tb_items.specs.declared.happenings.Happening.TheVariants as happenings
use Rattle.tb_items.specs.Happenings.{events_of, noted, happened_lists}
use Rattle.tb_items.specs.ItemsLeft.{IsOpen}
use Rattle.tb_items.specs.RunEvents.{RunEvent}
use Rattle.tb_run.specs.declared.routine.Routine.{Routine}
use Rattle.tb_run.specs.declared.routine.Ending.{Ending}
use Rattle.tb_run.specs.declared.routine.Ending.TheVariants as endings
use Rattle.tb_run.specs.declared.routine.Filled.{Filled}
use Rattle.tb_run.specs.declared.routine.Filled.TheVariants as filled
use Rattle.tb_steps.specs.Run.{Progress, progress, ask_for, step, firing_step}
use Rattle.tb_steps.specs.Runnable.{AreRunnable, AreRunClasses}
use Rattle.tb_run.specs.ServedStates.{notes_left, IsServedPage}
use Rattle.tb_run.specs.Routine.{built_in, held_in, state_of, IsConsistent, EndsAs}

-- what was sent, as happenings
abbrev pub sent_happenings : List Sent → List Happening
sent_happenings es = map (λ e. happenings.Sent e) es

-- ---- the page of a step

-- what is reached of the page
abbrev pub reach_in : State → Reach
reach_in s = reach_of (ask_for s) s.classes s.boxes [] s.waiting

-- the state after the acts of the page, their events and records, and the place where the pool was full
abbrev pub progress_in : State → Progress
progress_in s = progress (reach_in s).reached awful_bad s

-- the parameters that hold after those acts, and so when the page fires
abbrev pub params_in : State → Params
params_in s = (progress_in s).state.params

-- the page that fires in that state, if one does; it was made for what was asked before its first box, rule or insertion
abbrev pub page_in : State → Fired
page_in s = let q = progress_in s in fired_of (ask_for s) q.state.classes q.state.boxes (reach_in s)

-- what the firing of a page sends, if it is allowed
abbrev pub sent_by : State → Fired → List PlainSent
sent_by s f = if int_lt (pos s.dead_cycles) s.params.maxdeadcycles then (out s.params s f).sent else []

-- ---- a page is filled

-- the state that the routine shows, with the class boxes and the waiting nodes of another: those with which the page began
abbrev pub with_page : State → Routine → State
with_page s q = state_shown q.store s.boxes s.waiting q.machine

-- the routine shows the state after the acts of the page, and what happened is what is noted of their events, with no lists; nothing is left if nothing was
pub record IsFilled (wanted : Bool) (r q : Routine) (hs : List Happening) : Type 0 where
  pub state : with_page (state_of r) q ≡ (progress_in (state_of r)).state
  pub events : (store : Lists Node) → events_of store hs ≡ noted wanted (progress_in (state_of r)).events
  pub lists : happened_lists hs ≡ []
  pub left : r.left ≡ None → q.left ≡ None

-- the page that the builder fired, with all that waits after it
abbrev pub fired_whole : Routine → Page → Fired
fired_whole r page = record (fired_in r.builder r.store page) { rest = (held_in r).waiting }

-- a page of the step fires, and this is that page
pub record IsPageOf (page : Page) (r q : Routine) : Type 0 where
  pub none : (progress_in (state_of r)).fault ≡ None
  pub fires : (reach_in (state_of r)).fires ≡ true
  pub fired : fired_whole q page ≡ page_in (state_of r)

-- no page of the step fires
abbrev pub NoneFires : Routine → Type 0
NoneFires r = (progress_in (state_of r)).fault ≡ None → (reach_in (state_of r)).fires ≡ false

-- with the page that fires, this many nodes are held
pub record IsBoundedPage (page : Page) (q : Routine) : Type 0 where
  pub held : fired_count (fired_whole q page) + node_count (state_of q).held_page ≤ q.most + 1
  pub few : q.most ≤ 4194304

-- the page can be served: the machine can fire it, its height is known, and all that is added up fits
pub record CanServe (page : Page) (q : Routine) : Type 0 where
  pub whole : IsConsistent q
  pub can : CanFire q.machine q.builder q.store page
  pub room : fired_room q.builder ≡ size_of (shapes q.store page.body)
  pub taken : q.machine.events ≡ []
  pub params : AreRunnable q.machine.params
  pub classes : AreRunClasses q.machine.classes
  pub served : IsServedPage (state_of q) (fired_whole q page)
  pub bounded : IsBoundedPage page q
  pub ends : (before : List PlainNode) → IsOpen q.left (before ++ (built_in q).waiting)

-- the page fires in the state after its acts, which has the same classes, and can be served; no more marginal notes have no place then, and those that were placed reach no further
pub record IsFiring (wanted : Bool) (r : Routine) (page : Page) (q : Routine) (hs : List Happening) : Type 0 where
  pub filled : IsFilled wanted r q hs
  pub fires : IsPageOf page r q
  pub can : CanServe page q
  pub notes : notes_left ((fired_whole q page).held ++ (fired_whole q page).rest) (state_of q) ≤ notes_left (state_of r).waiting (state_of r)
  pub bottom : (state_of q).note_bottom ≡ (state_of r).note_bottom
  pub classes : (state_of q).classes ≡ (state_of r).classes

-- the run ends before a page fires
pub record IsFilledLast (wanted : Bool) (r : Routine) (e : Ending) (q : Routine) (hs : List Happening) : Type 0 where
  pub filled : IsFilled wanted r q hs
  pub none : NoneFires r
  pub ended : EndsAs q (Some e) (step (state_of r))
  pub whole : IsConsistent q

-- the page that was filled fires, or the run ends before it does
abbrev pub Fills : Bool → Routine → Filled → Routine → List Happening → Type 0
Fills wanted r (filled.Fires page) q hs = IsFiring wanted r page q hs
Fills wanted r (filled.Ends e) q hs = IsFilledLast wanted r e q hs

-- ---- a page is served

-- the firing was not allowed, after too many without a page
abbrev pub is_dead : Option Ending → Bool
is_dead (Some (endings.Fault (faults.DeadCycles n))) = true
is_dead o = false

-- the firing sent what the definition says, which came to what had happened, and the step ends or goes on as the definition has it after any events
pub record HasServed (page : Page) (q : Routine) (o : Option Ending) (now : Routine) (before after : List Happening) : Type 0 where
  pub sent : List Sent
  pub grown : after ≡ before ++ sent_happenings sent
  pub shown : events_shown now.store sent ≡ sent_by (state_of q) (fired_whole q page)
  pub dead : is_dead o ≡ not (int_lt (pos q.machine.dead_cycles) q.machine.params.maxdeadcycles)
  pub ended : (es : List RunEvent) (rs : List Recorded) → EndsAs now o (firing_step es rs (state_of q) (fired_whole q page))
