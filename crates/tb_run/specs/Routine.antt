-- The routine between two firings, and what one of its turns shows.
use Rattle.std.specs.Prelude.{◌≡◌, ℕ, ◌≤◌, pos, Bool, false, List, [], Option, Some, None, int_lt, if◌then◌else◌}
use Rattle.tb_pool.specs.Lists.{IsLive}
use Rattle.tb_param.specs.declared.Params.{Params}
use Rattle.tb_builder.specs.Contents.{Contents, contents_of}
use Rattle.tb_builder.specs.Courses.{IsSound}
use Rattle.tb_sheet.specs.declared.Sent.{Sent}
use Rattle.tb_column.specs.Notes.{AreDistinct}
use Rattle.tb_output.specs.declared.RunFault.{RunFault}
use Rattle.tb_output.specs.declared.RunFault.TheVariants as faults
use Rattle.tb_output.specs.State.{State}
use Rattle.tb_output.specs.Machine.{state_shown, machine_lists, IsMachine}
use Rattle.tb_builder.specs.BuilderLists.{builder_lists}
use Rattle.tb_sheet.specs.ApartLists.{AreNoneOf}
use Rattle.tb_items.specs.declared.happenings.Happening.{Happening}
use Rattle.tb_run.specs.declared.routine.Routine.{Routine}
use Rattle.tb_run.specs.declared.routine.Ending.{Ending}
use Rattle.tb_run.specs.declared.routine.Ending.TheVariants as endings
use Rattle.tb_steps.specs.Run.{End, done, pool_full, dead_cycles, page_limit, node_limit, Step, ends, goes_on, step, held_count, step_events}
use Rattle.tb_steps.specs.Runnable.{AreRunnable, AreRunClasses}
use Rattle.tb_run.specs.ServedStates.{IsServed}
use Rattle.tb_items.specs.ItemsLeft.{nodes_left, AreItemsLeft, with_more, IsOpen}
use Rattle.tb_items.specs.Happenings.{events_of, noted, happened_lists, ArePages}

-- what the builder holds
abbrev pub built_in : Routine → Contents
built_in r = contents_of r.builder r.store

-- the same, with the nodes of the items that are left behind those that wait
abbrev pub held_in : Routine → Contents
held_in r = with_more (nodes_left r.left) (built_in r)

-- the state that the routine shows
abbrev pub state_of : Routine → State
state_of r = state_shown r.store (held_in r).boxes (held_in r).waiting r.machine

-- the routine whose machine has these events
abbrev pub with_events : List Sent → Routine → Routine
with_events es r = record r { machine = record r.machine { events = es } }

-- ---- between two firings

-- the builder and the machine are as their last calls left them, with lists of their own, and no fault was returned; the builder can take the items that are left
pub record IsConsistent (r : Routine) : Type 0 where
  pub builder : IsSound r.builder r.store
  pub machine : IsMachine r.machine r.store
  pub fault : r.machine.fault ≡ None
  pub apart : AreNoneOf (machine_lists r.machine) (builder_lists r.builder r.store)
  pub items : AreItemsLeft (built_in r).classes r.left

-- no more nodes are held than the routine's bound, which is no more than the limit
pub record IsBounded (limit : ℕ) (r : Routine) : Type 0 where
  pub held : held_count (state_of r) ≤ r.most
  pub few : r.most ≤ limit

-- what a builder holds between two firings: its page is empty, and nothing is held
abbrev pub between_pages : State → Contents
between_pages s = record { classes = s.classes; boxes = s.boxes; page = []; waiting = s.waiting; held = []; frozen = None; stopped = false }

-- a page can be filled and served, whatever waits
pub record IsBetweenFirings (r : Routine) : Type 0 where
  pub whole : IsConsistent r
  pub params : AreRunnable r.machine.params
  pub classes : AreRunClasses r.machine.classes
  pub between : held_in r ≡ between_pages (state_of r)
  pub served : IsServed (held_in r).waiting (state_of r)
  pub bounded : IsBounded 4194304 r
  pub ends : IsOpen r.left (built_in r).waiting

-- a page can be filled and served, and the machine's queue of events is empty
pub record IsReady (r : Routine) : Type 0 where
  pub settled : IsBetweenFirings r
  pub events : r.machine.events ≡ []

-- ---- what a turn shows

-- the end of a run at a fault of the machine; it is none for lack of memory
abbrev pub IsFaultEnd : RunFault → End → Type 0
IsFaultEnd (faults.DeadCycles n) e = e ≡ dead_cycles n
IsFaultEnd (faults.PageLimit n) e = e ≡ page_limit n
IsFaultEnd faults.Memory e = ⊥

-- the end of a run at an ending, if it left the routine like this
abbrev pub IsEnd : Routine → Ending → End → Type 0
IsEnd r endings.Done e = e ≡ done (held_in r).page
IsEnd r (endings.PoolFull line live) e = e ≡ pool_full line live
IsEnd r (endings.Fault f) e = IsFaultEnd f e
IsEnd r (endings.NodeLimit n) e = e ≡ node_limit n

-- the step ends the run, or leads to the state that the routine shows
abbrev pub EndsAs : Routine → Option Ending → Step → Type 0
EndsAs r None (ends es rs e) = ⊥
EndsAs r None (goes_on es rs s) = state_of r ≡ s
EndsAs r (Some ending) (ends es rs e) = IsEnd r ending e
EndsAs r (Some ending) (goes_on es rs s) = ⊥

-- from the first routine to the second, a turn with these happenings and this ending is the step of the run
pub record IsTurned (wanted : Bool) (r : Routine) (hs : List Happening) (o : Option Ending) (q : Routine) : Type 0 where
  pub events : events_of q.store hs ≡ noted wanted (step_events (step (state_of r)))
  pub ended : EndsAs q o (step (state_of r))

-- the ending if more than `maxnodes` nodes are held
abbrev pub over_limit : Params → ℕ → Option Ending
over_limit p n = if int_lt p.maxnodes (pos n) then Some (endings.NodeLimit n) else None

-- after a turn: the machine's lists are those of pages, and what is on the builder's page is live
pub record IsEnded (r : Routine) : Type 0 where
  pub machine : IsMachine r.machine r.store
  pub page : IsLive r.store r.builder.page

-- ---- what was sent

-- the lists of what was sent: no two of them the same, and none the machine's or the builder's
pub record AreHappened (r : Routine) (hs : List Happening) : Type 0 where
  pub pages : ArePages r.store hs
  pub distinct : AreDistinct (happened_lists hs)
  pub machine : AreNoneOf (happened_lists hs) (machine_lists r.machine)
  pub builder : AreNoneOf (happened_lists hs) (builder_lists r.builder r.store)
