-- The calls by which a page is filled and served, as part of a step of the run. No public clause cites this module.
use Rattle.std.specs.Prelude.{◌≡◌, ℕ, ◌+◌, ◌<◌, pos, ◌<ℤ◌, ◌≤ℤ◌, Bool, true, false, List, [], ◌++◌, Option, Some, None, int_lt}
use Rattle.tb_pool.specs.Lists.{Lists}
use Rattle.tb_node.specs.declared.Act.{Act}
use Rattle.tb_node.specs.declared.Node.{Node}
use Rattle.tb_node.specs.PlainNodes.{PlainNode}
use Rattle.tb_builder.specs.declared.Ask.{Ask}
use Rattle.tb_builder.specs.declared.Event.{Event}
use Rattle.tb_builder.specs.declared.Page.{Page}
use Rattle.tb_builder.specs.PageCalls.{PassedOver, ComesBy}
use Rattle.tb_builder.specs.FiredPages.{Boxed}
use Rattle.tb_output.specs.declared.RunFault.{RunFault}
use Rattle.tb_output.specs.declared.RunFault.TheVariants as faults
use Rattle.tb_output.specs.State.{Work}
use Rattle.tb_output.specs.Output.{out}
use Rattle.tb_output.specs.Act.{Acted, went, full, act_on}
use Rattle.tb_output.specs.ActCalls.{line_of, warnings_sent}
use Rattle.tb_output.specs.Machine.{state_shown, events_shown}
use Rattle.tb_items.specs.declared.happenings.Happening.{Happening}
use Rattle.tb_run.specs.declared.routine.Routine.{Routine}
use Rattle.tb_run.specs.declared.routine.Ending.{Ending}
use Rattle.tb_run.specs.declared.routine.Ending.TheVariants as endings
use Rattle.tb_items.specs.RunEvents.{RunEvent}
use Rattle.tb_steps.specs.Run.{held_count}
use Rattle.tb_run.specs.ServedStates.{IsServed}
use Rattle.tb_items.specs.declared.items_left.ItemsLeft.{ItemsLeft}
use Rattle.tb_items.specs.ItemsLeft.{nodes_of, nodes_left, pieces_left, with_more, IsOpen}
use Rattle.tb_items.specs.Happenings.{events_of, noted, happened_lists}
use Rattle.tb_run.specs.Routine.{built_in, held_in, state_of, IsConsistent, IsBounded, between_pages, IsEnded}
use Rattle.tb_run.specs.FilledPages.{fired_whole}

-- ---- the next event

-- the builder came to this event; if the caller asks for tries, no place was passed over before it
pub record HasComeTo (wanted : Bool) (e : Event) (ask : Ask) (r q : Routine) : Type 0 where
  pub passed : List PassedOver
  pub comes : ComesBy passed r.builder r.store ask e q.builder q.store
  pub none : wanted ≡ true → passed ≡ []
  pub machine : q.machine ≡ r.machine
  pub most : q.most ≡ r.most
  pub left : q.left ≡ r.left

-- ---- items are handed over

-- nodes of the items that were left wait behind those that waited; of the rest as much is left
pub record IsSupplied (l : ItemsLeft) (r q : Routine) : Type 0 where
  pub nodes : List PlainNode
  pub contents : built_in q ≡ with_more nodes (built_in r)
  pub all : nodes ++ nodes_left q.left ≡ nodes_of l
  pub ends : IsOpen q.left nodes
  pub fewer : pieces_left q.left < pieces_left (Some l)
  pub whole : IsConsistent q
  pub machine : q.machine ≡ r.machine
  pub most : q.most ≡ r.most
  pub state : (boxes : List Boxed) (waiting : List PlainNode) → state_shown q.store boxes waiting q.machine ≡ state_shown r.store boxes waiting r.machine

-- ---- an act

-- the machine shows the state after the act, and the warnings were sent
abbrev pub HasDone : List Boxed → List PlainNode → Routine → Routine → Acted → Type 0
HasDone boxes waiting r q (went s ws rs) = (state_shown q.store boxes waiting q.machine ≡ s) × (q.machine.events ≡ r.machine.events ++ warnings_sent ws)
HasDone boxes waiting r q (full line live) = ⊥

-- the act was done, and the builder holds what it held
pub record HasActed (a : Act) (r q : Routine) : Type 0 where
  pub whole : IsConsistent q
  pub acted : (boxes : List Boxed) (waiting : List PlainNode) → HasDone boxes waiting r q (act_on r.machine.params (state_shown r.store boxes waiting r.machine) a)
  pub built : built_in q ≡ built_in r
  pub builder : q.builder ≡ r.builder
  pub most : q.most ≡ r.most
  pub left : q.left ≡ r.left

-- the pool was full, with this many boxes; nothing changed
pub record HasNotActed (a : Act) (live : ℕ) (r q : Routine) : Type 0 where
  pub full_pool : (boxes : List Boxed) (waiting : List PlainNode) → act_on r.machine.params (state_shown r.store boxes waiting r.machine) a ≡ full (line_of a) live
  pub same : q ≡ r

-- ---- a page is filled

-- the happenings are what is noted of these events, and none has lists
pub record AreQuiet (wanted : Bool) (hs : List Happening) (es : List RunEvent) : Type 0 where
  pub events : (store : Lists Node) → events_of store hs ≡ noted wanted es
  pub lists : happened_lists hs ≡ []

-- what the definition does at the firing of the page
abbrev pub work_of : Routine → Page → Work
work_of r page = out r.machine.params (state_of r) (fired_whole r page)

-- ---- the page is served

-- the firing was allowed and went through: the routine shows the state after it
pub record IsServedOn (page : Page) (r q : Routine) : Type 0 where
  pub alive : pos r.machine.dead_cycles <ℤ r.machine.params.maxdeadcycles
  pub done : (work_of r page).refused ≡ false
  pub state : state_of q ≡ (work_of r page).state
  pub sent : events_shown q.store q.machine.events ≡ events_shown r.store r.machine.events ++ (work_of r page).sent
  pub whole : IsConsistent q
  pub between : held_in q ≡ between_pages (state_of q)
  pub served : IsServed (held_in q).waiting (state_of q)
  pub bounded : IsBounded 8388608 q
  pub ends : IsOpen q.left (built_in q).waiting

-- no more than this many nodes are held
pub record IsWithinLimit (q : Routine) : Type 0 where
  pub test : int_lt q.machine.params.maxnodes (pos (held_count (state_of q))) ≡ false
  pub within : pos q.most ≤ℤ q.machine.params.maxnodes

-- more than this many nodes are held
pub record IsOverLimit (n : ℕ) (q : Routine) : Type 0 where
  pub test : int_lt q.machine.params.maxnodes (pos (held_count (state_of q))) ≡ true
  pub count : n ≡ held_count (state_of q)

-- the page limit was met
pub record IsLimited (n : ℕ) (page : Page) (r q : Routine) : Type 0 where
  pub alive : pos r.machine.dead_cycles <ℤ r.machine.params.maxdeadcycles
  pub refused : (work_of r page).refused ≡ true
  pub pages : n + 1 ≡ (work_of r page).state.page
  pub sent : events_shown q.store q.machine.events ≡ events_shown r.store r.machine.events ++ (work_of r page).sent

-- n firings in a row shipped no page, and `maxdeadcycles` allows no more; nothing changed
pub record IsDead (n : ℕ) (r q : Routine) : Type 0 where
  pub count : n ≡ r.machine.dead_cycles
  pub reached : r.machine.params.maxdeadcycles ≤ℤ pos r.machine.dead_cycles
  pub same : q ≡ r

-- a fault of the firing came exactly when the definition has it
abbrev pub IsFaultOf : RunFault → Page → Routine → Routine → Type 0
IsFaultOf (faults.DeadCycles n) page r q = IsDead n r q
IsFaultOf (faults.PageLimit n) page r q = IsLimited n page r q
IsFaultOf faults.Memory page r q = ⊥

-- after a page was served the run goes on within its limit, or ends so
abbrev pub ServesTo : Page → Routine → Option Ending → Routine → Type 0
ServesTo page r None q = IsServedOn page r q × IsWithinLimit q
ServesTo page r (Some endings.Done) q = ⊥
ServesTo page r (Some (endings.PoolFull line live)) q = ⊥
ServesTo page r (Some (endings.Fault f)) q = IsFaultOf f page r q
ServesTo page r (Some (endings.NodeLimit n)) q = IsServedOn page r q × IsOverLimit n q

-- the page was served, and machine and builder are sound
pub record Serves (page : Page) (r : Routine) (o : Option Ending) (q : Routine) : Type 0 where
  pub served : ServesTo page r o q
  pub ended : IsEnded q
  pub params : q.machine.params ≡ r.machine.params
  pub classes : q.machine.classes ≡ r.machine.classes

-- after a page was served the run goes on, however many nodes are held, or ends so
abbrev pub ServesAllTo : Page → Routine → Option Ending → Routine → Type 0
ServesAllTo page r None q = IsServedOn page r q × (q.left ≡ r.left)
ServesAllTo page r (Some endings.Done) q = ⊥
ServesAllTo page r (Some (endings.PoolFull line live)) q = ⊥
ServesAllTo page r (Some (endings.Fault f)) q = IsFaultOf f page r q
ServesAllTo page r (Some (endings.NodeLimit n)) q = ⊥

-- the page was served so, and machine and builder are sound
pub record ServesAll (page : Page) (r : Routine) (o : Option Ending) (q : Routine) : Type 0 where
  pub served : ServesAllTo page r o q
  pub ended : IsEnded q
  pub params : q.machine.params ≡ r.machine.params
  pub classes : q.machine.classes ≡ r.machine.classes
