-- The firing of a builder's page, against the definition of a firing (ltoutput.dtx, \output).
use Rattle.std.specs.Prelude.{◌≡◌, ◌+◌, ◌≤◌, ℕ, ℤ, pos, neg_ℤ, ◌≤ℤ◌, ◌<ℤ◌, true, false, List, ◌∷◌, ◌++◌, length, take, All, Option, Some, None, int_lt, if◌then◌else◌}
use Rattle.std.specs.List.{AllByRecursion}
use Rattle.tb_pool.specs.Lists.{Lists, list_at}
use Rattle.tb_pool.specs.Frame.{IsNoneOf, OnlyChanged}
use Rattle.tb_node.specs.declared.Node.{Node}
use Rattle.tb_scaled.specs.Amount.{IsAmount}
use Rattle.tb_node.specs.Fit.{IsSizedLeaf}
use Rattle.tb_node.specs.PlainNodes.{plain_list}
use Rattle.tb_param.specs.declared.Params.{Params}
use Rattle.tb_builder.specs.declared.Builder.{Builder}
use Rattle.tb_builder.specs.declared.Page.{Page}
use Rattle.tb_builder.specs.FiredPages.{Boxed, Fired, content_of}
use Rattle.tb_builder.specs.Contents.{contents_of, box_count}
use Rattle.tb_builder.specs.Ownership.{ids_of}
use Rattle.tb_builder.specs.BuilderLists.{builder_lists}
use Rattle.tb_builder.specs.Courses.{IsSound}
use Rattle.tb_builder.specs.Contributions.{ListJoins, NoPage}
use Rattle.tb_column.specs.Page.{IsPageList}
use Rattle.tb_output.specs.declared.Turn.{Turn}
use Rattle.tb_output.specs.declared.RunFault.{RunFault}
use Rattle.tb_output.specs.declared.RunFault.TheVariants as faults
use Rattle.tb_output.specs.State.{State, Work, begun}
use Rattle.tb_sheet.specs.Asked.{hold_penalty}
use Rattle.tb_output.specs.Output.{output_by, next_goal, after_page, out}
use Rattle.tb_output.specs.Machine.{MachineView, state_shown, events_shown, machine_lists, IsMachine}
use Rattle.tb_sheet.specs.ApartLists.{AreNoneOf}
use Rattle.tb_output.specs.MachineFrame.{KeepsFields, IsBack, back_lists}

-- ---- the work of a firing

-- a firing, without the nodes that wait after it
unfoldable pub page_work : Params → State → Fired → Work
page_work p s f = next_goal p f.penalty (output_by p f (begun (after_page s f)))

-- the page that the builder fired, with what the builder holds after it
abbrev pub fired_in : Builder → Lists Node → Page → Fired
fired_in b store page = record {
  body = plain_list store page.body;
  boxes = (contents_of b store).boxes;
  held = (contents_of b store).held;
  rest = (contents_of b store).waiting;
  penalty = page.penalty;
  cost = page.cost;
  size = page.size;
  shrink = page.shrink;
  line = page.line;
}

-- the state of a machine and a builder
abbrev pub state_in : MachineView → Builder → Lists Node → State
state_in m b store = state_shown store (contents_of b store).boxes (contents_of b store).waiting m

-- what the definition does at the firing of the page
abbrev pub whole_work : MachineView → Builder → Lists Node → Page → Work
whole_work m b store page = out m.params (state_in m b store) (fired_in b store page)

-- ---- what is required

-- how far down the marginal notes of a column may reach: less than 2^54 - 2^32 in absolute value
pub record IsReach (z : ℤ) : Type 0 where
  pub low : neg_ℤ (pos 18014394214514688) <ℤ z
  pub high : z <ℤ pos 18014394214514688

-- the nodes of each box are sized
abbrev pub AreSizedBoxes : List Boxed → Type 0
AreSizedBoxes bs = AllByRecursion (λ b. All IsSizedLeaf (content_of b.content)) bs

-- a page that the builder fired and whose `put_back` it awaits: the builder's classes are the machine's, the penalty is not below those of the routine, the
-- nodes of page, boxes and held page are sized and not too many, and its list, the machine's and the builder's are apart
pub record CanFire (m : MachineView) (b : Builder) (store : Lists Node) (page : Page) : Type 0 where
  pub awaits : NoPage (contents_of b store)
  pub classes : (contents_of b store).classes ≡ m.classes
  pub penalty : hold_penalty ≤ℤ page.penalty
  pub shrink : IsAmount page.shrink
  pub note_bottom : IsReach m.note_bottom
  pub body : IsPageList store page.body
  pub boxes : AreSizedBoxes (contents_of b store).boxes
  pub few : length (list_at store page.body) + length (list_at store m.held_page) + box_count (contents_of b store).boxes ≤ 8355839
  pub body_apart : IsNoneOf page.body (machine_lists m)
  pub body_free : IsNoneOf page.body (builder_lists b store)
  pub machine_free : AreNoneOf (machine_lists m) (builder_lists b store)

-- ---- what holds after a firing

-- the turn is the work of the definition: what is put back, what is sent, and the state, with the waiting nodes of the work
pub record IsFired (t : Turn) (m now : MachineView) (b : Builder) (store new : Lists Node) (w : Work) : Type 0 where
  pub alive : pos m.dead_cycles <ℤ m.params.maxdeadcycles
  pub served : w.refused ≡ false
  pub put_back : plain_list new t.put_back ≡ w.put_back
  pub sent : events_shown new now.events ≡ events_shown store m.events ++ w.sent
  pub state : state_shown new (contents_of b new).boxes w.state.waiting now ≡ w.state

-- the list may be handed to the builder's `put_back`, which it awaits, and the machine's lists are none of the builder's
pub record CanGoBack (l : ℕ) (m : MachineView) (b : Builder) (store : Lists Node) : Type 0 where
  pub back : IsBack l m store
  pub awaits : NoPage (contents_of b store)
  pub joins : ListJoins (ids_of b) store l
  pub machine_free : AreNoneOf (machine_lists m) (builder_lists b store)

-- the fault of a machine; without one, that `maxdeadcycles` allows no more firings without a page
abbrev pub fault_or_cycles : MachineView → Option RunFault → Option RunFault
fault_or_cycles m None = if int_lt (pos m.dead_cycles) m.params.maxdeadcycles then None else Some (faults.DeadCycles m.dead_cycles)
fault_or_cycles m (Some e) = Some e

-- why a machine begins no firing, if it does not
abbrev pub refusal_of : MachineView → Option RunFault
refusal_of m = fault_or_cycles m m.fault

-- nothing changed
pub record IsUntouched (m now : MachineView) (b later : Builder) (store new : Lists Node) : Type 0 where
  pub machine : now ≡ m
  pub builder : later ≡ b
  pub lists : new ≡ store

-- n firings in a row shipped no page, and `maxdeadcycles` allows no more; nothing changed
pub record AtDeadCycles (n : ℕ) (m now : MachineView) (b later : Builder) (store new : Lists Node) : Type 0 where
  pub count : n ≡ m.dead_cycles
  pub reached : m.params.maxdeadcycles ≤ℤ pos m.dead_cycles
  pub untouched : IsUntouched m now b later store new

-- n pages were shipped, `maxpages` allows no more, and the firing was to ship one; what it sent before can be taken
pub record AtLastPage (n : ℕ) (m now : MachineView) (store new : Lists Node) (w : Work) : Type 0 where
  pub alive : pos m.dead_cycles <ℤ m.params.maxdeadcycles
  pub refused : w.refused ≡ true
  pub pages : n + 1 ≡ w.state.page
  pub sent : events_shown new now.events ≡ events_shown store m.events ++ w.sent
  pub kept : now.fault ≡ Some (faults.PageLimit n)

-- there was no memory; some front of what the firing sends can be taken
pub record OutOfMemory (m now : MachineView) (store new : Lists Node) (w : Work) : Type 0 where
  pub alive : pos m.dead_cycles <ℤ m.params.maxdeadcycles
  pub count : ℕ
  pub sent : events_shown new now.events ≡ events_shown store m.events ++ take count w.sent
  pub kept : now.fault ≡ Some faults.Memory

-- the cause of a refusal, and what holds after it
abbrev pub IsRefusal : RunFault → MachineView → MachineView → Builder → Builder → Lists Node → Lists Node → Work → Type 0
IsRefusal (faults.DeadCycles n) m now b later store new w = AtDeadCycles n m now b later store new
IsRefusal (faults.PageLimit n) m now b later store new w = AtLastPage n m now store new w
IsRefusal faults.Memory m now b later store new w = OutOfMemory m now store new w

-- machine and builder are sound, with parameters and classes as before; of the lists that were live only the page's and their own changed, or are their own now
pub record KeepsAll (body : ℕ) (m now : MachineView) (b later : Builder) (store new : Lists Node) : Type 0 where
  pub machine : IsMachine now new
  pub builder : IsSound later new
  pub frame : OnlyChanged (body ∷ builder_lists b store ++ machine_lists m) (builder_lists later new ++ machine_lists now) store new
  pub params : now.params ≡ m.params
  pub classes : now.classes ≡ m.classes

-- ---- a firing that was begun, with the list that goes back

-- the same, and the fault is as before
pub record KeepsServing (body l : ℕ) (m now : MachineView) (b later : Builder) (store new : Lists Node) : Type 0 where
  pub machine : IsMachine now new
  pub builder : IsSound later new
  pub back : IsBack l now new
  pub apart : AreNoneOf (back_lists new l ++ machine_lists now) (builder_lists later new)
  pub frame : OnlyChanged (body ∷ builder_lists b store ++ (back_lists store l ++ machine_lists m)) (builder_lists later new ++ (back_lists new l ++ machine_lists now)) store new
  pub fields : KeepsFields m now
