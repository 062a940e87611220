-- A firing at work: what a machine shows of the work, and what a step does to it.
use Rattle.std.specs.Prelude.{◌≡◌, ◌+◌, ℕ, true, false, List, [], ◌++◌, take}
use Rattle.tb_pool.specs.Lists.{Lists}
use Rattle.tb_node.specs.declared.Node.{Node}
use Rattle.tb_node.specs.PlainNodes.{plain_list}
use Rattle.tb_builder.specs.declared.Builder.{Builder}
use Rattle.tb_builder.specs.Contents.{contents_of}
use Rattle.tb_column.specs.declared.NoteBox.{NoteBox}
use Rattle.tb_sheet.specs.Sheet.{PlainSent}
use Rattle.tb_column.specs.Notes.{notes_shown}
use Rattle.tb_output.specs.declared.RunFault.{RunFault}
use Rattle.tb_output.specs.declared.RunFault.TheVariants as faults
use Rattle.tb_output.specs.State.{Work, footnotes}
use Rattle.tb_output.specs.Machine.{MachineView, state_shown, events_shown}

-- ---- what is shown of a work

-- the machine shows the work, but for what goes back: the work goes on, what it sent comes after the events that were there before, and the state is the machine's.
-- The insertion boxes and the waiting nodes are the builder's, and are taken from the work
pub record ShowsWork (before : List PlainSent) (m : MachineView) (store : Lists Node) (w : Work) : Type 0 where
  pub served : w.refused ≡ false
  pub sent : events_shown store m.events ≡ before ++ w.sent
  pub state : state_shown store w.state.boxes w.state.waiting m ≡ w.state

-- what goes back is the nodes of this list
abbrev pub ShowsBack : ℕ → Lists Node → Work → Type 0
ShowsBack back store w = plain_list store back ≡ w.put_back

-- the insertions of the work's boxes were taken into these lists
abbrev pub HoldsNotes : List NoteBox → Lists Node → Work → Type 0
HoldsNotes notes store w = footnotes w.state ≡ notes_shown store notes

-- the work's boxes are those of the builder
abbrev pub HoldsBoxes : Builder → Lists Node → Work → Type 0
HoldsBoxes b store w = (contents_of b store).boxes ≡ w.state.boxes

-- ---- the same as facts of the events that were there before and of a work

-- the machine shows the work
abbrev pub shows : MachineView → Lists Node → List PlainSent → Work → Type 0
shows m store before w = ShowsWork before m store w

-- the machine and the list that goes back show it
abbrev pub shows_back : ℕ → MachineView → Lists Node → List PlainSent → Work → Type 0
shows_back back m store before w = ShowsWork before m store w × ShowsBack back store w

-- the machine shows it, and the insertions were taken into these lists
abbrev pub shows_notes : List NoteBox → MachineView → Lists Node → List PlainSent → Work → Type 0
shows_notes notes m store before w = ShowsWork before m store w × HoldsNotes notes store w

-- the machine, the list that goes back and the lists of the insertions show it
abbrev pub shows_page : ℕ → List NoteBox → MachineView → Lists Node → List PlainSent → Work → Type 0
shows_page back notes m store before w = ShowsWork before m store w × ShowsBack back store w × HoldsNotes notes store w

-- the machine and the builder show it, and nothing goes back yet
abbrev pub shows_boxes : Builder → MachineView → Lists Node → List PlainSent → Work → Type 0
shows_boxes b m store before w = ShowsWork before m store w × HoldsBoxes b store w × (w.put_back ≡ [])

-- the machine, the list that goes back and the builder show it
abbrev pub shows_all : ℕ → Builder → MachineView → Lists Node → List PlainSent → Work → Type 0
shows_all back b m store before w = ShowsWork before m store w × ShowsBack back store w × HoldsBoxes b store w

-- ---- a work that was cut short

-- n pages were shipped, `maxpages` allows no more, and the work was to ship one; what it sent before can be taken
pub record AtPageLimit (n : ℕ) (before : List PlainSent) (m : MachineView) (store : Lists Node) (w : Work) : Type 0 where
  pub refused : w.refused ≡ true
  pub pages : n + 1 ≡ w.state.page
  pub sent : events_shown store m.events ≡ before ++ w.sent

-- there was no memory; some front of what the work sends can be taken
pub record WithoutMemory (before : List PlainSent) (m : MachineView) (store : Lists Node) (w : Work) : Type 0 where
  pub count : ℕ
  pub sent : events_shown store m.events ≡ before ++ take count w.sent

-- why the work was not done
abbrev pub IsCutShort : RunFault → MachineView → Lists Node → List PlainSent → Work → Type 0
IsCutShort (faults.DeadCycles n) m store before w = ⊥
IsCutShort (faults.PageLimit n) m store before w = AtPageLimit n before m store w
IsCutShort faults.Memory m store before w = WithoutMemory before m store w

-- ---- steps

-- the step leads from works with the first fact to works with the second
abbrev pub Does : (List PlainSent → Work → Type 0) → (List PlainSent → Work → Type 0) → (Work → Work) → Type 0
Does from to step = (before : List PlainSent) (w : Work) → from before w → to before (step w)

-- the same, with `rest` left of the step
abbrev pub Leads : (List PlainSent → Work → Type 0) → (List PlainSent → Work → Type 0) → (Work → Work) → (Work → Work) → Type 0
Leads from to step rest = (before : List PlainSent) (w : Work) → from before w → (v : Work) × to before v × (step w ≡ rest v)

-- ---- what the steps of a firing leave as it was

-- a step sends some more, keeps the parameters, the classes and the waiting nodes, and once the page limit was met sends nothing and ships no page
pub record Continues (w next : Work) : Type 0 where
  pub more : List PlainSent
  pub sent : next.sent ≡ w.sent ++ more
  pub refused : w.refused ≡ true → (next.refused ≡ true) × (next.sent ≡ w.sent) × (next.state.page ≡ w.state.page)
  pub params : next.state.params ≡ w.state.params
  pub classes : next.state.classes ≡ w.state.classes
  pub waiting : next.state.waiting ≡ w.state.waiting
