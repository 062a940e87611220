-- What the machine does at an act, against the definition of an act.
use Rattle.std.specs.Prelude.{◌≡◌, ◌≤◌, ◌<◌, ◌+◌, ◌==◌, ℕ, pos, int_lt, Bool, true, false, not, ◌&&◌, List, [], ◌∷◌, ◌++◌, map, Option, None, if◌then◌else◌}
use Rattle.tb_scaled.specs.Scaled.{min_ℤ}
use Rattle.tb_pool.specs.Lists.{Lists}
use Rattle.tb_node.specs.declared.Act.{Act}
use Rattle.tb_node.specs.declared.Act.TheVariants as acts
use Rattle.tb_node.specs.declared.Area.{Area}
use Rattle.tb_node.specs.declared.Float.{Float}
use Rattle.tb_node.specs.declared.Margin.{Margin}
use Rattle.tb_node.specs.declared.Node.{Node}
use Rattle.tb_node.specs.PlainNodes.{PlainNode}
use Rattle.tb_builder.specs.FiredPages.{Boxed}
use Rattle.tb_builder.specs.Pageable.{IsGoal}
use Rattle.tb_param.specs.declared.Params.{Params}
use Rattle.tb_param.specs.Release.{has_second}
use Rattle.tb_param.specs.declared.Change.{Change}
use Rattle.tb_param.specs.Changes.{changed}
use Rattle.tb_float.specs.declared.Entry.TheVariants as entries
use Rattle.tb_float.specs.Lists.{live_count}
use Rattle.tb_float.specs.declared.Part.TheVariants as parts
use Rattle.tb_float.specs.Pool.{FloatPool, HasNoMarks, with_current, with_floats_after}
use Rattle.tb_float.specs.Rooms.{column_room_of}
use Rattle.tb_column.specs.declared.Column.{Column}
use Rattle.tb_sheet.specs.declared.Sent.{Sent}
use Rattle.tb_sheet.specs.declared.Sent.TheVariants as events
use Rattle.tb_sheet.specs.declared.Warn.{Warn}
use Rattle.tb_output.specs.State.{State, no_suppress}
use Rattle.tb_output.specs.Act.{Acted, went, full, lists_with_taken, large_warning, suppressed, taken_head, lists_with_head, act_on}
use Rattle.tb_pool.specs.Frame.{IsNoneOf}
use Rattle.tb_output.specs.Machine.{MachineView, state_shown, left_lists, machine_lists}

-- ---- what holds after an act

-- warnings as events
abbrev pub warnings_sent : List Warn → List Sent
warnings_sent ws = map (λ w. events.Warn w) ws

-- what the definition does at the act in the machine's state, with these insertion boxes and waiting nodes
abbrev pub acted_in : Lists Node → List Boxed → List PlainNode → MachineView → Act → Acted
acted_in store boxes waiting m a = act_on m.params (state_shown store boxes waiting m) a

-- the machine has this state now, and these warnings were sent
pub record StandsFor (store : Lists Node) (boxes : List Boxed) (waiting : List PlainNode) (m now : MachineView) (s : State) (ws : List Warn) : Type 0 where
  pub state : state_shown store boxes waiting now ≡ s
  pub sent : now.events ≡ m.events ++ warnings_sent ws

-- the act was done: the state and the warnings are those of the definition
abbrev pub IsActed : Lists Node → List Boxed → List PlainNode → MachineView → MachineView → Acted → Type 0
IsActed store boxes waiting m now (went s ws rs) = StandsFor store boxes waiting m now s ws
IsActed store boxes waiting m now (full line live) = ⊥

-- the line of an act that takes boxes
abbrev pub line_of : Act → ℕ
line_of (acts.Take f) = f.line
line_of (acts.TakeMargin m) = m.line
line_of (acts.Suppress area) = 0
line_of (acts.Page n) = 0
line_of (acts.Columns two) = 0
line_of (acts.Head f) = f.line
line_of (acts.Set c) = 0

-- the list of a first column that waits, if the act changes the columns
abbrev pub dropped_lists : Act → Option Column → List ℕ
dropped_lists (acts.Take f) left = []
dropped_lists (acts.TakeMargin m) left = []
dropped_lists (acts.Suppress area) left = []
dropped_lists (acts.Page n) left = []
dropped_lists (acts.Columns two) left = left_lists left
dropped_lists (acts.Head f) left = []
dropped_lists (acts.Set c) left = []

-- a list that is not the machine's before is not its afterwards
abbrev pub TakesNoList : MachineView → MachineView → Type 0
TakesNoList m now = (q : ℕ) → IsNoneOf q (machine_lists m) → IsNoneOf q (machine_lists now)

-- ---- the machine after each act

-- a float as it is taken in one column or two
abbrev pub clipped : Params → Bool → Float → Float
clipped p two f = record f { height = min_ℤ f.height p.textheight; wide = f.wide && two; deep = f.deep && two && not (has_second p) }

-- a float that was taken is in the pool, without a mark
abbrev pub taken_into : Params → Float → FloatPool → FloatPool
taken_into p f v = record v {
  lists = lists_with_taken p f v.lists;
  second_marks = if has_second p && f.wide then v.second_marks ++ false ∷ [] else v.second_marks;
}

-- a float was taken, with a warning if it is higher than a page
abbrev pub with_float : Float → MachineView → MachineView
with_float f m = record m {
  pool = taken_into m.params (clipped m.params m.two_columns f) m.pool;
  events = m.events ++ warnings_sent (large_warning m.params f);
}

-- both boxes of a marginal note were taken
abbrev pub with_note : Margin → MachineView → MachineView
with_note n m = record m { pool = with_current (entries.Left n ∷ entries.Right n ∷ []) m.pool }

-- floats are kept out of an area
abbrev pub with_suppressed : Area → MachineView → MachineView
with_suppressed area m = record m { suppress = suppressed m.suppress area }

-- the columns changed, and a first column that waited is dropped
abbrev pub with_columns : Bool → MachineView → MachineView
with_columns two m = record m { two_columns = two; first_column = true; left_column = None; suppress = no_suppress }

-- a title was taken, and the goal is the room that it leaves
abbrev pub with_title : Float → MachineView → MachineView
with_title f m = record m {
  pool = with_floats_after parts.Double (taken_head m.params f ∷ []) m.pool;
  goal = column_room_of m.params (lists_with_head (taken_head m.params f) m.pool.lists);
}

-- a pool takes a title above the first of two columns if it is empty, and may hold a box
abbrev pub has_title_room : Bool → FloatPool → Bool
has_title_room above v = above && (live_count v.lists == 0) && int_lt (pos 0) (pos v.size)

-- the pool had room for a title, and the machine has taken it; its goal is one, and if no float was chosen, none is
pub record HasTakenTitle (f : Float) (m now : MachineView) : Type 0 where
  pub room : has_title_room (m.two_columns && m.first_column) m.pool ≡ true
  pub machine : now ≡ with_title f m
  pub goal : IsGoal now.goal
  pub unmarked : HasNoMarks m.pool → HasNoMarks now.pool

-- the pool, which holds this many boxes, had no room for a title; the machine is as before
pub record HasNoTitleRoom (live : ℕ) (m now : MachineView) : Type 0 where
  pub room : has_title_room (m.two_columns && m.first_column) m.pool ≡ false
  pub shown : live ≡ live_count m.pool.lists
  pub machine : now ≡ m

-- the next page has this number
abbrev pub with_page_number : ℕ → MachineView → MachineView
with_page_number n m = record m { number = n }

-- these parameters hold from now on, and the goal is the room of the column
abbrev pub with_changed : Change → MachineView → MachineView
with_changed c m = record m { params = changed m.params c; goal = column_room_of (changed m.params c) m.pool.lists }

-- the parameters after an act
abbrev pub params_acted : Params → Act → Params
params_acted p (acts.Set c) = changed p c
params_acted p _ = p

-- the pool had room for this many boxes, and the machine is the next one; if no float was chosen, none is
pub record HasTaken (boxes : ℕ) (m next now : MachineView) : Type 0 where
  pub room : live_count m.pool.lists + boxes ≤ m.pool.size
  pub machine : now ≡ next
  pub unmarked : HasNoMarks m.pool → HasNoMarks next.pool

-- the pool, which holds this many boxes, had no room for that many more; the machine is as before
pub record HasNoRoom (boxes live : ℕ) (m now : MachineView) : Type 0 where
  pub room : m.pool.size < live_count m.pool.lists + boxes
  pub shown : live ≡ live_count m.pool.lists
  pub machine : now ≡ m
