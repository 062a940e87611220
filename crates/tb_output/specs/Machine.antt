-- The output routine's machine as contracts see it.
use Rattle.std.specs.Prelude.{◌≡◌, ◌≤◌, ◌+◌, ℕ, suc, ℤ, pos, ◌≤ℤ◌, nat_abs, Bool, true, false, List, [], ◌∷◌, ◌++◌, map, Option, Some, None, unwrap_or, IsSome, IsTrue}
use Rattle.std.specs.List.{AllByRecursion}
use Rattle.tb_pool.specs.Lists.{Lists, list_at}
use Rattle.tb_node.specs.declared.Node.{Node}
use Rattle.tb_node.specs.PlainNodes.{PlainNode, plain_list, shape_of}
use Rattle.tb_node.specs.Sums.{size_of}
use Rattle.tb_node.specs.Fit.{IsExtent, IsPenalty}
use Rattle.tb_scaled.specs.Amount.{IsAmount}
use Rattle.tb_param.specs.declared.Params.{Params}
use Rattle.tb_param.specs.Ranges.{are_params}
use Rattle.tb_insert.specs.declared.Class.{Class}
use Rattle.tb_builder.specs.FiredPages.{Boxed}
use Rattle.tb_builder.specs.Pageable.{IsGoal}
use Rattle.tb_float.specs.declared.Suppress.{Suppress}
use Rattle.tb_float.specs.Lists.{no_floats}
use Rattle.tb_float.specs.Pool.{FloatPool, HasNoMarks}
use Rattle.tb_float.specs.Ranges.{IsShare}
use Rattle.tb_column.specs.declared.Column.{Column}
use Rattle.tb_sheet.specs.declared.Sent.{Sent}
use Rattle.tb_column.specs.Column.{PlainColumn}
use Rattle.tb_sheet.specs.Sheet.{PlainSent}
use Rattle.tb_column.specs.StoredColumns.{column_shown}
use Rattle.tb_sheet.specs.StoredSheets.{sent_shown, sent_lists, IsPageSent}
use Rattle.tb_column.specs.Notes.{AreDistinct}
use Rattle.tb_column.specs.Page.{IsPageList, IsPageColumn}
use Rattle.tb_column.specs.Ranges.{IsSizedGlue, IsSizedRule, AreColumnParams}
use Rattle.tb_output.specs.declared.RunFault.{RunFault}
use Rattle.tb_output.specs.State.{State, no_suppress}

-- between two firings: the state of the routine, with the names of its lists, the events that were not taken yet, and the fault that ended the run
pub record MachineView : Type 0 where
  pub params : Params
  pub classes : List Class
  pub goal : ℤ
  pub page : ℕ
  pub number : ℕ
  pub dead_cycles : ℕ
  pub held_page : ℕ
  pub held_room : ℤ
  pub note_bottom : ℤ
  pub suppress : Suppress
  pub shrink : ℤ
  pub two_columns : Bool
  pub first_column : Bool
  pub left_column : Option Column
  pub pool : FloatPool
  pub events : List Sent
  pub fault : Option RunFault

-- before the first page, with this list for the held page
abbrev pub first_view : Params → List Class → ℕ → MachineView
first_view p cs held_page = record {
  params = p;
  classes = cs;
  goal = p.textheight;
  page = 1;
  number = 1;
  dead_cycles = 0;
  held_page = held_page;
  held_room = pos 0;
  note_bottom = pos 0;
  suppress = no_suppress;
  shrink = pos 0;
  two_columns = false;
  first_column = true;
  left_column = None;
  pool = record { lists = no_floats; marks = []; second_marks = []; size = nat_abs p.pool };
  events = [];
  fault = None;
}

-- ---- what it shows

-- the column that waits for a second one, with its nodes
abbrev pub left_shown : Lists Node → Option Column → Option PlainColumn
left_shown store None = None
left_shown store (Some c) = Some (column_shown store c)

-- the state of a machine, with these insertion boxes and waiting nodes
abbrev pub state_shown : Lists Node → List Boxed → List PlainNode → MachineView → State
state_shown store boxes waiting m = record {
  params = m.params;
  waiting = waiting;
  classes = m.classes;
  boxes = boxes;
  held_page = plain_list store m.held_page;
  floats = m.pool.lists;
  goal = m.goal;
  two_columns = m.two_columns;
  first_column = m.first_column;
  left_column = left_shown store m.left_column;
  page = m.page;
  number = m.number;
  dead_cycles = m.dead_cycles;
  note_bottom = m.note_bottom;
  suppress = m.suppress;
  shrink = m.shrink;
}

-- events as the definitions see them
abbrev pub events_shown : Lists Node → List Sent → List PlainSent
events_shown store es = map (sent_shown store) es

-- ---- its lists

-- the lists of events
abbrev pub event_lists : List Sent → List ℕ
event_lists [] = []
event_lists (e ∷ es) = sent_lists e ++ event_lists es

-- the list of the column that waits for a second one
abbrev pub left_lists : Option Column → List ℕ
left_lists None = []
left_lists (Some c) = c.list ∷ []

-- all lists of a machine: the held page, the left column, and those of the events
abbrev pub machine_lists : MachineView → List ℕ
machine_lists m = m.held_page ∷ left_lists m.left_column ++ event_lists m.events

-- the list of the left column may be on a page, if there is one
abbrev pub IsPageLeft : Lists Node → Option Column → Type 0
IsPageLeft store None = Unit {0}
IsPageLeft store (Some c) = IsPageColumn store c

-- ---- what holds between two calls

-- the height plus the depth of these nodes, if there are any
abbrev pub IsRoomOf : List Node → ℤ → Type 0
IsRoomOf [] room = Unit {0}
IsRoomOf (n ∷ ns) room = room ≡ size_of (map shape_of (n ∷ ns))

-- a limit on pages or firings
pub record IsLimit (z : ℤ) : Type 0 where
  pub low : pos 0 ≤ℤ z
  pub high : z ≤ℤ pos 4194304

-- how many boxes the pool of floats may hold
pub record IsPoolSize (z : ℤ) : Type 0 where
  pub low : pos 0 ≤ℤ z
  pub high : z ≤ℤ pos 4096

-- the parameters lie in the ranges of their rows, and so those of the routine in the ranges that it requires
pub record AreOutputParams (p : Params) : Type 0 where
  pub all : IsTrue (are_params p)
  pub columns : AreColumnParams p
  pub floatpagefraction : IsShare p.floatpagefraction
  pub dblfloatpagefraction : IsShare p.dblfloatpagefraction
  pub baselineskip : IsExtent p.baselineskip
  pub intextsep : IsSizedGlue p.intextsep
  pub parskip : IsSizedGlue p.parskip
  pub interlinepenalty : IsPenalty p.interlinepenalty
  pub marginparpush : IsExtent p.marginparpush
  pub splitmaxdepth : IsExtent p.splitmaxdepth
  pub maxdeadcycles : IsLimit p.maxdeadcycles
  pub maxpages : IsLimit p.maxpages
  pub pool : IsPoolSize p.pool

-- the numbers of the classes rise strictly from this one on, and the amounts of their glue and their rules are dimensions
abbrev pub AreClassesFrom : ℕ → List Class → Type 0
AreClassesFrom k [] = Unit {0}
AreClassesFrom k (c ∷ cs) = (k ≤ c.number) × IsSizedGlue c.skip × AreClassesFrom (suc c.number) cs × IsSizedRule (unwrap_or c.below None)

-- the parameters, the classes, the count of pages, the page number and the shrink are in their ranges, the pool is as large as the parameters say and chooses no float,
-- a second column has a first one, the room of the held page is known, and the machine's lists may be on pages, no two of them the same
pub record IsMachine (m : MachineView) (store : Lists Node) : Type 0 where
  pub params : AreOutputParams m.params
  pub classes : AreClassesFrom 0 m.classes
  pub goal : IsGoal m.goal
  pub first : 1 ≤ m.page
  pub last : m.page ≤ 4194305
  pub numbered : m.number ≤ m.page + 1000000
  pub shrink : IsAmount m.shrink
  pub pool : pos m.pool.size ≡ m.params.pool
  pub unmarked : HasNoMarks m.pool
  pub left : m.first_column ≡ false → IsSome m.left_column
  pub held_page : IsPageList store m.held_page
  pub held_room : IsRoomOf (list_at store m.held_page) m.held_room
  pub left_column : IsPageLeft store m.left_column
  pub events : AllByRecursion (IsPageSent store) m.events
  pub apart : AreDistinct (machine_lists m)
