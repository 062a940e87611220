-- A machine with other floats, events, goal, count of dead cycles, bottom of notes, fault or closed areas.
use Rattle.std.proofs.Common.{◌≡◌, refl, ◌∙◌, ap, ℕ, ℤ, pos, List, Option}
use Rattle.std.specs.List.{AllByRecursion}
use Rattle.tb_pool.specs.Lists.{Lists}
use Rattle.tb_node.specs.declared.Node.{Node}
use Rattle.tb_scaled.specs.Amount.{IsAmount}
use Rattle.tb_builder.specs.Pageable.{IsGoal}
use Rattle.tb_float.specs.declared.Suppress.{Suppress}
use Rattle.tb_float.specs.Pool.{FloatPool, HasNoMarks}
use Rattle.tb_sheet.specs.declared.Sent.{Sent}
use Rattle.tb_column.specs.Notes.{AreDistinct}
use Rattle.tb_output.specs.declared.RunFault.{RunFault}
use Rattle.tb_output.specs.Machine.{MachineView, machine_lists, IsMachine}
use Rattle.tb_sheet.specs.StoredSheets.{IsPageSent}

-- it is still one, if its pool is as large and chooses no float, and the lists of its events may be on pages and are apart
pub machine-with : {v : FloatPool} {es : List Sent} {g bottom : ℤ} {cycles : ℕ} {fault : Option RunFault} {suppress : Suppress} (m : MachineView) (store : Lists Node) → IsMachine m store
    → IsGoal g → v.size ≡ m.pool.size → HasNoMarks v → AllByRecursion (IsPageSent store) es → AreDistinct (machine_lists (record m { events = es }))
    → IsMachine (record m { pool = v; events = es; goal = g; dead_cycles = cycles; note_bottom = bottom; fault = fault; suppress = suppress }) store
machine-with m store is goal size unmarked events apart = record {
  params = is.params;
  classes = is.classes;
  goal = goal;
  first = is.first;
  last = is.last;
  numbered = is.numbered;
  shrink = is.shrink;
  pool = ap (λ n. pos n) size ∙ is.pool;
  unmarked = unmarked;
  left = is.left;
  held_page = is.held_page;
  held_room = is.held_room;
  left_column = is.left_column;
  events = events;
  apart = apart;
}

-- the floats and the events are as before
pub machine-beside : (m : MachineView) (store : Lists Node) → IsMachine m store → (g : ℤ) → IsGoal g → (cycles : ℕ) (bottom : ℤ) (fault : Option RunFault) → IsMachine (record m { goal = g; dead_cycles = cycles; note_bottom = bottom; fault = fault }) store
machine-beside m store is g small cycles bottom fault = machine-with m store is small refl is.unmarked is.events is.apart

-- it serves a page of another shrink
pub machine-shrunk : (m : MachineView) (store : Lists Node) (s : ℤ) → IsMachine m store → IsAmount s → IsMachine (record m { shrink = s }) store
machine-shrunk m store s is small = record {
  params = is.params;
  classes = is.classes;
  goal = is.goal;
  first = is.first;
  last = is.last;
  numbered = is.numbered;
  shrink = small;
  pool = is.pool;
  unmarked = is.unmarked;
  left = is.left;
  held_page = is.held_page;
  held_room = is.held_room;
  left_column = is.left_column;
  events = is.events;
  apart = is.apart;
}
