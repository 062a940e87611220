-- How the machine changes when it ships a page, and when a column is done (ltoutput.dtx, \@outputpage, \@opcol and
-- \@outputdblcol).
use Rattle.std.specs.Prelude.{◌≡◌, ◌+◌, ℕ, ℤ, pos, true, false, [], ◌∷◌, ◌++◌, int_lt, Some, None}
use Rattle.tb_float.specs.declared.Part.TheVariants as parts
use Rattle.tb_float.specs.Lists.{FloatLists, wide_part, wide_waiting}
use Rattle.tb_float.specs.Pool.{without_entries}
use Rattle.tb_area.specs.Deferred.{filled, doubled}
use Rattle.tb_column.specs.declared.Column.{Column}
use Rattle.tb_sheet.specs.declared.Sheet.{Sheet}
use Rattle.tb_sheet.specs.declared.Warn.{Warn}
use Rattle.tb_sheet.specs.declared.Sent.TheVariants as events
use Rattle.tb_output.specs.declared.RunFault.{RunFault}
use Rattle.tb_output.specs.declared.RunFault.TheVariants as faults
use Rattle.tb_output.specs.State.{no_suppress}
use Rattle.tb_output.specs.Machine.{MachineView}

-- the machine after this warning was sent
abbrev pub with_warning : Warn → MachineView → MachineView
with_warning w m = record m { events = m.events ++ events.Warn w ∷ [] }

-- the machine after this page was shipped
abbrev pub shipped_machine : Sheet → MachineView → MachineView
shipped_machine sheet m = record m { events = m.events ++ events.Ship m.number sheet ∷ []; page = m.page + 1; number = m.number + 1; dead_cycles = 0 }

-- fewer than `maxpages` pages were shipped before, and this one was shipped
pub record HasShipped (sheet : Sheet) (m now : MachineView) : Type 0 where
  pub room : int_lt m.params.maxpages (pos m.page) ≡ false
  pub machine : now ≡ shipped_machine sheet m

-- n pages were shipped, and `maxpages` allows no more; nothing changed
pub record IsFull (n : ℕ) (m now : MachineView) : Type 0 where
  pub full : int_lt m.params.maxpages (pos m.page) ≡ true
  pub pages : n + 1 ≡ m.page
  pub machine : now ≡ m

-- no page was shipped: `maxpages` allows no more, or there was no memory
abbrev pub HasNotShipped : RunFault → MachineView → MachineView → Type 0
HasNotShipped (faults.DeadCycles n) m now = ⊥
HasNotShipped (faults.PageLimit n) m now = IsFull n m now
HasNotShipped faults.Memory m now = now ≡ m

-- this page of this room is held
abbrev pub with_held : ℕ → ℤ → MachineView → MachineView
with_held l room m = record m { held_page = l; held_room = room }

-- the first of two columns is kept for the second
abbrev pub with_left : Column → MachineView → MachineView
with_left c m = record m { left_column = Some c; first_column = false }

-- both columns were shipped
abbrev pub without_left : MachineView → MachineView
without_left m = record m { left_column = None; first_column = true }

-- the wide floats of a page left the pool
abbrev pub without_doubles : MachineView → MachineView
without_doubles m = record m { pool = without_entries parts.Double m.pool }

-- the lists once the wide floats that wait were tried for the top of the next two columns
abbrev pub doubled_lists : MachineView → FloatLists
doubled_lists m = doubled (wide_part m.params) m.params m.suppress [] (wide_waiting m.params m.pool.lists) m.pool.lists

-- the lists once the deferred floats were tried for the next column
abbrev pub filled_lists : MachineView → FloatLists
filled_lists m = filled m.params m.suppress [] m.pool.lists.deferred m.pool.lists

-- after a column: the next one has no marginal note, and nothing is kept out of its areas
abbrev pub with_column_done : MachineView → MachineView
with_column_done m = record m { note_bottom = pos 0; suppress = no_suppress }
