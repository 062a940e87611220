-- What `paginate` writes, piece by piece.
use Rattle.std.specs.Prelude.{◌≡◌, ◌⊎◌, ℕ, List, ◌++◌, length, Option}
use Rattle.std.specs.Io.KnownBytes.{Appends}
use Rattle.tb_node.specs.PlainNodes.{plain_list}
use Rattle.tb_io.specs.declared.sink.SinkFault.{SinkFault}
use Rattle.tb_io.specs.declared.sink.SinkFault.TheVariants as outputs
use Rattle.tb_sheet.specs.Sheet.{PlainSent, warned, shipped}
use Rattle.tb_report.specs.declared.Totals.{Totals}
use Rattle.tb_report.specs.Lines.{end_lines}
use Rattle.tb_report.specs.RunTotals.{sheet_nodes}
use Rattle.tb_top.specs.declared.View.{View}
use Rattle.tb_top.specs.declared.PageFault.{PageFault}
use Rattle.tb_top.specs.declared.PageFault.TheVariants as faults
use Rattle.tb_output.specs.declared.RunFault.{RunFault}
use Rattle.tb_output.specs.declared.RunFault.TheVariants as refused
use Rattle.tb_run.specs.declared.routine.Routine.{Routine}
use Rattle.tb_run.specs.declared.routine.Ending.{Ending}
use Rattle.tb_run.specs.declared.routine.Ending.TheVariants as endings
use Rattle.tb_steps.specs.Run.{Run, run_of_state}
use Rattle.tb_run.specs.Routine.{state_of}
use Rattle.tb_top.specs.Views.{viewed, FailsToShow}

-- the run of a routine from here on
abbrev pub run_on : Routine → Run
run_on r = run_of_state (state_of r)

-- the fault of pages whose text was not written
abbrev pub write_fault : SinkFault → PageFault
write_fault outputs.Failed = faults.WriteFault
write_fault outputs.Memory = faults.Memory

-- the lines of what is left on the page, and the last line
abbrev pub last_lines : Routine → Totals → List ℕ
last_lines r t = end_lines (plain_list r.store r.builder.page) t

-- the refusal of a fault of the output routine's machine
abbrev pub IsFaultRefusal : RunFault → PageFault → Type 0
IsFaultRefusal (refused.DeadCycles n) f = f ≡ faults.DeadCycles n
IsFaultRefusal (refused.PageLimit n) f = f ≡ faults.PageLimit n
IsFaultRefusal refused.Memory f = f ≡ faults.Memory

-- the refusal of an ending
abbrev pub IsRefusalOf : Ending → PageFault → Type 0
IsRefusalOf endings.Done f = ⊥
IsRefusalOf (endings.PoolFull line live) f = f ≡ faults.PoolFull line live
IsRefusalOf (endings.Fault e) f = IsFaultRefusal e f
IsRefusalOf (endings.NodeLimit n) f = f ≡ faults.NodeLimit n

-- writing what is kept failed; or the ending is a refusal, and nothing more is written; or the run is done, and writing what is kept and its last lines failed
abbrev pub StopsWith : View → Routine → Totals → Ending → List ℕ → Option (List ℕ) → Option (List ℕ) → ℕ → ℕ → PageFault → Type 0
StopsWith v r t e kept held_old held_new before now f =
    FailsToShow write_fault v held_old held_new before now kept f
    ⊎ ((IsRefusalOf e f × Appends held_old held_new (viewed v kept))
    ⊎ ((e ≡ endings.Done) × FailsToShow write_fault v held_old held_new before now (kept ++ last_lines r t) f))

-- the run ended well: its totals are returned, and what is kept and its last lines are written
pub record EndsWell (v : View) (r : Routine) (t : Totals) (e : Ending) (kept : List ℕ) (held_old held_new : Option (List ℕ)) (u : Totals) : Type 0 where
  pub ending : e ≡ endings.Done
  pub totals : u ≡ t
  pub written : Appends held_old held_new (viewed v (kept ++ last_lines r t))

-- how many nodes a page has
abbrev pub node_total : PlainSent → ℕ
node_total (warned w) = 0
node_total (shipped page sheet) = length (sheet_nodes sheet)
