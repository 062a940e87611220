-- What `paginate_plain` writes, page by page.
use Rattle.std.specs.Prelude.{◌≡◌, ◌⊎◌, ℕ, List, [], ◌++◌, Option}
use Rattle.std.specs.Io.KnownBytes.{Appends}
use Rattle.tb_io.specs.declared.sink.SinkFault.{SinkFault}
use Rattle.tb_io.specs.declared.sink.SinkFault.TheVariants as outputs
use Rattle.tb_report.specs.declared.Totals.{Totals}
use Rattle.tb_report.specs.Lines.{end_lines}
use Rattle.tb_plain.specs.Run.{MakeupRun, makeup_of_state}
use Rattle.tb_makeup.specs.declared.makeup.Makeup.{Makeup}
use Rattle.tb_makeup.specs.Makeup.{state_of}
use Rattle.tb_makeup.specs.declared.makeup.MakeupEnding.{MakeupEnding}
use Rattle.tb_makeup.specs.declared.makeup.MakeupEnding.TheVariants as endings
use Rattle.tb_top.specs.declared.View.{View}
use Rattle.tb_top.specs.declared.makeup_pages.PlainRunFault.{PlainRunFault}
use Rattle.tb_top.specs.declared.makeup_pages.PlainRunFault.TheVariants as faults
use Rattle.tb_top.specs.Views.{viewed, FailsToShow}

-- the run of a page makeup from here on
abbrev pub run_on : Makeup → MakeupRun
run_on r = makeup_of_state r.plain.params (state_of r)

-- the fault of pages whose text was not written
abbrev pub write_fault : SinkFault → PlainRunFault
write_fault outputs.Failed = faults.WriteFault
write_fault outputs.Memory = faults.Memory

-- the refusal of an ending
abbrev pub IsRefusalOf : MakeupEnding → PlainRunFault → Type 0
IsRefusalOf endings.Done f = ⊥
IsRefusalOf (endings.PageLimit n) f = f ≡ faults.PageLimit n
IsRefusalOf (endings.NodeLimit n) f = f ≡ faults.NodeLimit n

-- writing what is kept failed; or the ending is a refusal, and nothing more is written; or the run is done, and writing what is kept and its last line failed
abbrev pub StopsWith : View → Totals → MakeupEnding → List ℕ → Option (List ℕ) → Option (List ℕ) → ℕ → ℕ → PlainRunFault → Type 0
StopsWith v t e kept held_old held_new before now f =
    FailsToShow write_fault v held_old held_new before now kept f
    ⊎ ((IsRefusalOf e f × Appends held_old held_new (viewed v kept))
    ⊎ ((e ≡ endings.Done) × FailsToShow write_fault v held_old held_new before now (kept ++ end_lines [] t) f))

-- the run ended well: its totals are returned, and what is kept and its last line are written
pub record EndsWell (v : View) (t : Totals) (e : MakeupEnding) (kept : List ℕ) (held_old held_new : Option (List ℕ)) (u : Totals) : Type 0 where
  pub ending : e ≡ endings.Done
  pub totals : u ≡ t
  pub written : Appends held_old held_new (viewed v (kept ++ end_lines [] t))
