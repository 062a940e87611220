-- What `rate_pages` writes, turn by turn.
use Rattle.std.specs.Prelude.{◌≡◌, ◌⊎◌, ℕ, ℤ, pos, ◌≤ℤ◌, List, ◌++◌, Option, Some, None}
use Rattle.std.specs.Io.KnownBytes.{Appends}
use Rattle.tb_report.specs.declared.Totals.{Totals}
use Rattle.tb_run.specs.declared.routine.Routine.{Routine}
use Rattle.tb_run.specs.declared.routine.Ending.{Ending}
use Rattle.tb_run.specs.declared.routine.Ending.TheVariants as endings
use Rattle.tb_rate.specs.declared.Rating.{Rating}
use Rattle.tb_rate.specs.RatingLines.{demerits_line}
use Rattle.tb_top.specs.declared.PageFault.{PageFault}
use Rattle.tb_top.specs.declared.View.TheVariants as views
use Rattle.tb_top.specs.PagesWritten.{write_fault, last_lines, IsRefusalOf}
use Rattle.tb_top.specs.Views.{FailsToShow}

-- a turn that ends the run has no rating that counts
abbrev pub unless_ended : Option Ending → Option Rating → Option Rating
unless_ended None o = o
unless_ended (Some e) o = None

-- the demerits of a rating are in the range of a rating
pub record IsRated (r : Rating) : Type 0 where
  pub low : pos 0 ≤ℤ r.demerits
  pub high : r.demerits ≤ℤ pos 352689971456

-- the last lines of the report, and the demerits
abbrev pub last_rated_lines : Routine → Totals → ℤ → List ℕ
last_rated_lines r t d = last_lines r t ++ demerits_line d

-- the ending is a refusal, and nothing more is written; or the run is done, and writing its last lines failed
abbrev pub StopsWith : Routine → Totals → ℤ → Ending → Option (List ℕ) → Option (List ℕ) → ℕ → ℕ → PageFault → Type 0
StopsWith r t d e held_old held_new before now f =
    (IsRefusalOf e f × (held_new ≡ held_old)) ⊎ ((e ≡ endings.Done) × FailsToShow write_fault views.Report held_old held_new before now (last_rated_lines r t d) f)

-- the run ended well: its demerits are returned, and its last lines are written
pub record EndsWell (r : Routine) (t : Totals) (d : ℤ) (e : Ending) (held_old held_new : Option (List ℕ)) (u : ℤ) : Type 0 where
  pub ending : e ≡ endings.Done
  pub demerits : u ≡ d
  pub written : Appends held_old held_new (last_rated_lines r t d)
