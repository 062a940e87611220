-- What `why_pages` returns and writes.
use Rattle.std.specs.Prelude.{◌≡◌, ℕ, List, Option, None}
use Rattle.std.specs.Io.KnownBytes.{Appends}
use Rattle.tb_report.specs.declared.Totals.{Totals}
use Rattle.tb_steps.specs.Run.{Run}
use Rattle.tb_laws.specs.Totals.{totals_of}
use Rattle.tb_top.specs.Pages.{end_fault}

-- the run ended well, its totals are returned, and its text was written
pub record Explains (r : Run) (text : List ℕ) (old new : Option (List ℕ)) (t : Totals) : Type 0 where
  pub ended : end_fault r.end ≡ None
  pub totals : t ≡ totals_of r.events
  pub written : Appends old new text
