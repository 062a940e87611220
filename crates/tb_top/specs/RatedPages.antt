-- What `rate_pages` returns and writes, of a run with this end, these demerits and this text.
use Rattle.std.specs.Prelude.{◌≡◌, ◌⊎◌, ℕ, ℤ, pos, ◌≤ℤ◌, List, Option, Some, None}
use Rattle.std.specs.Io.KnownBytes.{Appends}
use Rattle.tb_steps.specs.Run.{End}
use Rattle.tb_top.specs.declared.PageFault.{PageFault}
use Rattle.tb_top.specs.declared.PageFault.TheVariants as faults
use Rattle.tb_top.specs.Pages.{end_fault}

-- the run ended well, its demerits are returned, and its text was written
pub record Rates (end : End) (sum : Option ℤ) (text : List ℕ) (old new : Option (List ℕ)) (d : ℤ) : Type 0 where
  pub ended : end_fault end ≡ None
  pub demerits : sum ≡ Some d
  pub written : Appends old new text

-- the demerits of a run are in their range
pub record IsGreedy (d : ℤ) : Type 0 where
  pub low : pos 0 ≤ℤ d
  pub high : d ≤ℤ pos 1000000000000000000000000000

-- a run with this end was refused so, or there was no memory for it
abbrev pub StopsRated : End → PageFault → Type 0
StopsRated end f = (f ≡ faults.Memory) ⊎ (end_fault end ≡ Some f)
