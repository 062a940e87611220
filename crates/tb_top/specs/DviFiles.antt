-- What `paginate_dvi` returns and writes.
use Rattle.std.specs.Prelude.{◌≡◌, ℕ, List, Option, Some, None}
use Rattle.std.specs.Io.KnownBytes.{Appends}
use Rattle.tb_io.specs.Sink.{AppendsPrefix}
use Rattle.tb_galley.specs.declared.Galley.{Galley}
use Rattle.tb_steps.specs.Run.{run_of}
use Rattle.tb_top.specs.declared.PageFault.{PageFault}
use Rattle.tb_top.specs.declared.PageFault.TheVariants as faults
use Rattle.tb_top.specs.declared.dvi_pages.DviRunFault.{DviRunFault}
use Rattle.tb_top.specs.declared.dvi_pages.DviRunFault.TheVariants as refused
use Rattle.tb_top.specs.Pages.{end_fault}
use Rattle.tb_laws.specs.DviFiles.{far_page, galley_file}

-- the run ended like this, each page is in range, and its file is written
pub record Writes (g : Galley) (old new : Option (List ℕ)) (end : Option PageFault) : Type 0 where
  pub ended : end_fault (run_of g).end ≡ end
  pub near : far_page g ≡ None
  pub written : Appends old new (galley_file g)

-- the run ended well, each page is in range, and its file is written
abbrev pub WritesFile : Galley → Option (List ℕ) → Option (List ℕ) → Type 0
WritesFile g old new = Writes g old new None

-- after each refusal of the run: after a failed write, or if memory ran out, a prefix of the file is written
abbrev pub RefusesPages : Galley → Option (List ℕ) → Option (List ℕ) → PageFault → Type 0
RefusesPages g old new (faults.PoolFull line live) = Writes g old new (Some (faults.PoolFull line live))
RefusesPages g old new (faults.DeadCycles n) = Writes g old new (Some (faults.DeadCycles n))
RefusesPages g old new (faults.PageLimit n) = Writes g old new (Some (faults.PageLimit n))
RefusesPages g old new (faults.NodeLimit n) = Writes g old new (Some (faults.NodeLimit n))
RefusesPages g old new faults.WriteFault = AppendsPrefix old new (galley_file g)
RefusesPages g old new faults.Memory = AppendsPrefix old new (galley_file g)

-- after each refusal: that of the run, or this page is the first out of range, and the pages before it are written
abbrev pub RefusesFile : Galley → Option (List ℕ) → Option (List ℕ) → DviRunFault → Type 0
RefusesFile g old new (refused.Pages f) = RefusesPages g old new f
RefusesFile g old new (refused.TooFar page) = (far_page g ≡ Some page) × Appends old new (galley_file g)
