-- What `paginate_dvi` writes, page by page.
use Rattle.std.specs.Prelude.{◌≡◌, ◌⊎◌, ℕ, ℤ, Bool, List, ◌++◌, Option, Some, Result, Ok, Err}
use Rattle.std.specs.Io.KnownBytes.{Appends, append_known}
use Rattle.tb_io.specs.Faults.{Rose}
use Rattle.tb_io.specs.Sink.{AppendsPrefix}
use Rattle.tb_io.specs.declared.sink.SinkFault.{SinkFault}
use Rattle.tb_io.specs.declared.sink.SinkFault.TheVariants as outputs
use Rattle.tb_dvi.specs.declared.page.DviFault.{DviFault}
use Rattle.tb_dvi.specs.declared.page.DviFault.TheVariants as unwritten
use Rattle.tb_dvi.specs.declared.progress.Progress.{Progress}
use Rattle.tb_dvi.specs.File.{Page, file_front, post_bytes, first_too_far}
use Rattle.tb_dvi.specs.Progress.{HasWritten, run_bytes}
use Rattle.tb_run.specs.declared.routine.Ending.{Ending}
use Rattle.tb_run.specs.declared.routine.Ending.TheVariants as endings
use Rattle.tb_top.specs.declared.PageFault.{PageFault}
use Rattle.tb_top.specs.declared.PageFault.TheVariants as faults
use Rattle.tb_top.specs.declared.dvi_pages.DviRunFault.{DviRunFault}
use Rattle.tb_top.specs.declared.dvi_pages.DviRunFault.TheVariants as refused
use Rattle.tb_top.specs.PagesWritten.{write_fault, IsRefusalOf}

-- the refusal of a page that has no bytes
abbrev pub page_failure : DviFault → DviRunFault
page_failure (unwritten.TooFar page) = refused.TooFar page
page_failure unwritten.Memory = refused.Pages faults.Memory

-- out grew by the preamble and these pages, which are all in range, and the progress is theirs
pub record HoldsPages (start now : Option (List ℕ)) (w : Progress) (ps : List Page) : Type 0 where
  pub progress : HasWritten w ps
  pub held : Appends start now (file_front ps)

-- whatever pages come after these, this one is the first out of range, and out grew by what is before it
abbrev pub StopsFar : Option (List ℕ) → Option (List ℕ) → ℕ → List Page → Type 0
StopsFar start now page ps = (textheight : ℤ) (rest : List Page) (well : Bool) → (first_too_far 27 (ps ++ rest) ≡ Some page) × Appends start now (run_bytes textheight (ps ++ rest) well)

-- whatever pages come after these, out grew by a prefix of the file
abbrev pub StopsShort : Option (List ℕ) → Option (List ℕ) → List Page → Type 0
StopsShort start now ps = (textheight : ℤ) (rest : List Page) (well : Bool) → AppendsPrefix start now (run_bytes textheight (ps ++ rest) well)

-- these pages were to be written, of which one is out of range, or writing failed
abbrev pub FailsAmong : DviRunFault → Option (List ℕ) → Option (List ℕ) → List Page → Type 0
FailsAmong (refused.TooFar page) start now ps = StopsFar start now page ps
FailsAmong (refused.Pages f) start now ps = StopsShort start now ps

-- out holds these pages once what is kept is written, or was to hold them
abbrev pub SendsPages : Result (Unit {0}) DviRunFault → Option (List ℕ) → Option (List ℕ) → List ℕ → Progress → List Page → Type 0
SendsPages (Ok u) start now kept w ps = HoldsPages start (append_known now kept) w ps
SendsPages (Err e) start now kept w ps = FailsAmong e start now ps

-- a page is out of range, or writing failed: there was no memory, or the sink failed
abbrev pub IsWriteFailure : ℕ → ℕ → DviRunFault → Type 0
IsWriteFailure before now (refused.TooFar page) = Unit {0}
IsWriteFailure before now (refused.Pages f) = (fault : SinkFault) × (f ≡ write_fault fault) × (fault ≡ outputs.Failed → Rose before now)

-- the postamble and the end of the file that was written so far
abbrev pub last_bytes : ℤ → Progress → List ℕ
last_bytes textheight w = post_bytes textheight w.pages w.any w.last w.place

-- the run ended well, and what is kept and the end of the file are written
abbrev pub EndsFile : ℤ → Progress → Ending → List ℕ → Option (List ℕ) → Option (List ℕ) → Type 0
EndsFile textheight w ending kept old new = (ending ≡ endings.Done) × Appends old new (kept ++ last_bytes textheight w)

-- a text was not written as a whole, and the fault is that of the sink
abbrev pub FailsToWrite : Option (List ℕ) → Option (List ℕ) → List ℕ → PageFault → Type 0
FailsToWrite old new text f = ((fault : SinkFault) × (f ≡ write_fault fault)) × AppendsPrefix old new text

-- writing what is kept failed; or the ending is a refusal, and nothing more is written; or the run ended well, and writing what is kept and the end of the file failed
abbrev pub StopsRun : ℤ → Progress → Ending → List ℕ → Option (List ℕ) → Option (List ℕ) → PageFault → Type 0
StopsRun textheight w ending kept old new f =
    FailsToWrite old new kept f
    ⊎ ((IsRefusalOf ending f × Appends old new kept)
    ⊎ ((ending ≡ endings.Done) × FailsToWrite old new (kept ++ last_bytes textheight w) f))

-- the end of the file fails as the run or its writing does; no page is out of range any more
abbrev pub StopsFile : ℤ → Progress → Ending → List ℕ → Option (List ℕ) → Option (List ℕ) → DviRunFault → Type 0
StopsFile textheight w ending kept old new (refused.Pages f) = StopsRun textheight w ending kept old new f
StopsFile textheight w ending kept old new (refused.TooFar page) = ⊥
