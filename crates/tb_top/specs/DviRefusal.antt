-- The status and the text of each refusal of a DVI file.
use Rattle.std.specs.Prelude.{◌≡◌, ℕ, List}
use Rattle.tb_galley.specs.declared.Cause.TheVariants as causes
use Rattle.tb_galley.specs.declared.Fault.{Fault}
use Rattle.tb_galley.specs.declared.GalleyFault.TheVariants as unread
use Rattle.tb_galley.specs.Faults.{fault}
use Rattle.tb_dvi.specs.Refusal.{cause_line, far_line}
use Rattle.tb_top.specs.declared.dvi_refusal.DviRefusal.{DviRefusal}
use Rattle.tb_top.specs.declared.dvi_refusal.DviRefusal.TheVariants as dvi
use Rattle.tb_top.specs.declared.refusal.Refusal.{Refusal}
use Rattle.tb_top.specs.declared.refusal.Refusal.TheVariants as refusals
use Rattle.tb_top.specs.declared.status.Status.{Status}
use Rattle.tb_top.specs.declared.status.Status.TheVariants as answers
use Rattle.tb_top.specs.Answer.{Reply, fault_reply, cause_reply}

-- the status of the refusal of a DVI file or of a listing
abbrev pub dvi_status : DviRefusal → Status
dvi_status (dvi.TooFar page) = answers.TooFar
dvi_status (dvi.At byte cause) = answers.Dvi

-- what its line on standard error shows
abbrev pub dvi_text : DviRefusal → List ℕ
dvi_text (dvi.TooFar page) = far_line page
dvi_text (dvi.At byte cause) = cause_line byte cause

-- the fault of a file that is too long
abbrev pub too_long : Fault
too_long = fault 0 0 causes.InputSize

-- why a file is not listed: it is too long, its first command that fails, or there was no memory
abbrev pub IsNoListing : Reply → Refusal → Type 0
IsNoListing reply (refusals.Galley (unread.At f)) = (f ≡ too_long) × (reply ≡ fault_reply too_long)
IsNoListing reply (refusals.Dvi (dvi.At byte cause)) = reply ≡ cause_reply byte cause
IsNoListing reply refusals.Memory = Unit {0}
IsNoListing reply (refusals.Dvi (dvi.TooFar page)) = ⊥
IsNoListing reply (refusals.Galley unread.Memory) = ⊥
IsNoListing reply (refusals.Words f) = ⊥
IsNoListing reply (refusals.Input f) = ⊥
IsNoListing reply (refusals.Pages f) = ⊥
IsNoListing reply (refusals.Lines f) = ⊥
IsNoListing reply (refusals.Output f) = ⊥
IsNoListing reply (refusals.Unsuited n) = ⊥
IsNoListing reply refusals.Choices = ⊥
