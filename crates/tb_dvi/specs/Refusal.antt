-- What is refused, and its line.
use Rattle.std.specs.Prelude.{◌≡◌, ℕ, List, ◌++◌, Result, Err, codes}
use Rattle.tb_text.specs.Fields.{and_count}
use Rattle.tb_dvi.specs.declared.DviCause.{DviCause}
use Rattle.tb_dvi.specs.declared.DviCause.TheVariants as causes
use Rattle.tb_dvi.specs.declared.lister.ListFault.{ListFault}
use Rattle.tb_dvi.specs.declared.lister.ListFault.TheVariants as faults
use Rattle.tb_dvi.specs.Machine.{Item, Fault}

-- the first command that fails, and its cause; or there was no memory
abbrev pub Misses : ListFault → Result (List Item) Fault → Type 0
Misses (faults.At byte cause) listed = listed ≡ Err (record { byte = byte; cause = cause })
Misses faults.Memory listed = Unit {0}

-- the word of a cause
abbrev pub cause_text : DviCause → List ℕ
cause_text causes.BadPre = codes "BadPre"
cause_text causes.Font = codes "Font"
cause_text causes.BadOp = codes "BadOp"
cause_text causes.Truncated = codes "Truncated"
cause_text causes.Unbalanced = codes "Unbalanced"
cause_text causes.BadPost = codes "BadPost"

-- the line of a file that is not listed
abbrev pub cause_line : ℕ → DviCause → List ℕ
cause_line byte cause = codes "byte" ++ and_count byte ++ codes ": " ++ cause_text cause

-- the line of a page that is out of range
abbrev pub far_line : ℕ → List ℕ
far_line page = codes "page" ++ and_count page ++ codes ": out of DVI range"
