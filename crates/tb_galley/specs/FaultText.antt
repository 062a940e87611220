-- The name of each cause of a fault, and its kind.
use Rattle.std.specs.Prelude.{ℕ, Bool, true, false, List, ◌++◌, codes, decimal}
use Rattle.tb_galley.specs.declared.Cause.{Cause}
use Rattle.tb_galley.specs.declared.Cause.TheVariants as causes
use Rattle.tb_galley.specs.declared.Fault.{Fault}

-- the name in the line on standard error
abbrev pub cause_name : Cause → List ℕ
cause_name causes.InputSize = codes "InputSize"
cause_name causes.LineLength = codes "LineLength"
cause_name causes.NotAscii = codes "NotAscii"
cause_name causes.NoHeader = codes "NoHeader"
cause_name causes.AfterEnd = codes "AfterEnd"
cause_name causes.UnknownWord = codes "UnknownWord"
cause_name causes.SetAfterItem = codes "SetAfterItem"
cause_name causes.NestedFoot = codes "NestedFoot"
cause_name causes.NotInFoot = codes "NotInFoot"
cause_name causes.StrayEndfoot = codes "StrayEndfoot"
cause_name causes.StrayHead = codes "StrayHead"
cause_name causes.UnclosedFoot = codes "UnclosedFoot"
cause_name causes.NestedPar = codes "NestedPar"
cause_name causes.NotInPar = codes "NotInPar"
cause_name causes.StrayEndpar = codes "StrayEndpar"
cause_name causes.UnclosedPar = codes "UnclosedPar"
cause_name causes.Items = codes "Items"
cause_name causes.MissingField = codes "MissingField"
cause_name causes.ExtraField = codes "ExtraField"
cause_name causes.UnknownParameter = codes "UnknownParameter"
cause_name causes.WrongForm = codes "WrongForm"
cause_name causes.BadNumber = codes "BadNumber"
cause_name causes.BadUnit = codes "BadUnit"
cause_name causes.BadName = codes "BadName"
cause_name causes.BadPlace = codes "BadPlace"
cause_name causes.Dimension = codes "Dimension"
cause_name causes.Penalty = codes "Penalty"
cause_name causes.Class = codes "Class"
cause_name causes.Parameter = codes "Parameter"
cause_name causes.NoEnd = codes "NoEnd"

-- whether the fault is one of range: something too long, too many or out of its range; every other fault is one of syntax
abbrev pub is_range_cause : Cause → Bool
is_range_cause causes.InputSize = true
is_range_cause causes.LineLength = true
is_range_cause causes.Items = true
is_range_cause causes.Dimension = true
is_range_cause causes.Penalty = true
is_range_cause causes.Class = true
is_range_cause causes.Parameter = true
is_range_cause _ = false

-- where and why an input is at fault
abbrev pub fault_text : Fault → List ℕ
fault_text f = codes "line " ++ (decimal f.line ++ (codes " field " ++ (decimal f.field ++ (codes ": " ++ cause_name f.cause))))
