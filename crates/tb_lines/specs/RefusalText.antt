-- What is said of a refusal.
use Rattle.std.specs.Prelude.{ℕ, List, ◌++◌, codes, decimal}
use Rattle.tb_galley.specs.Faults.{fault}
use Rattle.tb_galley.specs.FaultText.{fault_text}
use Rattle.tb_lines.specs.declared.LinesRefusal.{LinesRefusal}
use Rattle.tb_lines.specs.declared.LinesRefusal.TheVariants as refusals
use Rattle.tb_lines.specs.Galley.{NoGalley, faulty, no_breaks}

-- the first paragraph that no way breaks
abbrev pub no_breaks_text : ℕ → List ℕ
no_breaks_text n = codes "paragraph " ++ (decimal n ++ codes ": no feasible breaks")

-- why an input has no galley of lines
abbrev pub no_galley_text : NoGalley → List ℕ
no_galley_text (faulty f) = fault_text f
no_galley_text (no_breaks n) = no_breaks_text n

-- the same of the code's refusal
abbrev pub refusal_text : LinesRefusal → List ℕ
refusal_text (refusals.At line field cause) = fault_text (fault line field cause)
refusal_text (refusals.NoBreaks n) = no_breaks_text n
refusal_text refusals.Memory = codes "out of memory"
