-- The breaks that can still begin a line.
use Rattle.std.specs.Prelude.{◌≡◌, ◌⊎◌, ◌<◌, ◌≤◌, ℕ, true, List, Option, Some, None}
use Rattle.tb_lines.specs.declared.entries.Entry.{Entry}
use Rattle.tb_lines.specs.declared.text.LineParams.{LineParams}
use Rattle.tb_lines.specs.declared.table.Best.{Best}
use Rattle.tb_lines.specs.declared.table.Active.{Active}
use Rattle.tb_lines.specs.SolutionLines.{last_forced, is_up_to, step_demerits}
use Rattle.tb_lines.specs.Table.{row_at, table_of}

-- a break with this row begins no line to place n or past it: no way leads to the break, or no such line is feasible
abbrev pub IsPassedBy : LineParams → List Entry → ℕ → Option Best → ℕ → Type 0
IsPassedBy ps es n row i = (row ≡ None) ⊎ ((j : ℕ) → n ≤ j → step_demerits ps es (Some i) j ≡ None)

-- the same by the table of the best ways
abbrev pub IsPassed : LineParams → List Entry → ℕ → ℕ → Type 0
IsPassed ps es n i = IsPassedBy ps es n (row_at (table_of ps es n) i) i

-- lines to place n or past it begin at none of the breaks that were left out
pub record IsActive (ps : LineParams) (es : List Entry) (n : ℕ) (a : Active) : Type 0 where
  pub forced : a.forced ≡ last_forced es n
  pub up_to : is_up_to a.forced (Some a.low) ≡ true
  pub within : a.low ≤ n
  pub passed : (i : ℕ) → i < a.low → IsPassed ps es n i
