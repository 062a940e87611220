-- The table of the best way to each break: one break before each.
use Rattle.std.specs.Prelude.{◌≡◌, ◌<◌, ℕ, zero, suc, ℤ, pos, Bool, true, int_le, List, [], ◌∷◌, ◌++◌, Option, Some, None, slice_get, if◌then◌else◌}
use Rattle.tb_lines.specs.declared.entries.Entry.{Entry}
use Rattle.tb_lines.specs.declared.text.LineParams.{LineParams}
use Rattle.tb_lines.specs.declared.table.Best.{Best}
use Rattle.tb_lines.specs.LeastSolution.{sum_of_both}
use Rattle.tb_lines.specs.SolutionLines.{step_demerits}

-- the total of the best way to a break, if there is a way
abbrev pub total_in : Option Best → Option ℤ
total_in None = None
total_in (Some b) = Some b.total

-- the least demerits up to a break; 0 for the start of the paragraph
abbrev pub reached : (ℕ → Option Best) → Option ℕ → Option ℤ
reached table None = Some (pos 0)
reached table (Some i) = total_in (table i)

-- the demerits, by the table, of coming to break j from here
abbrev pub offer : (Option ℕ → ℕ → Option ℤ) → (ℕ → Option Best) → ℕ → Option ℕ → Option ℤ
offer edge table j q = sum_of_both (reached table q) (edge q j)

-- an offer is kept if none was better
abbrev pub is_kept : Option Best → ℤ → Bool
is_kept None d = true
is_kept (Some b) d = int_le d b.total

-- the best with one more offer
abbrev pub with_offer : Option Best → Option ℕ → Option ℤ → Option Best
with_offer best q None = best
with_offer best q (Some d) = if is_kept best d then Some (record { total = d; from = q }) else best

-- the last best of the offers of the start and of the breaks before i
abbrev pub best_among : (Option ℕ → Option ℤ) → ℕ → Option Best
best_among offers zero = with_offer None None (offers None)
best_among offers (suc i) = with_offer (best_among offers i) (Some i) (offers (Some i))

-- the break before
abbrev pub from_in : Option Best → Option ℕ
from_in None = None
from_in (Some b) = b.from

-- what a row of a table says
abbrev pub row_in : Option (Option Best) → Option Best
row_in None = None
row_in (Some b) = b

-- the row of a break in a table
abbrev pub row_at : List (Option Best) → ℕ → Option Best
row_at rows k = row_in (slice_get rows k)

-- the best of the places before n
abbrev pub table_of : LineParams → List Entry → ℕ → List (Option Best)
table_of ps es zero = []
table_of ps es (suc j) = table_of ps es j ++ best_among (offer (step_demerits ps es) (row_at (table_of ps es j)) j) j ∷ []

-- the breaks before this one are those that the table names
abbrev pub Follows : (ℕ → Option Best) → Option ℕ → List ℕ → Type 0
Follows table None [] = Unit {0}
Follows table None (i ∷ js) = ⊥
Follows table (Some i) [] = ⊥
Follows table (Some i) (k ∷ js) = (i ≡ k) × ((b : Best) × (table k ≡ Some b) × Follows table b.from js)

-- a row that another row names is before it
abbrev pub AreLinked : List (Option Best) → Type 0
AreLinked rows = (k : ℕ) (b : Best) (i : ℕ) → row_at rows k ≡ Some b → b.from ≡ Some i → (i < k) × ((c : Best) × (row_at rows i ≡ Some c))
