-- What the definition of a text's galley gives.
use Rattle.std.specs.Prelude.{◌≡◌, List, ℕ, Ok, MatchOption}
use Rattle.tb_lines.specs.declared.text.Item.{Item}
use Rattle.tb_lines.specs.declared.text.LineParams.{LineParams}
use Rattle.tb_lines.specs.Entries.{list_of}
use Rattle.tb_lines.specs.LeastSolution.{IsLeastOf, HasNone}
use Rattle.tb_lines.specs.Galley.{least_of, lines_galley}
use Rattle.tb_lines.specs.Accepted.{IsAccepted}

-- the solution of a paragraph is the least of all its solutions; it has none exactly if no solution is feasible
abbrev pub SolutionsAreLeast : Type 0
SolutionsAreLeast = (ps : LineParams) (items : List Item) → MatchOption (least_of ps items) (HasNone ps (list_of items)) (λ s. IsLeastOf ps items s)

-- every galley of lines is a galley by the galleys' own grammar
abbrev pub GalleysAreAccepted : Type 0
GalleysAreAccepted = (bytes galley : List ℕ) → lines_galley bytes ≡ Ok galley → IsAccepted galley
