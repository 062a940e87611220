-- The insertions that stand in a column are some of those of the page.
use Rattle.std.proofs.Common.{Bool, true, false, List, [], ◌∷◌}
use Rattle.std.specs.Prelude.{not, if◌then◌else◌}
use Rattle.std.specs.List.{AllByRecursion}
use Rattle.tb_column.specs.Column.{Notes, is_enlarging, standing_notes}

-- what is so of all of them is so of those that stand
pub standing-have : (P : Notes → Type 0) (ns : List Notes) → AllByRecursion P ns → AllByRecursion P (standing_notes ns)
standing-have P [] h = tt
standing-have P (n ∷ ns) h = by_test (not (is_enlarging n)) (standing-have P ns h.1)
  where
    by_test : (b : Bool) → AllByRecursion P (standing_notes ns) → AllByRecursion P (if b then n ∷ standing_notes ns else standing_notes ns)
    by_test true k = (h.0, k)
    by_test false k = k
