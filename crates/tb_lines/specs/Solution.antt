-- How a solution is seen.
use Rattle.std.specs.Prelude.{ℕ, ℤ, List}

-- breaks in rising order, and the total demerits of their lines
pub record SolutionView : Type 0 where
  pub breaks : List ℕ
  pub total : ℤ
