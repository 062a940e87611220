-- Sums of a few heights. No public clause cites this module.
use Rattle.std.specs.Prelude.{ℕ, ◌*◌, ℤ, pos, ◌≤ℤ◌}

-- this many heights add up to no less than 0, and to no more than the greatest dimension each
pub record IsSumOf (n : ℕ) (z : ℤ) : Type 0 where
  pub low : pos 0 ≤ℤ z
  pub high : z ≤ℤ pos (1073741823 * n)
