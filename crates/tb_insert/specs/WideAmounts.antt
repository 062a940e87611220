-- Amounts on the way to a goal, which may be wider than an amount.
use Rattle.std.specs.Prelude.{ℕ, ◌<ℤ◌, ℤ, pos, neg_ℤ}

-- below n in absolute value
pub record IsWithin (n : ℕ) (z : ℤ) : Type 0 where
  pub low : neg_ℤ (pos n) <ℤ z
  pub high : z <ℤ pos n
