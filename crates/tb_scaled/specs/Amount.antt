-- Amounts so small that the sum of a few fits 64 bits.
use Rattle.std.specs.Prelude.{◌<ℤ◌, ℤ, pos, neg_ℤ}

-- an amount: below 2^60 in absolute value
pub record IsAmount (z : ℤ) : Type 0 where
  pub low : neg_ℤ (pos 1152921504606846976) <ℤ z
  pub high : z <ℤ pos 1152921504606846976
