-- The range in which positions are computed.
use Rattle.std.specs.Prelude.{ℤ, pos, neg_ℤ, ◌≤ℤ◌}

-- a product of two numbers of 64 bits: at most 2^126 in absolute value
pub record IsProduct (z : ℤ) : Type 0 where
  pub low : neg_ℤ (pos 85070591730234615865843651857942052864) ≤ℤ z
  pub high : z ≤ℤ pos 85070591730234615865843651857942052864
