-- An amount fits 64 bits, and so do the sum and the difference of two.
use Rattle.std.proofs.Common.{ℤ, FitsSigned, w64, rules}
use Rattle.std.proofs.lemmas.Int.{ints}
use Rattle.tb_scaled.specs.Amount.{IsAmount}

pub amount_fits : (z : ℤ) → IsAmount z → FitsSigned w64 z
amount_fits z h = search (rules, ints, h.low, h.high)
