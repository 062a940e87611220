-- Positions fit 128 bits.
use Rattle.std.proofs.Common.{ℕ, suc, ◌*◌, ◌/◌, ◌≤◌, ℤ, pos, negsuc, neg_ℤ, ◌*ℤ◌, ◌+ℤ◌, ◌-ℤ◌, FitsSigned, w64, arith}
use Rattle.std.specs.Int.{w128}
use Rattle.std.proofs.lemmas.Int.{ints}
use Rattle.std.proofs.Math.Nat.{mul-le-mul, div-le_self}
use Rattle.tb_scaled.specs.Scaled.{floor_div}
use Rattle.tb_pack.specs.Pack.{floor_ratio}
use Rattle.tb_pack.specs.PositionRange.{IsProduct}

product_most : (a b : ℕ) → a ≤ 9223372036854775808 → b ≤ 9223372036854775808 → a * b ≤ 85070591730234615865843651857942052864
product_most a b h k = mul-le-mul h k

-- a product of two numbers of 64 bits
pub product_small : (a b : ℤ) → FitsSigned w64 a → FitsSigned w64 b → IsProduct (a *ℤ b)
product_small (pos a) (pos b) f g =
    let most : a * b ≤ 85070591730234615865843651857942052864 = product_most a b (omega (arith, ints)) (omega (arith, ints)) in
    record { low = omega (arith, ints); high = omega (arith, ints) }
product_small (pos a) (negsuc b) f g =
    let most : a * suc b ≤ 85070591730234615865843651857942052864 = product_most a (suc b) (omega (arith, ints)) (omega (arith, ints)) in
    record { low = omega (arith, ints); high = omega (arith, ints) }
product_small (negsuc a) (pos b) f g =
    let most : suc a * b ≤ 85070591730234615865843651857942052864 = product_most (suc a) b (omega (arith, ints)) (omega (arith, ints)) in
    record { low = omega (arith, ints); high = omega (arith, ints) }
product_small (negsuc a) (negsuc b) f g =
    let most : suc a * suc b ≤ 85070591730234615865843651857942052864 = product_most (suc a) (suc b) (omega (arith, ints)) (omega (arith, ints)) in
    record { low = omega (arith, ints); high = omega (arith, ints) }

floor_div_small : (n : ℤ) (d : ℕ) → IsProduct n → IsProduct (floor_div n d)
floor_div_small (pos n) d h = let least : n / d ≤ n = div-le_self n d in record { low = omega (arith, ints); high = omega (arith, ints) }
floor_div_small (negsuc n) d h = let least : n / d ≤ n = div-le_self n d in record { low = omega (arith, ints); high = omega (arith, ints) }

-- a share of such a product is no greater
pub floor_small : (n d : ℤ) → IsProduct n → IsProduct (floor_ratio n d)
floor_small n (pos d) h = floor_div_small n d h
floor_small n (negsuc d) h = floor_div_small (neg_ℤ n) (suc d) (record { low = omega (arith, ints); high = omega (arith, ints) })

-- a place and such a share fit 128 bits
pub sum_fits : (a z : ℤ) → FitsSigned w64 a → IsProduct z → FitsSigned w128 (a +ℤ z)
sum_fits a z f h = let low = h.low in let high = h.high in omega (arith, ints)

pub difference_fits : (a z : ℤ) → FitsSigned w64 a → IsProduct z → FitsSigned w128 (a -ℤ z)
difference_fits a z f h = let low = h.low in let high = h.high in omega (arith, ints)
