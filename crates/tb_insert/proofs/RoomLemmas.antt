-- The product of a share of a height and a factor.
use Rattle.std.proofs.Common.{◌≡◌, ◌≢◌, refl, ap, ℕ, zero, suc, ◌*◌, ◌/◌, ◌<◌, ◌≤◌, ◌^◌, ℤ, pos, negsuc, neg_ℤ, ◌<ℤ◌, ◌-ℤ◌, int_le, int_div, Bool, true, false, FitsSigned, arith}
use Rattle.std.specs.Prelude.{◌*ℤ◌, unsigned_abs}
use Rattle.std.specs.Int.{w128}
use Rattle.std.proofs.lemmas.Int.{ints, unsigned_abs-mul, fits_signed_from_abs}
use Rattle.std.proofs.lemmas.Nat.{mul-le}
use Rattle.std.proofs.Math.Nat.{div-le_self}
use Rattle.std.proofs.lemmas.Bool.Decides.{nat_tests}
use Rattle.tb_scaled.specs.Scaled.{is_zero}
use Rattle.tb_node.specs.SmallAmounts.{IsAmount}
use Rattle.tb_insert.specs.Account.{unscaled_room}
use Rattle.tb_insert.specs.WideAmounts.{IsWithin}

abs_of : (n : ℕ) (z : ℤ) → IsWithin n z → unsigned_abs z < n
abs_of n (pos a) h = omega (arith, ints)
abs_of n (negsuc a) h = omega (arith, ints)

of_abs : (n : ℕ) (z : ℤ) → unsigned_abs z < n → IsWithin n z
of_abs n (pos a) h = record { low = omega (arith, ints); high = omega (arith, ints) }
of_abs n (negsuc a) h = record { low = omega (arith, ints); high = omega (arith, ints) }

amount_abs : (z : ℤ) → IsAmount z → unsigned_abs z < 2 ^ 60
amount_abs (pos a) h = omega (arith, ints)
amount_abs (negsuc a) h = omega (arith, ints)

product_abs : (a b : ℤ) → IsWithin (2 ^ 54) a → IsAmount b → unsigned_abs (a *ℤ b) < 2 ^ 114
product_abs a b h k =
    let x : unsigned_abs a < 2 ^ 54 = abs_of (2 ^ 54) a h in
    let y : unsigned_abs b < 2 ^ 60 = amount_abs b k in
    let p : unsigned_abs a * unsigned_abs b ≤ 18014398509481983 * 1152921504606846975 = mul-le (unsigned_abs a) (unsigned_abs b) 18014398509481983 1152921504606846975 (omega arith) (omega arith) in
    omega (arith, unsigned_abs-mul a b)

pub product_within : (a b : ℤ) → IsWithin (2 ^ 54) a → IsAmount b → IsWithin (2 ^ 114) (a *ℤ b)
product_within a b h k = of_abs (2 ^ 114) (a *ℤ b) (product_abs a b h k)

pub product_fits : (a b : ℤ) → IsWithin (2 ^ 54) a → IsAmount b → FitsSigned w128 (a *ℤ b)
product_fits a b h k = fits_signed_from_abs w128 (a *ℤ b) (let p : unsigned_abs (a *ℤ b) < 2 ^ 114 = product_abs a b h k in omega arith)

-- ---- what the height of a class leaves of a room

pub above_zero : (z : ℤ) → int_le z (pos 0) ≡ false → pos 0 <ℤ z
above_zero (pos zero) h = cc
above_zero (pos (suc n)) h = omega (arith, ints)
above_zero (negsuc n) h = cc

not_zero : (f : ℤ) (t : Bool) → is_zero (f -ℤ pos 1000) ≡ t → f ≢ pos 1000 → t ≡ false
not_zero f false h ne = refl
not_zero f true h ne = absurd (ne (omega (arith, ints, zero_is (f -ℤ pos 1000) h)))
  where
    zero_is : (z : ℤ) → is_zero z ≡ true → z ≡ pos 0
    zero_is (pos n) e = ap pos (grind (arith, nat_tests, e))
    zero_is (negsuc n) e = cc

neg_abs : (n : ℕ) → unsigned_abs (neg_ℤ (pos n)) ≡ n
neg_abs zero = refl
neg_abs (suc n) = refl

quotient_within : (n : ℕ) (a d : ℤ) → IsWithin n a → pos 0 <ℤ d → IsWithin n (int_div a d)
quotient_within n (pos a) (pos d) h p = of_abs n (pos (a / d)) (omega (arith, div-le_self a d, abs_of n (pos a) h))
quotient_within n (negsuc a) (pos d) h p = of_abs n (neg_ℤ (pos (suc a / d))) (omega (arith, neg_abs (suc a / d), div-le_self (suc a) d, abs_of n (negsuc a) h))
quotient_within n a (negsuc d) h p = absurd p.lt

pub unscaled_fits : (room f : ℤ) → IsWithin (2 ^ 116) room → pos 0 <ℤ f → FitsSigned w128 (int_div room f *ℤ pos 1000)
unscaled_fits room f h p = fits_signed_from_abs w128 (int_div room f *ℤ pos 1000) (omega (arith, unsigned_abs-mul (int_div room f) (pos 1000), abs_of (2 ^ 116) (int_div room f) (quotient_within (2 ^ 116) room f h p)))

pub unscaled_is : (f room : ℤ) → int_le f (pos 0) ≡ false → f ≢ pos 1000 → unscaled_room f room ≡ int_div room f *ℤ pos 1000
unscaled_is f room h ne = let e = not_zero f (is_zero (f -ℤ pos 1000)) refl ne in rw (h, e) refl
