-- What floats take of an area, by the sum of their heights and their number.
use Rattle.std.proofs.Common.{◌≡◌, ℕ, zero, suc, ◌*◌, ◌/◌, ◌≤◌, List, [], ◌∷◌, length, refl, ap, arith}
use Rattle.std.specs.Prelude.{ℤ, pos, negsuc, neg_ℤ, ◌+ℤ◌, ◌*ℤ◌, int_div}
use Rattle.std.proofs.lemmas.Int.{ints}
use Rattle.std.proofs.Math.Nat.{div-le_of_le-mul}
use Rattle.std.proofs.lemmas.Nat.{mul-le}
use Rattle.tb_scaled.specs.Scaled.{fraction_of}
use Rattle.tb_node.specs.declared.Float.{Float}
use Rattle.tb_float.specs.Ranges.{IsWithin, IsShare}
use Rattle.tb_float.specs.Rooms.{total_height, later_room, floats_room, text_float_room}

-- one more separator
times-suc : (z : ℤ) (n : ℕ) → z *ℤ pos (suc n) ≡ z +ℤ z *ℤ pos n
times-suc (pos m) n = omega (arith, ints)
times-suc (negsuc m) n = omega (arith, ints)

times-zero : (z : ℤ) → z *ℤ pos 0 ≡ pos 0
times-zero (pos m) = omega (arith, ints)
times-zero (negsuc m) = omega (arith, ints)

later_room-sum : (sep : ℤ) (fs : List Float) → later_room sep fs ≡ total_height fs +ℤ sep *ℤ pos (length fs)
later_room-sum sep [] = omega (arith, ints, times-zero sep)
later_room-sum sep (f ∷ fs) = omega (arith, ints, later_room-sum sep fs, times-suc sep (length fs))

pub floats_room-sum : (first sep : ℤ) (n : ℕ) (fs : List Float) → length fs ≡ suc n → floats_room first sep fs ≡ total_height fs +ℤ first +ℤ sep *ℤ pos n
floats_room-sum first sep n [] e = absurd (omega arith)
floats_room-sum first sep n (f ∷ fs) e =
    let same : length fs ≡ n = omega arith in
    omega (arith, ints, later_room-sum sep fs, ap (λ m. sep *ℤ pos m) same)

pub text_float_room-sum : (sep : ℤ) (fs : List Float) → text_float_room sep fs ≡ total_height fs +ℤ sep *ℤ pos (2 * length fs)
text_float_room-sum sep [] = omega (arith, ints, times-zero sep)
text_float_room-sum sep (f ∷ fs) =
    let two : 2 * suc (length fs) ≡ suc (suc (2 * length fs)) = omega arith in
    omega (arith, ints, text_float_room-sum sep fs, times-suc sep (2 * length fs), times-suc sep (suc (2 * length fs)), ap (λ m. sep *ℤ pos m) two)

-- a share of an amount is no greater than the amount
share-below : (n m k : ℕ) → m ≤ k → n ≤ 65536 → m * n / 65536 ≤ k
share-below n m k le few = omega (arith, div-le_of_le-mul 65536 {m = m * n} {n = k} (omega (arith, mul-le m n k 65536 le few)))

negated-share : (m : ℕ) → int_div (neg_ℤ (pos m)) (pos 65536) ≡ neg_ℤ (pos (m / 65536))
negated-share zero = refl
negated-share (suc m) = refl

pub fraction-within : (f v : ℤ) (n : ℕ) → IsShare f → IsWithin n v → IsWithin n (fraction_of f v)
fraction-within (pos f) (pos v) n share within =
    let high = within.high in let most = share.high in
    record { low = omega (arith, ints); high = omega (arith, ints, share-below f v n (omega (arith, ints)) (omega (arith, ints))) }
fraction-within (pos f) (negsuc v) n share within =
    let low = within.low in let most = share.high in
    let below = share-below f (suc v) n (omega (arith, ints)) (omega (arith, ints)) in
    record { low = omega (arith, ints, negated-share (suc v * f), below); high = omega (arith, ints, negated-share (suc v * f)) }
fraction-within (negsuc f) v n share within = absurd (omega (arith, ints, share.low))
