-- Worked values of the definitions.
use Rattle.std.proofs.Common.{◌≡◌, refl, pos, negsuc, [], ◌∷◌}
use Rattle.tb_scaled.specs.declared.Order.TheVariants.{Fil}
use Rattle.tb_scaled.specs.Scaled.{badness_of, rounded_decimals, fraction_of, floor_div}
use Rattle.tb_scaled.specs.Glue.{filling_glue, negated_glue}

rounds_7 : rounded_decimals (7 ∷ []) ≡ pos 45875
rounds_7 = refl

rounds_5 : rounded_decimals (5 ∷ []) ≡ pos 32768
rounds_5 = refl

rounds_3 : rounded_decimals (3 ∷ []) ≡ pos 19661
rounds_3 = refl

rounds_2 : rounded_decimals (2 ∷ []) ≡ pos 13107
rounds_2 = refl

rounds_0001 : rounded_decimals (0 ∷ 0 ∷ 0 ∷ 1 ∷ []) ≡ pos 7
rounds_0001 = refl

bad_800 : badness_of (pos 10) (pos 5) ≡ pos 800
unfolding badness_of
bad_800 = refl

-- nothing to set, nothing to set it with, and too much
bad_0 : badness_of (pos 0) (pos 0) ≡ pos 0
unfolding badness_of
bad_0 = refl

bad_without : badness_of (pos 1) (pos 0) ≡ pos 10000
unfolding badness_of
bad_without = refl

bad_large : badness_of (pos 7230585) (pos 7230585) ≡ pos 100
unfolding badness_of
bad_large = refl

-- 0.7 of 100, and half of -3
top_room : fraction_of (pos 45875) (pos 100) ≡ pos 69
top_room = refl

half_of_minus_3 : fraction_of (pos 32768) (negsuc 2) ≡ negsuc 0
half_of_minus_3 = refl

negated : negated_glue filling_glue ≡ record { width = pos 0; stretch = negsuc 65535; order = Fil; shrink = pos 0 }
negated = refl

floors : floor_div (negsuc 6) 2 ≡ negsuc 3
floors = refl
