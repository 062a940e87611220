-- The text of numbers one after the other.
use Rattle.std.proofs.Common.{◌≡◌, refl, sym, ◌∙◌, ap, ℕ, zero, suc, ◌+◌, ◌<◌, ◌≤◌, ℤ, pos, negsuc, false, List, [], ◌∷◌, ◌++◌, drop, get_or, length, append_assoc, append-nil, arith}
use Rattle.std.specs.Prelude.{nat_abs, int_lt}
use Rattle.tb_text.specs.Fields.{and_number, and_count}
use Rattle.tb_trace.specs.Lines.{and_numbers}

-- from a place on they begin with the number there
pub numbers-from : (ns : List ℤ) (i : ℕ) (d : ℤ) → i < length ns → and_numbers (drop i ns) ≡ and_number (get_or ns i d) ++ and_numbers (drop (i + 1) ns)
numbers-from [] i d h = absurd (omega (arith, h))
numbers-from (n ∷ ns) zero d h = refl
numbers-from (n ∷ ns) (suc i) d h = let e : suc i + 1 ≡ suc (i + 1) = omega arith in rw e (numbers-from ns i d (omega (arith, h)))

-- past the last there is none
pub numbers-past : (ns : List ℤ) (i : ℕ) → length ns ≤ i → and_numbers (drop i ns) ≡ []
numbers-past [] zero h = refl
numbers-past [] (suc i) h = refl
numbers-past (n ∷ ns) zero h = absurd (omega (arith, h))
numbers-past (n ∷ ns) (suc i) h = numbers-past ns i (omega (arith, h))

-- a number that is not below 0 is a count
pub number-count : (z : ℤ) → int_lt z (pos 0) ≡ false → and_count (nat_abs z) ≡ and_number z
number-count (pos n) h = refl
number-count (negsuc n) h = cc

-- four of them
pub four-numbers : (ns : List ℤ) (d : ℤ) → length ns ≡ 4 → and_number (get_or ns 0 d) ++ and_number (get_or ns 1 d) ++ and_number (get_or ns 2 d) ++ and_number (get_or ns 3 d) ≡ and_numbers ns
four-numbers ns d four =
    let first : and_numbers ns ≡ and_number (get_or ns 0 d) ++ and_numbers (drop 1 ns) = numbers-from ns 0 d (omega (arith, four)) in
    let second : and_numbers (drop 1 ns) ≡ and_number (get_or ns 1 d) ++ and_numbers (drop 2 ns) = numbers-from ns 1 d (omega (arith, four)) in
    let third : and_numbers (drop 2 ns) ≡ and_number (get_or ns 2 d) ++ and_numbers (drop 3 ns) = numbers-from ns 2 d (omega (arith, four)) in
    let fourth : and_numbers (drop 3 ns) ≡ and_number (get_or ns 3 d) ++ and_numbers (drop 4 ns) = numbers-from ns 3 d (omega (arith, four)) in
    let end : and_numbers (drop 4 ns) ≡ [] = numbers-past ns 4 (omega (arith, four)) in
    let last : and_numbers (drop 3 ns) ≡ and_number (get_or ns 3 d) = fourth ∙ ap (λ xs. and_number (get_or ns 3 d) ++ xs) end ∙ append-nil (and_number (get_or ns 3 d)) in
    simp append_assoc (sym (first ∙ ap (λ xs. and_number (get_or ns 0 d) ++ xs) (second ∙ ap (λ xs. and_number (get_or ns 1 d) ++ xs) (third ∙ ap (λ xs. and_number (get_or ns 2 d) ++ xs) last))))
