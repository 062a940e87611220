-- The last digit of a number at the end of an array is changed.
use Rattle.std.proofs.Common.{◌≡◌, ◌∙◌, ◌+◌, ◌-◌, ◌*◌, ◌<◌, ◌≤◌, ℕ, zero, suc, List, [], ◌∷◌, ◌++◌, arith, ap, refl, sym, length, drop, length-drop, length-append}
use Rattle.std.specs.Prelude.{◌/◌, ◌%◌, slice_set, decimal}
use Rattle.std.proofs.lemmas.List.{drop-set-add}
use Rattle.std.proofs.lemmas.Fmt.{decimal_digit, decimal_step}
use Rattle.tb_generator.specs.GeneratedGalleys.{letter_number}

-- the digits of these tens; none if there are none
abbrev front : ℕ → List ℕ
front zero = []
front (suc t) = decimal (suc t)

by_digit : (t d : ℕ) → t ≤ 4000 → d < 10 → decimal (t * 10 + d) ≡ front t ++ (48 + d) ∷ []
by_digit zero d few low =
    let none : 0 * 10 + d ≡ d = omega arith in
    ap decimal none ∙ decimal_digit d low
by_digit (suc t) d few low =
    let tens : (suc t * 10 + d) / 10 ≡ suc t = omega arith in
    let ones : (suc t * 10 + d) % 10 ≡ d = omega arith in
    decimal_step (suc t * 10 + d) (omega arith) (omega arith) ∙ (λ j. decimal (tens j) ++ (48 + ones j) ∷ [])

set_last : (before : List ℕ) (x y : ℕ) → slice_set (before ++ x ∷ []) (length before) y ≡ before ++ y ∷ []
set_last [] x y = refl
set_last (b ∷ before) x y = ap (λ rest. b ∷ rest) (set_last before x y)

at_last : (now before : List ℕ) (s x y : ℕ) → length now ≡ 6 → s ≤ 5 → drop s now ≡ before ++ x ∷ [] → drop s (slice_set now 5 y) ≡ before ++ y ∷ []
at_last now before s x y long within is =
    let count : length before + 1 ≡ 6 - s = sym (length-append before (x ∷ [])) ∙ ap length (sym is) ∙ length-drop s now ∙ ap (λ n. n - s) long in
    let here : 5 ≡ s + length before = omega (arith, count) in
    (λ j. drop s (slice_set now (here j) y)) ∙ drop-set-add s now (length before) y ∙ ap (λ l. slice_set l (length before) y) is ∙ set_last before x y

-- a letter and a number become the letter and the number with another last digit
pub digit_set : (now : List ℕ) (s letter t d e : ℕ) → length now ≡ 6 → s ≤ 5 → t ≤ 4000 → d < 10 → e < 10
    → drop s now ≡ letter_number letter (t * 10 + d) → drop s (slice_set now 5 (48 + e)) ≡ letter_number letter (t * 10 + e)
digit_set now s letter t d e long within few low small is =
    at_last now (letter ∷ front t) s (48 + d) (48 + e) long within (is ∙ ap (λ ds. letter ∷ ds) (by_digit t d few low))
    ∙ ap (λ ds. letter ∷ ds) (sym (by_digit t e few small))
