-- A field of a few digits and nothing else.
use Rattle.std.proofs.Common.{◌≡◌, ℕ, ◌+◌, ◌-◌, ◌*◌, ◌^◌, ◌<◌, ◌≤◌, pos, ℤ, true, false, ◌&&◌, List, [], ◌∷◌, length, take, drop, get_or, zero, suc, if◌then◌else◌, Ok, refl, ap, sym, ◌∙◌, arith}
use Rattle.std.proofs.lemmas.Bool.{and_parts}
use Rattle.std.specs.List.{list_all, prefix_len}
use Rattle.std.specs.Int.Digits.{number_from_digits, AllBelowBase}
use Rattle.std.proofs.lemmas.Int.Digits.{number_lt, number_push}
use Rattle.std.proofs.lemmas.List.{take_all, take_more, map-append, length-take}
use Rattle.std.proofs.lemmas.List.Folds.{list_all_more}
use Rattle.std.proofs.Math.Nat.{pow-le-pow_right}
use Rattle.tb_scaled.specs.declared.Order.TheVariants.{Normal}
use Rattle.tb_text.specs.Parts.{IsFront}
use Rattle.tb_text.specs.Numbers.{is_digit, digits_at, digit_values, number_of, after_whole, number_part, integer_by, integer_of, dimension_by, dimension_of, stretch_by, stretch_of}
use Rattle.tb_text.proofs.Digits.{digit_small, length_values}
use Rattle.tb_text.proofs.NumberTexts.{IsNumeralOf, nothing_more, plain_part, by_integer, by_dimension, by_stretch}

-- ---- one digit more

pub digits_more : (bs : List ℕ) (k : ℕ) → k < length bs → list_all is_digit (take k bs) ≡ true → is_digit (get_or bs k 0) ≡ true → list_all is_digit (take (k + 1) bs) ≡ true
digits_more bs k h before last = list_all_more is_digit bs k 0 h ∙ ap (λ t. t && is_digit (get_or bs k 0)) before ∙ last

pub value_more : (bs : List ℕ) (k n : ℕ) → k < length bs → n ≡ number_of (take k bs) → n * 10 + (get_or bs k 0 - 48) ≡ number_of (take (k + 1) bs)
value_more bs k n h e =
    ap (λ m. m * 10 + (get_or bs k 0 - 48)) e ∙ sym (number_push 10 (digit_values (take k bs)) (get_or bs k 0 - 48))
    ∙ ap (number_from_digits 10) (sym (map-append (λ d. d - 48) (take k bs) (get_or bs k 0 ∷ [])) ∙ sym (ap digit_values (take_more bs k 0 h)))

-- ---- few digits stay small

below_ten : (ds : List ℕ) → list_all is_digit ds ≡ true → AllBelowBase 10 (digit_values ds)
below_ten [] h = tt
below_ten (d ∷ ds) h =
    let both : (is_digit d ≡ true) × (list_all is_digit ds ≡ true) = and_parts (is_digit d) (list_all is_digit ds) h in
    (digit_small d both.0, below_ten ds both.1)

below_power : (ds : List ℕ) (k : ℕ) → list_all is_digit ds ≡ true → length ds ≤ k → number_of ds < 10 ^ k
below_power ds k h short =
    let below : number_of ds < 10 ^ length (digit_values ds) = number_lt 10 (digit_values ds) (below_ten ds h) in
    let fewer : length (digit_values ds) ≤ k = omega (arith, length_values ds) in
    let power : 10 ^ length (digit_values ds) ≤ 10 ^ k = pow-le-pow_right (omega arith) fewer in
    omega arith

pub before_last : (bs : List ℕ) (k n : ℕ) → k < length bs → length bs ≤ 9 → list_all is_digit (take k bs) ≡ true → n ≡ number_of (take k bs) → n < 100000000
before_last bs k n h few digits e =
    let short : length (take k bs) ≤ 8 = omega (arith, length-take k bs) in
    let below : number_of (take k bs) < 100000000 = below_power (take k bs) 8 digits short in
    omega arith

-- ---- the field as each kind of number

numeral_part : (n : ℕ) (ds : List ℕ) → IsNumeralOf n ds → number_part ds ≡ after_whole false ds []
numeral_part n ds h = ap number_part (sym (nothing_more ds)) ∙ plain_part ds [] h.digits h.some refl

-- the field gives this value as each kind of number
pub record IsRead (v : ℤ) (field : List ℕ) : Type 0 where
  pub integer : integer_of field ≡ Ok v
  pub dimension : dimension_of field ≡ Ok v
  pub stretch : stretch_of field ≡ Ok (v, Normal)

all_read : (n : ℕ) (field : List ℕ) → IsNumeralOf n field → n ≤ 1073741823 → IsRead (pos n) field
all_read n field numeral small = record {
  integer = ap integer_by (numeral_part n field numeral) ∙ by_integer false n field numeral (omega arith);
  dimension = ap dimension_by (numeral_part n field numeral) ∙ by_dimension false n field numeral small;
  stretch = ap stretch_by (numeral_part n field numeral) ∙ by_stretch Normal false n field numeral small;
}

-- a few digits and nothing else
pub record AreFewDigits (bs : List ℕ) (n : ℕ) : Type 0 where
  pub numeral : IsNumeralOf n bs
  pub small : n < 1000000000

pub few_digits : (bs : List ℕ) (k n : ℕ) → 0 < length bs → length bs ≤ 9 → length bs ≤ k → list_all is_digit (take k bs) ≡ true → n ≡ number_of (take k bs) → AreFewDigits bs n
few_digits bs k n some few h digits e =
    let whole : take k bs ≡ bs = take_all k bs h in
    let numeral : IsNumeralOf n bs = record { digits = ap (list_all is_digit) (sym whole) ∙ digits; value = sym (e ∙ ap number_of whole); some = some } in
    let below : number_of bs < 1000000000 = below_power bs 9 numeral.digits few in
    record { numeral = numeral; small = omega (arith, numeral.value) }

pub few_read : (field : List ℕ) (n : ℕ) → list_all is_digit field ≡ true → 0 < length field → number_of field ≡ n → n < 1000000000 → IsRead (pos n) field
few_read field n digits some value small = all_read n field (record { digits = digits; value = value; some = some }) (omega arith)

-- ---- a number in front

-- the bytes up to the first that is no digit
pub digits_end : (bs : List ℕ) (k : ℕ) → k < length bs → list_all is_digit (take k bs) ≡ true → is_digit (get_or bs k 0) ≡ false → prefix_len is_digit bs ≡ k
digits_end [] k h digits last = absurd (omega arith)
digits_end (b ∷ bs) zero h digits last = ap (λ t. if t then 1 + prefix_len is_digit bs else 0) last
digits_end (b ∷ bs) (suc k) h digits last =
    let both : (is_digit b ≡ true) × (list_all is_digit (take k bs) ≡ true) = and_parts (is_digit b) (list_all is_digit (take k bs)) digits in
    let rest : prefix_len is_digit bs ≡ k = digits_end bs k (omega arith) both.1 last in
    ap (λ t. if t then 1 + prefix_len is_digit bs else 0) both.0 ∙ (let e : 1 + prefix_len is_digit bs ≡ suc k = omega arith in e)

pub front_small : (bs : List ℕ) (k n : ℕ) → k ≤ 9 → list_all is_digit (take k bs) ≡ true → n ≡ number_of (take k bs) → n < 1000000000
front_small bs k n few digits e =
    let short : length (take k bs) ≤ 9 = omega (arith, length-take k bs) in
    let below : number_of (take k bs) < 1000000000 = below_power (take k bs) 9 digits short in
    omega arith

pub before_ninth : (bs : List ℕ) (k n : ℕ) → k < 9 → list_all is_digit (take k bs) ≡ true → n ≡ number_of (take k bs) → n < 100000000
before_ninth bs k n few digits e =
    let short : length (take k bs) ≤ 8 = omega (arith, length-take k bs) in
    let below : number_of (take k bs) < 100000000 = below_power (take k bs) 8 digits short in
    omega arith

pub front_is : (bs : List ℕ) (k n m : ℕ) (rest : List ℕ) → k < length bs → k ≤ 9 → list_all is_digit (take k bs) ≡ true → n ≡ number_of (take k bs) → is_digit (get_or bs k 0) ≡ false
    → 0 < k → m ≡ n → rest ≡ drop k bs → IsFront bs m rest
front_is bs k n m rest h few digits e last some same after =
    let end : prefix_len is_digit bs ≡ k = digits_end bs k h digits last in
    let front : digits_at bs ≡ take k bs = ap (λ j. take j bs) end in
    record {
      some = let l : length (digits_at bs) ≡ length (take k bs) = ap length front in omega (arith, length-take k bs);
      value = ap number_of front ∙ sym e ∙ sym same;
      past = ap (λ j. drop j bs) end ∙ sym after;
      small = let s = front_small bs k n few digits e in omega arith;
    }

-- all bytes are digits
pub whole_front : (bs : List ℕ) (k n m : ℕ) (rest : List ℕ) → length bs ≤ k → k ≤ 9 → list_all is_digit (take k bs) ≡ true → n ≡ number_of (take k bs)
    → 0 < length bs → m ≡ n → rest ≡ drop (length bs) bs → IsFront bs m rest
whole_front bs k n m rest h few digits e some same after =
    let whole : take k bs ≡ bs = take_all k bs h in
    let all : list_all is_digit bs ≡ true = ap (list_all is_digit) (sym whole) ∙ digits in
    let end : prefix_len is_digit bs ≡ length bs = all_digits bs all in
    let front : digits_at bs ≡ take k bs = ap (λ j. take j bs) end ∙ take_all (length bs) bs (omega arith) ∙ sym whole in
    record {
      some = let l : length (digits_at bs) ≡ length bs = ap length front ∙ ap length whole in omega arith;
      value = ap number_of front ∙ sym e ∙ sym same;
      past = ap (λ j. drop j bs) end ∙ sym after;
      small = let s = front_small bs k n few digits e in omega arith;
    }
  where
    all_digits : (bs : List ℕ) → list_all is_digit bs ≡ true → prefix_len is_digit bs ≡ length bs
    all_digits [] h = refl
    all_digits (b ∷ bs) h =
        let both : (is_digit b ≡ true) × (list_all is_digit bs ≡ true) = and_parts (is_digit b) (list_all is_digit bs) h in
        let rest : prefix_len is_digit bs ≡ length bs = all_digits bs both.1 in
        ap (λ t. if t then 1 + prefix_len is_digit bs else 0) both.0 ∙ (let e : 1 + prefix_len is_digit bs ≡ suc (length bs) = omega arith in e)
