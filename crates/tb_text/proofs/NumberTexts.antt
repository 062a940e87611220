-- A number that is written in decimal is read back.
use Rattle.std.proofs.Common.{◌≡◌, ℕ, suc, ◌+◌, ◌-◌, ◌*◌, ◌/◌, ◌%◌, ◌^◌, ◌<◌, ◌≤◌, min, ℤ, pos, negsuc, nat_abs, Bool, true, false, ◌&&◌, ◌||◌, ◌==◌, nat_lt, List, [], ◌∷◌, ◌++◌, length, take, drop, Ok, Err, if◌then◌else◌, refl, ap, sym, ◌∙◌, arith}
use Rattle.std.proofs.lemmas.Bool.{and_from}
use Rattle.std.specs.Cmp.{first_so, second_so}
use Rattle.std.specs.Prelude.{codes, decimal}
use Rattle.std.specs.Fmt.{signed_decimal}
use Rattle.std.specs.List.{list_all, prefix_len}
use Rattle.std.specs.Int.Digits.{number_from_digits_after}
use Rattle.std.proofs.lemmas.Fmt.{decimal_by_steps, length-decimal-le}
use Rattle.std.proofs.Math.Seq.{take-append_seam, drop-append_seam}
use Rattle.std.proofs.lemmas.Bool.Decides.{nat_tests}
use Rattle.tb_scaled.specs.declared.Order.{Order}
use Rattle.tb_scaled.specs.declared.Order.TheVariants.{Normal, Fil, Fill, Filll}
use Rattle.tb_text.specs.declared.TextFault.TheVariants.{BadNumber, Dimension}
use Rattle.tb_text.specs.Numbers.{is_digit, after_whole, unsigned_part, number_part, digit_values, number_of, amount_limit, signed, capped, integer_by, integer_of, within_dimen, with_order, dimension_by, dimension_of, stretch_by, stretch_of, fraction_by, fraction_of_field, is_signed}

-- ---- the digits of a number

pub record IsNumeralOf (n : ℕ) (ds : List ℕ) : Type 0 where
  pub digits : list_all is_digit ds ≡ true
  pub value : number_of ds ≡ n
  pub some : 0 < length ds

after-push : (n : ℕ) (ds : List ℕ) (d : ℕ) → number_from_digits_after 10 n (digit_values (ds ++ d ∷ [])) ≡ number_from_digits_after 10 n (digit_values ds) * 10 + (d - 48)
after-push n [] d = refl
after-push n (e ∷ ds) d = after-push (n * 10 + (e - 48)) ds d

digits-push : (ds : List ℕ) (d : ℕ) → list_all is_digit ds ≡ true → is_digit d ≡ true → list_all is_digit (ds ++ d ∷ []) ≡ true
digits-push [] d h k = ap (λ t. t && true) k
digits-push (e ∷ ds) d h k = both (is_digit e) (list_all is_digit ds) (list_all is_digit (ds ++ d ∷ [])) h (λ (m : list_all is_digit ds ≡ true). digits-push ds d m k)
  where
    both : (a b c : Bool) → (a && b) ≡ true → (b ≡ true → c ≡ true) → (a && c) ≡ true
    both true b c h f = f h
    both false b c h f = h

length-push : (ds : List ℕ) (d : ℕ) → 0 < length (ds ++ d ∷ [])
length-push [] d = omega arith
length-push (e ∷ ds) d = omega arith

digit_of : (n : ℕ) → n < 10 → is_digit (48 + n) ≡ true
digit_of n h = grind (arith, nat_tests)

one_digit : (n : ℕ) → n < 10 → IsNumeralOf n ((48 + n) ∷ [])
one_digit n h = record { digits = ap (λ t. t && true) (digit_of n h); value = omega arith; some = omega arith }

more_digits : (n : ℕ) (ds : List ℕ) → 10 ≤ n → IsNumeralOf (n / 10) ds → IsNumeralOf n (ds ++ ((48 + n % 10) ∷ []))
more_digits n ds h front = record {
  digits = digits-push ds (48 + n % 10) front.digits (digit_of (n % 10) (omega arith));
  value = omega (arith, after-push 0 ds (48 + n % 10), front.value);
  some = length-push ds (48 + n % 10);
}

pub decimal_numeral : (n : ℕ) → n < 2 ^ 64 → IsNumeralOf n (decimal n)
decimal_numeral n h = decimal_by_steps IsNumeralOf one_digit more_digits n h

-- ---- the number at the front of a field

front_by : (t more : Bool) (k n : ℕ) → (t && more) ≡ true → (more ≡ true → k ≡ n) → (if t then 1 + k else 0) ≡ suc n
front_by true more k n h f = let e : k ≡ n = f h in omega arith
front_by false more k n h f = cc

digits_front : (ds unit : List ℕ) → list_all is_digit ds ≡ true → prefix_len is_digit unit ≡ 0 → prefix_len is_digit (ds ++ unit) ≡ length ds
digits_front [] unit h stop = stop
digits_front (d ∷ ds) unit h stop =
    front_by (is_digit d) (list_all is_digit ds) (prefix_len is_digit (ds ++ unit)) (length ds) h (λ (m : list_all is_digit ds ≡ true). digits_front ds unit m stop)

front_part : (negative : Bool) (ds unit : List ℕ) → list_all is_digit ds ≡ true → prefix_len is_digit unit ≡ 0 → unsigned_part negative (ds ++ unit) ≡ after_whole negative ds unit
front_part negative ds unit h stop =
    let front : prefix_len is_digit (ds ++ unit) ≡ length ds = digits_front ds unit h stop in
    (λ i. after_whole negative ((ap (λ k. take k (ds ++ unit)) front ∙ take-append_seam ds unit) i) ((ap (λ k. drop k (ds ++ unit)) front ∙ drop-append_seam ds unit) i))

no_sign : (d : ℕ) (t : Bool) → (is_digit d && t) ≡ true → ((d == 43) ≡ false) × ((d == 45) ≡ false)
no_sign d t h = (grind (arith, nat_tests), grind (arith, nat_tests))

pub plain_part : (ds unit : List ℕ) → list_all is_digit ds ≡ true → 0 < length ds → prefix_len is_digit unit ≡ 0 → number_part (ds ++ unit) ≡ after_whole false ds unit
plain_part [] unit h some stop = absurd (omega arith)
plain_part (d ∷ ds) unit h some stop =
    let no : ((d == 43) ≡ false) × ((d == 45) ≡ false) = no_sign d (list_all is_digit ds) h in
    ap (λ t. if t then unsigned_part false (ds ++ unit) else (if d == 45 then unsigned_part true (ds ++ unit) else unsigned_part false (d ∷ ds ++ unit))) no.0
    ∙ ap (λ t. if t then unsigned_part true (ds ++ unit) else unsigned_part false (d ∷ ds ++ unit)) no.1
    ∙ front_part false (d ∷ ds) unit h stop

abbrev is_negative : ℤ → Bool
is_negative (pos n) = false
is_negative (negsuc n) = true

abbrev pub in_64_bits : ℤ → Type 0
in_64_bits z = nat_abs z < 2 ^ 64

-- the parts of a number and its unit
pub part_of_text : (z : ℤ) (unit : List ℕ) → in_64_bits z → prefix_len is_digit unit ≡ 0 → number_part (signed_decimal z ++ unit) ≡ after_whole (is_negative z) (decimal (nat_abs z)) unit
part_of_text (pos n) unit h stop = let numeral : IsNumeralOf n (decimal n) = decimal_numeral n h in plain_part (decimal n) unit numeral.digits numeral.some stop
part_of_text (negsuc n) unit h stop = let numeral : IsNumeralOf (suc n) (decimal (suc n)) = decimal_numeral (suc n) h in front_part true (decimal (suc n)) unit numeral.digits stop

signed_back : (z : ℤ) → signed (is_negative z) (nat_abs z) ≡ z
signed_back (pos n) = refl
signed_back (negsuc n) = refl

-- ---- numbers without a point

some_digit : (ds : List ℕ) → 0 < length ds → (length ds == 0) ≡ false
some_digit ds h = grind (arith, nat_tests)

capped_small : (m n : ℕ) → m ≡ n → n ≤ 4611686018427387904 → min m 4611686018427387904 ≡ n
capped_small m n e k = omega arith

pub by_integer : (negative : Bool) (n : ℕ) (ds : List ℕ) → IsNumeralOf n ds → n ≤ amount_limit → integer_by (after_whole negative ds []) ≡ Ok (signed negative n)
by_integer negative n ds h k =
    ap (λ t. if (t && true) || false || false then Err BadNumber else Ok (capped negative (number_of ds))) (some_digit ds h.some)
    ∙ ap (λ m. Ok (signed negative m)) (let same : number_of ds ≡ n = h.value in capped_small (number_of ds) n same k)

within_small : (negative : Bool) (m n : ℕ) → m ≡ n → n ≤ 1073741823 → within_dimen negative m ≡ Ok (signed negative n)
within_small negative m n e k =
    let small : nat_lt 1073741823 m ≡ false = grind (arith, nat_tests) in
    ap (λ t. if t then Err Dimension else Ok (signed negative m)) small ∙ ap (λ j. Ok (signed negative j)) e

pub by_dimension : (negative : Bool) (n : ℕ) (ds : List ℕ) → IsNumeralOf n ds → n ≤ 1073741823 → dimension_by (after_whole negative ds []) ≡ Ok (signed negative n)
by_dimension negative n ds h k =
    ap (λ t. if t && true then Err BadNumber else within_dimen negative (number_of ds)) (some_digit ds h.some)
    ∙ within_small negative (number_of ds) n h.value k

in_points_small : (m n : ℕ) → m ≡ n → m * 65536 + 0 ≡ n * 65536
in_points_small m n e = omega arith

-- a whole number of points
pub by_points : (n : ℕ) (ds : List ℕ) → IsNumeralOf n ds → n ≤ 16383 → dimension_by (after_whole false ds (codes "pt")) ≡ Ok (pos (n * 65536))
by_points n ds h k =
    ap (λ t. if t && true then Err BadNumber else within_dimen false (number_of ds * 65536 + 0)) (some_digit ds h.some)
    ∙ within_small false (number_of ds * 65536 + 0) (n * 65536) (in_points_small (number_of ds) n h.value) (omega arith)

pub by_points_stretch : (n : ℕ) (ds : List ℕ) → IsNumeralOf n ds → n ≤ 16383 → stretch_by (after_whole false ds (codes "pt")) ≡ Ok (pos (n * 65536), Normal)
by_points_stretch n ds h k =
    ap (λ t. if t && true then Err BadNumber else with_order Normal (dimension_by (after_whole false ds (codes "pt")))) (some_digit ds h.some)
    ∙ ap (λ r. with_order Normal r) (by_points n ds h k)

abbrev pub unit_of : Order → List ℕ
unit_of Normal = []
unit_of Fil = codes "sfil"
unit_of Fill = codes "sfill"
unit_of Filll = codes "sfilll"

ordered : (o : Order) (negative : Bool) (m n : ℕ) → m ≡ n → n ≤ 1073741823 → with_order o (within_dimen negative m) ≡ Ok (signed negative n, o)
ordered o negative m n e k = ap (λ r. with_order o r) (within_small negative m n e k)

pub by_stretch : (o : Order) (negative : Bool) (n : ℕ) (ds : List ℕ) → IsNumeralOf n ds → n ≤ 1073741823 → stretch_by (after_whole negative ds (unit_of o)) ≡ Ok (signed negative n, o)
by_stretch Normal negative n ds h k =
    ap (λ t. if t && true then Err BadNumber else with_order Normal (if t && true then Err BadNumber else within_dimen negative (number_of ds))) (some_digit ds h.some)
    ∙ ordered Normal negative (number_of ds) n h.value k
by_stretch Fil negative n ds h k =
    ap (λ t. if t && true then Err BadNumber else with_order Fil (within_dimen negative (number_of ds))) (some_digit ds h.some) ∙ ordered Fil negative (number_of ds) n h.value k
by_stretch Fill negative n ds h k =
    ap (λ t. if t && true then Err BadNumber else with_order Fill (within_dimen negative (number_of ds))) (some_digit ds h.some) ∙ ordered Fill negative (number_of ds) n h.value k
by_stretch Filll negative n ds h k =
    ap (λ t. if t && true then Err BadNumber else with_order Filll (within_dimen negative (number_of ds))) (some_digit ds h.some) ∙ ordered Filll negative (number_of ds) n h.value k

-- ---- what is written is read back

pub nothing_more : (bs : List ℕ) → bs ++ [] ≡ bs
nothing_more [] = refl
nothing_more (b ∷ bs) = ap (λ cs. b ∷ cs) (nothing_more bs)

unit_stops : (o : Order) → prefix_len is_digit (unit_of o) ≡ 0
unit_stops Normal = refl
unit_stops Fil = refl
unit_stops Fill = refl
unit_stops Filll = refl

alone : (z : ℤ) → in_64_bits z → number_part (signed_decimal z) ≡ after_whole (is_negative z) (decimal (nat_abs z)) []
alone z h = ap number_part (sym (nothing_more (signed_decimal z))) ∙ part_of_text z [] h refl

pub integer_back : (z : ℤ) → nat_abs z ≤ amount_limit → integer_of (signed_decimal z) ≡ Ok z
integer_back z h =
    ap integer_by (alone z (omega arith)) ∙ by_integer (is_negative z) (nat_abs z) (decimal (nat_abs z)) (decimal_numeral (nat_abs z) (omega arith)) h ∙ ap (λ v. Ok v) (signed_back z)

pub dimension_back : (z : ℤ) → nat_abs z ≤ 1073741823 → dimension_of (signed_decimal z) ≡ Ok z
dimension_back z h =
    ap dimension_by (alone z (omega arith)) ∙ by_dimension (is_negative z) (nat_abs z) (decimal (nat_abs z)) (decimal_numeral (nat_abs z) (omega arith)) h ∙ ap (λ v. Ok v) (signed_back z)

pub stretch_back : (z : ℤ) (o : Order) → nat_abs z ≤ 1073741823 → stretch_of (signed_decimal z ++ unit_of o) ≡ Ok (z, o)
stretch_back z o h =
    ap stretch_by (part_of_text z (unit_of o) (omega arith) (unit_stops o)) ∙ by_stretch o (is_negative z) (nat_abs z) (decimal (nat_abs z)) (decimal_numeral (nat_abs z) (omega arith)) h
    ∙ ap (λ v. Ok (v, o)) (signed_back z)

unsigned_text : (ds unit : List ℕ) → list_all is_digit ds ≡ true → 0 < length ds → is_signed (ds ++ unit) ≡ false
unsigned_text [] unit h some = absurd (omega arith)
unsigned_text (d ∷ ds) unit h some =
    let no : ((d == 43) ≡ false) × ((d == 45) ≡ false) = no_sign d (list_all is_digit ds) h in
    ap (λ t. t || (d == 45)) no.0 ∙ no.1

by_fraction : (n : ℕ) (ds : List ℕ) → IsNumeralOf n ds → n ≤ amount_limit → fraction_by false (after_whole false ds (codes "/65536")) ≡ Ok (pos n)
by_fraction n ds h k =
    ap (λ t. if t && true then Err BadNumber else Ok (capped false (number_of ds))) (some_digit ds h.some)
    ∙ ap (λ m. Ok (pos m)) (let same : number_of ds ≡ n = h.value in capped_small (number_of ds) n same k)

pub fraction_back : (n : ℕ) → n ≤ amount_limit → fraction_of_field (signed_decimal (pos n) ++ codes "/65536") ≡ Ok (pos n)
fraction_back n h =
    let numeral : IsNumeralOf n (decimal n) = decimal_numeral n (omega arith) in
    (λ i. fraction_by (unsigned_text (decimal n) (codes "/65536") numeral.digits numeral.some i) (part_of_text (pos n) (codes "/65536") (omega arith) refl i))
    ∙ by_fraction n (decimal n) numeral h

-- ---- the bytes of a number

-- bytes that pass a test pass a weaker one
pub all_more : (p q : ℕ → Bool) → ((b : ℕ) → p b ≡ true → q b ≡ true) → (bs : List ℕ) → list_all p bs ≡ true → list_all q bs ≡ true
all_more p q good [] h = refl
all_more p q good (b ∷ bs) h =
    and_from (q b) (list_all q bs) (good b (first_so (p b) (list_all p bs) h)) (all_more p q good bs (second_so (p b) (list_all p bs) h))

-- a number has digits and maybe a sign
pub number_passes : (p : ℕ → Bool) → ((d : ℕ) → is_digit d ≡ true → p d ≡ true) → p 45 ≡ true → (z : ℤ) → in_64_bits z → list_all p (signed_decimal z) ≡ true
number_passes p good sign (pos n) h = let numeral : IsNumeralOf n (decimal n) = decimal_numeral n h in all_more is_digit p good (decimal n) numeral.digits
number_passes p good sign (negsuc n) h =
    let numeral : IsNumeralOf (suc n) (decimal (suc n)) = decimal_numeral (suc n) h in
    ap (λ t. t && list_all p (decimal (suc n))) sign ∙ all_more is_digit p good (decimal (suc n)) numeral.digits

pub number_some : (z : ℤ) → in_64_bits z → 0 < length (signed_decimal z)
number_some (pos n) h = let numeral : IsNumeralOf n (decimal n) = decimal_numeral n h in numeral.some
number_some (negsuc n) h = omega arith

pub number_short : (z : ℤ) → nat_abs z < 10 ^ 10 → length (signed_decimal z) ≤ 11
number_short (pos n) h = let short : length (decimal n) ≤ 10 = length-decimal-le 10 n (omega arith) h (omega arith) in omega arith
number_short (negsuc n) h = let short : length (decimal (suc n)) ≤ 10 = length-decimal-le 10 (suc n) (omega arith) h (omega arith) in omega arith
