-- A letter and a number after it are a name.
use Rattle.std.proofs.Common.{◌≡◌, ◌+◌, ◌≤◌, ◌<◌, ◌^◌, ◌&&◌, ap, arith, ℕ, Bool, true, false, List, [], ◌∷◌, ◌++◌, length}
use Rattle.std.specs.Prelude.{◌%◌, decimal}
use Rattle.std.specs.List.{list_all}
use Rattle.std.proofs.lemmas.Bool.Decides.{nat_tests}
use Rattle.std.proofs.lemmas.Fmt.{decimal_by_steps, length-decimal-le}
use Rattle.tb_node.specs.Names.{is_alphanumeric, is_name, is_name_byte}
use Rattle.tb_generator.specs.GeneratedGalleys.{letter_number}

digit_byte : (n : ℕ) → n < 10 → is_name_byte (48 + n) ≡ true
digit_byte n low = grind (arith, nat_tests)

all-append : (p : ℕ → Bool) (xs ys : List ℕ) → list_all p xs ≡ true → list_all p ys ≡ true → list_all p (xs ++ ys) ≡ true
all-append p [] ys a b = b
all-append p (x ∷ xs) ys a b = by_head (p x) (list_all p xs) a (λ h. all-append p xs ys h b)
  where
    by_head : (t u : Bool) → (t && u) ≡ true → (u ≡ true → list_all p (xs ++ ys) ≡ true) → (t && list_all p (xs ++ ys)) ≡ true
    by_head true u e later = later e
    by_head false u e later = e

decimal_bytes : (n : ℕ) → n < 2 ^ 64 → list_all is_name_byte (decimal n) ≡ true
decimal_bytes = decimal_by_steps (λ n ds. list_all is_name_byte ds ≡ true)
    (λ n low. one (is_name_byte (48 + n)) (digit_byte n low))
    (λ n ds low rest. all-append is_name_byte ds ((48 + n % 10) ∷ []) rest (one (is_name_byte (48 + n % 10)) (digit_byte (n % 10) (omega arith))))
  where
    one : (t : Bool) → t ≡ true → (t && true) ≡ true
    one t e = ap (λ b. b && true) e

three : (a b c : Bool) → a ≡ true → b ≡ true → c ≡ true → (a && b && c) ≡ true
three a b c e f g = λ i. e i && f i && g i

pub named : (letter k : ℕ) → is_alphanumeric letter ≡ true → k ≤ 40000 → is_name (letter_number letter k) ≡ true
named letter k h few =
    let short : length (decimal k) ≤ 5 = search (arith, length-decimal-le 5) in
    three _ _ _ h (decimal_bytes k (omega arith)) (grind (arith, nat_tests))
