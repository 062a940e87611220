-- A field that is read as a dimension has printable bytes only.
use Rattle.std.proofs.Common.{◌≡◌, refl, sym, subst, ℕ, suc, ◌+◌, ℤ, Bool, true, false, not, ◌&&◌, ◌||◌, ◌==◌, List, [], ◌∷◌, drop, codes, bytes_eq, Ok, Err, if◌then◌else◌, arith}
use Rattle.std.specs.List.{list_all, prefix_len}
use Rattle.std.proofs.lemmas.Slice.Eq.{bytes_eq-Decides}
use Rattle.std.proofs.lemmas.Bool.Decides.{nat_tests}
use Rattle.std.proofs.lemmas.Bool.{and_from}
use Rattle.tb_text.specs.declared.TextFault.TheVariants.{BadNumber, BadUnit}
use Rattle.tb_text.specs.Numbers.{is_digit, NumberPart, digits_at, past_digits, after_whole, unsigned_part, number_part, has_no_digit, has_unit, within_dimen, in_points, whole_of, dimension_by, dimension_of}
use Rattle.tb_galley.specs.Faults.{is_printable}

abbrev are_visible : List ℕ → Bool
are_visible bs = list_all is_printable bs

pub digit_visible : (b : ℕ) → is_digit b ≡ true → is_printable b ≡ true
digit_visible b h = grind (arith, nat_tests)

equal_visible : (b n : ℕ) → (b == n) ≡ true → is_printable n ≡ true → is_printable b ≡ true
equal_visible b n e h = let same : b ≡ n = grind (arith, nat_tests) in subst (λ m. is_printable m ≡ true) (sym same) h

past_visible : (bs : List ℕ) → are_visible (past_digits bs) ≡ true → are_visible bs ≡ true
past_visible [] h = refl
past_visible (b ∷ bs) h = by_test (past_visible bs) (is_digit b) refl h
  where
    by_test : (are_visible (past_digits bs) ≡ true → are_visible bs ≡ true) → (t : Bool) → is_digit b ≡ t → are_visible (drop (if t then 1 + prefix_len is_digit bs else 0) (b ∷ bs)) ≡ true → are_visible (b ∷ bs) ≡ true
    by_test rest false e h = h
    by_test rest true e h =
        let one : 1 + prefix_len is_digit bs ≡ suc (prefix_len is_digit bs) = omega arith in
        and_from (is_printable b) (are_visible bs) (digit_visible b e) (rest (subst (λ n. are_visible (drop n (b ∷ bs)) ≡ true) one h))

after_visible : (negative : Bool) (whole rest : List ℕ) → are_visible (after_whole negative whole rest).unit ≡ true → are_visible rest ≡ true
after_visible negative whole [] h = refl
after_visible negative whole (b ∷ bs) h = by_point (b == 46) refl h
  where
    by_point : (t : Bool) → (b == 46) ≡ t
        → are_visible (if t then (let p : NumberPart = record { negative = negative; whole = whole; point = true; decimals = digits_at bs; unit = past_digits bs } in p)
        else (let p : NumberPart = record { negative = negative; whole = whole; point = false; decimals = []; unit = b ∷ bs } in p)).unit ≡ true → are_visible (b ∷ bs) ≡ true
    by_point true e h = and_from (is_printable b) (are_visible bs) (equal_visible b 46 e refl) (past_visible bs h)
    by_point false e h = h

unsigned_visible : (negative : Bool) (bs : List ℕ) → are_visible (unsigned_part negative bs).unit ≡ true → are_visible bs ≡ true
unsigned_visible negative bs h = past_visible bs (after_visible negative (digits_at bs) (past_digits bs) h)

number_visible : (bs : List ℕ) → are_visible (number_part bs).unit ≡ true → are_visible bs ≡ true
number_visible [] h = refl
number_visible (b ∷ bs) h = by_sign (b == 43) (b == 45) refl refl h
  where
    by_sign : (plus minus : Bool) → (b == 43) ≡ plus → (b == 45) ≡ minus
        → are_visible (if plus then unsigned_part false bs else (if minus then unsigned_part true bs else unsigned_part false (b ∷ bs))).unit ≡ true → are_visible (b ∷ bs) ≡ true
    by_sign true minus e f h = and_from (is_printable b) (are_visible bs) (equal_visible b 43 e refl) (unsigned_visible false bs h)
    by_sign false true e f h = and_from (is_printable b) (are_visible bs) (equal_visible b 45 f refl) (unsigned_visible true bs h)
    by_sign false false e f h = unsigned_visible false (b ∷ bs) h

same_visible : (bs unit : List ℕ) → bytes_eq bs unit ≡ true → are_visible unit ≡ true → are_visible bs ≡ true
same_visible bs unit e h =
    let same : bs ≡ unit = (bytes_eq-Decides bs unit).0 e in
    subst (λ xs. are_visible xs ≡ true) (sym same) h

unit_visible : (n : NumberPart) (v : ℤ) → dimension_by n ≡ Ok v → are_visible n.unit ≡ true
unit_visible n v h = by_tests (has_no_digit n) (has_unit n (codes "pt")) (not n.point) (has_unit n []) (has_unit n (codes "sp")) refl refl refl h
  where
    by_tests : (no points plain bare scaled : Bool) → has_unit n (codes "pt") ≡ points → has_unit n [] ≡ bare → has_unit n (codes "sp") ≡ scaled
        → (if no then Err BadNumber else (if points then within_dimen n.negative (in_points n) else (if plain && (bare || scaled) then within_dimen n.negative (whole_of n) else Err BadUnit))) ≡ Ok v
        → are_visible n.unit ≡ true
    by_tests true points plain bare scaled a b c h = absurd (cc)
    by_tests false true plain bare scaled a b c h = same_visible n.unit (codes "pt") a refl
    by_tests false false true true scaled a b c h = same_visible n.unit [] b refl
    by_tests false false true false true a b c h = same_visible n.unit (codes "sp") c refl
    by_tests false false true false false a b c h = absurd (cc)
    by_tests false false false bare scaled a b c h = absurd (cc)

pub dimension_visible : (f : List ℕ) (v : ℤ) → dimension_of f ≡ Ok v → are_visible f ≡ true
dimension_visible f v h = number_visible f (unit_visible (number_part f) v h)
