-- The first field of a line, as an amount of a number that was read.
use Rattle.std.proofs.Common.{◌≡◌, ℕ, ℤ, ◌+◌, ◌-◌, ◌*◌, ◌<◌, ◌≤◌, pos, Bool, true, false, ◌&&◌, List, [], ◌∷◌, ◌++◌, length, take, drop, get_or, codes, if◌then◌else◌, refl, ap, sym, ◌∙◌, arith, length-drop, one-add}
use Rattle.std.specs.List.{list_all, prefix_len}
use Rattle.std.proofs.lemmas.List.Sums.{prefix_len_passes, prefix_len-le-length}
use Rattle.std.proofs.lemmas.List.{length-take, drop-drop}
use Rattle.std.proofs.Math.Seq.{take-add}
use Rattle.std.proofs.lemmas.Bool.Decides.{nat_tests}
use Rattle.tb_text.specs.Lines.{is_blank, is_mark, fields_of}
use Rattle.tb_text.specs.Parts.{IsFront, IsFirstNumber, IsFirstAmount}
use Rattle.tb_text.specs.Numbers.{is_digit, digits_at, past_digits, number_of, dimension_by, stretch_by}
use Rattle.tb_text.proofs.Digits.{digit_small}
use Rattle.tb_text.proofs.FirstField.{first_field_is}
use Rattle.tb_text.proofs.NumberTexts.{IsNumeralOf, plain_part, nothing_more, by_points, by_points_stretch}
use Rattle.tb_text.proofs.SmallNumbers.{IsRead, few_read}

-- ---- marks after digits

digit_marks : (b : ℕ) → is_digit b ≡ true → is_mark b ≡ true
digit_marks b h = grind (arith, nat_tests)

digit_is_none : (b : ℕ) → is_digit b ≡ true → is_blank b ≡ false
digit_is_none b h = grind (arith, nat_tests)

nothing_before : (n : ℕ) → n ≡ 0 + n
nothing_before n = omega arith

marks_after : (t : Bool) (b : ℕ) (bs : List ℕ) (d : ℕ) → is_digit b ≡ t → prefix_len is_mark bs ≡ d + prefix_len is_mark (drop d bs)
    → prefix_len is_mark (b ∷ bs) ≡ (if t then 1 + d else 0) + prefix_len is_mark (drop (if t then 1 + d else 0) (b ∷ bs))
marks_after true b bs d e h =
    let mark : prefix_len is_mark (b ∷ bs) ≡ 1 + prefix_len is_mark bs = ap (λ u. if u then 1 + prefix_len is_mark bs else 0) (digit_marks b e) in
    let same : prefix_len is_mark (drop (1 + d) (b ∷ bs)) ≡ prefix_len is_mark (drop d bs) = ap (λ n. prefix_len is_mark (drop n (b ∷ bs))) (one-add d) in
    omega arith
marks_after false b bs d e h = nothing_before (prefix_len is_mark (b ∷ bs))

pub marks_from : (bs : List ℕ) → prefix_len is_mark bs ≡ prefix_len is_digit bs + prefix_len is_mark (past_digits bs)
marks_from [] = refl
marks_from (b ∷ bs) = marks_after (is_digit b) b bs (prefix_len is_digit bs) refl (marks_from bs)

digits_by : (t : Bool) (b : ℕ) (bs : List ℕ) (d : ℕ) → is_digit b ≡ t → list_all is_digit (take d bs) ≡ true → list_all is_digit (take (if t then 1 + d else 0) (b ∷ bs)) ≡ true
digits_by true b bs d e h =
    ap (λ n. list_all is_digit (take n (b ∷ bs))) (one-add d) ∙ ap (λ u. u && list_all is_digit (take d bs)) e ∙ h
digits_by false b bs d e h = refl

digits_all : (bs : List ℕ) → list_all is_digit (digits_at bs) ≡ true
digits_all [] = refl
digits_all (b ∷ bs) = digits_by (is_digit b) b bs (prefix_len is_digit bs) refl (digits_all bs)

-- ---- the field

module _ (line : List ℕ) (n : ℕ) (rest : List ℕ) (front : IsFront line n rest) where
  some_digits : 0 < prefix_len is_digit line
  some_digits = let some : 0 < length (digits_at line) = front.some in omega (arith, length-take (prefix_len is_digit line) line)

  -- it is the digits and the marks that follow them
  field_is : (k : ℕ) → prefix_len is_mark rest ≡ k → fields_of line ≡ (digits_at line ++ take k rest) ∷ fields_of (drop k rest)
  field_is k marks =
      let d : ℕ = prefix_len is_digit line in
      let past : past_digits line ≡ rest = front.past in
      let inside : 0 < length line = omega (arith, some_digits, prefix_len-le-length is_digit line) in
      let count : prefix_len is_mark line ≡ d + k = marks_from line ∙ ap (λ m. d + m) (ap (prefix_len is_mark) past ∙ marks) in
      first_field_is line inside (digit_is_none (get_or line 0 0) (prefix_len_passes is_digit line 0 0 some_digits))
      ∙ ap (λ m. take m line ∷ fields_of (drop m line)) count
      ∙ ap (λ f. f ∷ fields_of (drop (d + k) line)) (take-add d k line ∙ ap (λ r. digits_at line ++ take k r) past)
      ∙ ap (λ r. (digits_at line ++ take k rest) ∷ fields_of r) (sym (drop-drop k d line) ∙ ap (λ r. drop k r) past)

  rest_shorter : length rest < length line
  rest_shorter =
      let past : length (past_digits line) ≡ length rest = ap length front.past in
      omega (arith, some_digits, prefix_len-le-length is_digit line, length-drop (prefix_len is_digit line) line)

  numeral : IsNumeralOf n (digits_at line)
  numeral = record { digits = digits_all line; value = front.value; some = front.some }

  -- digits alone
  pub plain_amount : prefix_len is_mark rest ≡ 0 → IsFirstAmount line (pos n) rest
  plain_amount marks =
      let read : IsRead (pos n) (digits_at line) = few_read (digits_at line) n (digits_all line) front.some front.value front.small in
      record {
        field = digits_at line;
        fields = field_is 0 marks ∙ ap (λ f. f ∷ fields_of rest) (nothing_more (digits_at line));
        dimension = read.dimension;
        stretch = read.stretch;
        shorter = rest_shorter;
      }

  points_part : (after : List ℕ) → rest ≡ 112 ∷ 116 ∷ after → prefix_len is_mark after ≡ 0 → fields_of line ≡ (digits_at line ++ codes "pt") ∷ fields_of after
  points_part after e marks =
      field_is 2 (ap (prefix_len is_mark) e ∙ ap (λ m. 1 + (1 + m)) marks) ∙ ap (λ r. (digits_at line ++ take 2 r) ∷ fields_of (drop 2 r)) e

  -- digits and `pt`
  pub points_amount : n ≤ 16383 → (after : List ℕ) → rest ≡ 112 ∷ 116 ∷ after → prefix_len is_mark after ≡ 0 → IsFirstAmount line (pos (n * 65536)) after
  points_amount few after e marks = record {
    field = digits_at line ++ codes "pt";
    fields = points_part after e marks;
    dimension = ap dimension_by (plain_part (digits_at line) (codes "pt") (digits_all line) front.some refl) ∙ by_points n (digits_at line) numeral few;
    stretch = ap stretch_by (plain_part (digits_at line) (codes "pt") (digits_all line) front.some refl) ∙ by_points_stretch n (digits_at line) numeral few;
    shorter = let size : length rest ≡ length (112 ∷ 116 ∷ after) = ap length e in omega (arith, rest_shorter);
  }

-- the amount of a line after its blanks
pub behind_blanks : (line : List ℕ) (n : ℕ) (rest : List ℕ) (first : IsFirstNumber line n rest) (v : ℤ) (after : List ℕ) → IsFirstAmount first.text v after → IsFirstAmount line v after
behind_blanks line n rest first v after a = record {
  field = a.field;
  fields = sym first.fields ∙ a.fields;
  dimension = a.dimension;
  stretch = a.stretch;
  shorter = let shorter : length after < length first.text = a.shorter in let text : length first.text ≤ length line = first.shorter in omega arith;
}

-- ---- one digit and `pt`

module _ (d : ℕ) (rest : List ℕ) (digit : is_digit d ≡ true) where
  abbrev digit_line : List ℕ
  digit_line = d ∷ 112 ∷ 116 ∷ rest

  one_digit : prefix_len is_digit digit_line ≡ 1
  one_digit = ap (λ t. if t then 1 + 0 else 0) digit

  digit_front : IsFront digit_line (d - 48) (112 ∷ 116 ∷ rest)
  digit_front =
      let front : digits_at digit_line ≡ d ∷ [] = ap (λ n. take n digit_line) one_digit in
      let small : d - 48 < 10 = digit_small d digit in
      record {
        some = let l : length (digits_at digit_line) ≡ 1 = ap length front in omega arith;
        value = ap number_of front ∙ (let none : 0 + (d - 48) ≡ d - 48 = omega arith in none);
        past = ap (λ n. drop n digit_line) one_digit;
        small = omega arith;
      }

  pub digit_amount : (line : List ℕ) → line ≡ 32 ∷ digit_line → prefix_len is_mark rest ≡ 0 → IsFirstAmount line (pos ((d - 48) * 65536)) rest
  digit_amount line e marks =
      let small : d - 48 < 10 = digit_small d digit in
      let first : IsFirstAmount digit_line (pos ((d - 48) * 65536)) rest = points_amount digit_line (d - 48) (112 ∷ 116 ∷ rest) digit_front (omega arith) rest refl marks in
      record {
        field = first.field;
        fields = ap fields_of e ∙ first.fields;
        dimension = first.dimension;
        stretch = first.stretch;
        shorter = let l : length line ≡ length (32 ∷ digit_line) = ap length e in let shorter : length rest < length digit_line = first.shorter in omega arith;
      }
