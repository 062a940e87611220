-- A text of whole lines is kept or left out whole, if each of its lines is.
use Rattle.std.proofs.Common.{◌≡◌, refl, sym, ap, ◌∙◌, ℕ, zero, suc, ℤ, pos, negsuc, Bool, true, false, not, List, [], ◌∷◌, ◌++◌, filter, append_assoc, ◌<◌, ◌/◌, ◌%◌, arith}
use Rattle.std.specs.Prelude.{◌==◌, decimal, if◌then◌else◌}
use Rattle.std.specs.Fmt.{signed_decimal, digits, digits_onto, digit_glyph}
use Rattle.std.specs.List.{concat, list_all}
use Rattle.std.specs.Cmp.{first_so, second_so}
use Rattle.std.proofs.lemmas.Bool.{and_from}
use Rattle.std.proofs.lemmas.Bool.Decides.{nat_tests}
use Rattle.std.proofs.lemmas.List.Folds.{list_all-append}
use Rattle.tb_text.specs.Lines.{is_feed, IsUnended}
use Rattle.tb_text.specs.Fields.{line}
use Rattle.tb_why.specs.Told.{is_told, with_byte, whole_lines, without_told}

-- ---- lines

feed-alone : (ls : List (List ℕ)) → with_byte 10 ls ≡ (10 ∷ []) ∷ ls
feed-alone [] = refl
feed-alone (l ∷ ls) = refl

byte-first : (b : ℕ) (l : List ℕ) (ls : List (List ℕ)) → not (is_feed b) ≡ true → with_byte b (l ∷ ls) ≡ (b ∷ l) ∷ ls
byte-first b l ls h = by_test (is_feed b) h
  where
    by_test : (t : Bool) → not t ≡ true → (if t then (b ∷ []) ∷ l ∷ ls else (b ∷ l) ∷ ls) ≡ (b ∷ l) ∷ ls
    by_test true h = cc
    by_test false h = refl

-- a line without a line feed in it is the first line of a text that begins with it
first-line : (text rest : List ℕ) → IsUnended text → whole_lines (line text ++ rest) ≡ line text ∷ whole_lines rest
first-line [] rest h = feed-alone (whole_lines rest)
first-line (b ∷ bs) rest h =
    let here : not (is_feed b) ≡ true = first_so (not (is_feed b)) (list_all (λ c. not (is_feed c)) bs) h in
    let later : IsUnended bs = second_so (not (is_feed b)) (list_all (λ c. not (is_feed c)) bs) h in
    ap (with_byte b) (first-line bs rest later) ∙ byte-first b (line bs) (whole_lines rest) here

-- ---- texts

-- a text that is kept, and one that is left out, whatever follows
abbrev pub Kept : List ℕ → Type 0
Kept text = (rest : List ℕ) → without_told (text ++ rest) ≡ text ++ without_told rest

abbrev pub LeftOut : List ℕ → Type 0
LeftOut text = (rest : List ℕ) → without_told (text ++ rest) ≡ without_told rest

pub none-kept : Kept []
none-kept rest = refl

pub none-left : LeftOut []
none-left rest = refl

pub both-kept : (xs ys : List ℕ) → Kept xs → Kept ys → Kept (xs ++ ys)
both-kept xs ys h k rest =
    ap without_told (append_assoc xs ys rest) ∙ h (ys ++ rest) ∙ ap (λ zs. xs ++ zs) (k rest) ∙ sym (append_assoc xs ys (without_told rest))

pub both-left : (xs ys : List ℕ) → LeftOut xs → LeftOut ys → LeftOut (xs ++ ys)
both-left xs ys h k rest = ap without_told (append_assoc xs ys rest) ∙ h (ys ++ rest) ∙ k rest

abbrev kept-lines : List (List ℕ) → List ℕ
kept-lines ls = concat (filter (λ l. not (is_told l)) ls)

pub line-kept : (text : List ℕ) → IsUnended text → is_told (line text) ≡ false → Kept (line text)
line-kept text h is rest =
    ap kept-lines (first-line text rest h) ∙ ap (λ t. concat (if not t then line text ∷ filter (λ l. not (is_told l)) (whole_lines rest) else filter (λ l. not (is_told l)) (whole_lines rest))) is

pub line-left : (text : List ℕ) → IsUnended text → is_told (line text) ≡ true → LeftOut (line text)
line-left text h is rest =
    ap kept-lines (first-line text rest h) ∙ ap (λ t. concat (if not t then line text ∷ filter (λ l. not (is_told l)) (whole_lines rest) else filter (λ l. not (is_told l)) (whole_lines rest))) is

-- ---- fields without a line feed

glyph-plain : (d : ℕ) → d < 10 → not (is_feed (digit_glyph false d)) ≡ true
glyph-plain d h = grind (arith, nat_tests)

onto-plain : (k n : ℕ) (ds : List ℕ) → IsUnended ds → IsUnended (digits_onto k 10 false n ds)
onto-plain zero n ds h = h
onto-plain (suc k) n ds h = let more = and_from (not (is_feed (digit_glyph false (n % 10)))) (list_all (λ b. not (is_feed b)) ds) (glyph-plain (n % 10) (omega arith)) h in
    by_test (n / 10 == 0) (digit_glyph false (n % 10) ∷ ds) (digits_onto k 10 false (n / 10) (digit_glyph false (n % 10) ∷ ds)) more (onto-plain k (n / 10) (digit_glyph false (n % 10) ∷ ds) more)
  where
    by_test : (t : Bool) (xs ys : List ℕ) → IsUnended xs → IsUnended ys → IsUnended (if t then xs else ys)
    by_test true xs ys f g = f
    by_test false xs ys f g = g

pub count-plain : (n : ℕ) → IsUnended (decimal n)
unfolding digits
count-plain n = onto-plain 64 n [] refl

pub number-plain : (z : ℤ) → IsUnended (signed_decimal z)
number-plain (pos n) = count-plain n
number-plain (negsuc n) = count-plain (suc n)

pub plain-join : (xs ys : List ℕ) → IsUnended xs → IsUnended ys → IsUnended (xs ++ ys)
plain-join xs ys h k = list_all-append (λ b. not (is_feed b)) xs ys ∙ and_from (list_all (λ b. not (is_feed b)) xs) (list_all (λ b. not (is_feed b)) ys) h k
