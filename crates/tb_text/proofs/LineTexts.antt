-- Lines and fields that are written are read back.
use Rattle.std.proofs.Common.{◌≡◌, ℕ, zero, suc, ◌-◌, ◌<◌, Bool, true, false, not, ◌&&◌, ◌==◌, List, [], ◌∷◌, ◌++◌, length, take, get_or, if◌then◌else◌, refl, sym, ap, ◌∙◌, arith, append_assoc}
use Rattle.std.specs.Cmp.{first_so, second_so}
use Rattle.std.proofs.lemmas.Bool.{not-true}
use Rattle.std.specs.Prelude.{filter}
use Rattle.std.specs.List.{list_all, slice_split, onto_first}
use Rattle.std.specs.Str.Lines.{strip_carriage_return}
use Rattle.std.proofs.lemmas.List.Splits.{length-slice_split}
use Rattle.std.proofs.lemmas.Grind.{common_steps}
use Rattle.tb_text.specs.Lines.{is_feed, is_blank, is_mark, is_nonempty, IsUnended, lines_in, lines_of, fields_of}

split_by : {X : Type 0} (b : X) (xs : List X) (parts : List (List X)) (t : Bool) → t ≡ false → (if t then [] ∷ (xs ∷ parts) else onto_first b (xs ∷ parts)) ≡ (b ∷ xs) ∷ parts
split_by b xs parts true h = cc
split_by b xs parts false h = refl

-- the part before a separating byte
split-first : (p : ℕ → Bool) (xs : List ℕ) (b : ℕ) (rest : List ℕ) → list_all (λ c. not (p c)) xs ≡ true → p b ≡ true → slice_split p (xs ++ b ∷ rest) ≡ xs ∷ slice_split p rest
split-first p [] b rest h k = ap (λ t. if t then [] ∷ slice_split p rest else onto_first b (slice_split p rest)) k
split-first p (x ∷ xs) b rest h k =
    ap (λ ps. if p x then [] ∷ ps else onto_first x ps) (split-first p xs b rest (second_so (not (p x)) (list_all (λ c. not (p c)) xs) h) k)
    ∙ split_by x xs (slice_split p rest) (p x) (not-true (p x) (first_so (not (p x)) (list_all (λ c. not (p c)) xs) h))

split-all : (p : ℕ → Bool) (xs : List ℕ) → list_all (λ c. not (p c)) xs ≡ true → slice_split p xs ≡ xs ∷ []
split-all p [] h = refl
split-all p (x ∷ xs) h =
    ap (λ ps. if p x then [] ∷ ps else onto_first x ps) (split-all p xs (second_so (not (p x)) (list_all (λ c. not (p c)) xs) h))
    ∙ split_by x xs [] (p x) (not-true (p x) (first_so (not (p x)) (list_all (λ c. not (p c)) xs) h))

kept : (f : List ℕ) (parts : List (List ℕ)) → 0 < length f → filter is_nonempty (f ∷ parts) ≡ f ∷ filter is_nonempty parts
kept [] parts h = absurd (omega arith)
kept (b ∷ f) parts h = refl

-- the field before a space
pub fields_of-first : (f rest : List ℕ) → list_all is_mark f ≡ true → 0 < length f → fields_of (f ++ 32 ∷ rest) ≡ f ∷ fields_of rest
fields_of-first f rest h some = ap (λ ps. filter is_nonempty ps) (split-first is_blank f 32 rest h refl) ∙ kept f (slice_split is_blank rest) some

pub fields_of-last : (f : List ℕ) → list_all is_mark f ≡ true → 0 < length f → fields_of f ≡ f ∷ []
fields_of-last f h some = ap (λ ps. filter is_nonempty ps) (split-all is_blank f h) ∙ kept f [] some

-- ---- lines

-- a byte that neither ends a line nor is taken off its end
abbrev pub is_line_byte : ℕ → Bool
is_line_byte b = not (b == 10) && not (b == 13)

no_return : (l : List ℕ) (k : ℕ) → list_all is_line_byte l ≡ true → (get_or l k 0 == 13) ≡ false
no_return [] k h = refl
no_return (b ∷ l) zero h = not-true (b == 13) (second_so (not (b == 10)) (not (b == 13)) (first_so (is_line_byte b) (list_all is_line_byte l) h))
no_return (b ∷ l) (suc k) h = no_return l k (second_so (is_line_byte b) (list_all is_line_byte l) h)

unstripped : (l : List ℕ) → list_all is_line_byte l ≡ true → strip_carriage_return l ≡ l
unstripped l h = ap (λ t. if t then take (length l - 1) l else l) (no_return l (length l - 1) h)

no_feed : (l : List ℕ) → list_all is_line_byte l ≡ true → list_all (λ c. not (is_feed c)) l ≡ true
no_feed [] h = refl
no_feed (b ∷ l) h =
    ap (λ t. t && list_all (λ c. not (is_feed c)) l) (first_so (not (b == 10)) (not (b == 13)) (first_so (is_line_byte b) (list_all is_line_byte l) h))
    ∙ no_feed l (second_so (is_line_byte b) (list_all is_line_byte l) h)

some_part : (p : ℕ → Bool) (bs : List ℕ) → 0 < length (slice_split p bs)
some_part p bs = omega (arith, length-slice_split p bs)

lines_in-cons : (x : List ℕ) (parts : List (List ℕ)) → 0 < length parts → lines_in (x ∷ parts) ≡ strip_carriage_return x ∷ lines_in parts
lines_in-cons x [] h = absurd (omega arith)
lines_in-cons x (y ∷ more) h = refl

lines_in_one : (x : List ℕ) → 0 < length x → lines_in (x ∷ []) ≡ strip_carriage_return x ∷ []
lines_in_one [] h = absurd (omega arith)
lines_in_one (b ∷ x) h = grind (arith, common_steps)

-- the line before a line feed
pub lines_of-first : (line rest : List ℕ) → IsUnended line → lines_of (line ++ 10 ∷ rest) ≡ strip_carriage_return line ∷ lines_of rest
lines_of-first line rest h = ap lines_in (split-first is_feed line 10 rest h refl) ∙ lines_in-cons line (slice_split is_feed rest) (some_part is_feed rest)

-- the line that ends with the text
pub lines_of-last : (line : List ℕ) → IsUnended line → 0 < length line → lines_of line ≡ strip_carriage_return line ∷ []
lines_of-last line h some = ap lines_in (split-all is_feed line h) ∙ lines_in_one line some

-- lines that each end with a line feed
abbrev pub joined_lines : List (List ℕ) → List ℕ
joined_lines [] = []
joined_lines (l ∷ ls) = l ++ 10 ∷ joined_lines ls

pub joined_lines-append : (xs ys : List (List ℕ)) → joined_lines (xs ++ ys) ≡ joined_lines xs ++ joined_lines ys
joined_lines-append [] ys = refl
joined_lines-append (x ∷ xs) ys = ap (λ t. x ++ 10 ∷ t) (joined_lines-append xs ys) ∙ sym (append_assoc x (10 ∷ joined_lines xs) (joined_lines ys))

pub lines_of-joined : (ls : List (List ℕ)) → list_all (λ l. list_all is_line_byte l) ls ≡ true → lines_of (joined_lines ls) ≡ ls
lines_of-joined [] h = refl
lines_of-joined (l ∷ ls) h =
    let clean : list_all is_line_byte l ≡ true = first_so (list_all is_line_byte l) (list_all (λ m. list_all is_line_byte m) ls) h in
    lines_of-first l (joined_lines ls) (no_feed l clean)
    ∙ (λ i. unstripped l clean i ∷ lines_of-joined ls (second_so (list_all is_line_byte l) (list_all (λ m. list_all is_line_byte m) ls) h) i)
