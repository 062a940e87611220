-- A text without the lines that are told.
use Rattle.std.specs.Prelude.{ℕ, Bool, not, ◌||◌, ◌==◌, List, [], ◌∷◌, filter, take_while, codes, if◌then◌else◌}
use Rattle.std.specs.List.{concat, list_any}
use Rattle.std.specs.Str.{bytes_eq}
use Rattle.tb_text.specs.Lines.{is_feed}

-- the words with which lines begin that are told
abbrev pub told_words : List (List ℕ)
told_words =
    codes "call" ∷ codes "wait" ∷ codes "enter" ∷ codes "here" ∷ codes "top" ∷ codes "bottom" ∷ codes "wide" ∷ codes "alone" ∷ codes "joins" ∷ codes "company"
    ∷ codes "goes" ∷ codes "start" ∷ codes "clear" ∷ codes "back" ∷ codes "beside" ∷ codes "why" ∷ []

-- a space or a line feed: the first word of a line ends before it
abbrev pub ends_word : ℕ → Bool
ends_word b = (b == 32) || is_feed b

-- the bytes of a line up to the first space, or up to its end
abbrev pub first_word : List ℕ → List ℕ
first_word line = take_while (λ b. not (ends_word b)) line

-- the first word of the line is one of these words
abbrev pub is_told : List ℕ → Bool
is_told line = list_any (λ word. bytes_eq word (first_word line)) told_words

-- a byte before these lines: a line feed is a line of its own, any other byte is the first of the first line
abbrev pub with_byte : ℕ → List (List ℕ) → List (List ℕ)
with_byte b [] = (b ∷ []) ∷ []
with_byte b (l ∷ ls) = if is_feed b then (b ∷ []) ∷ l ∷ ls else (b ∷ l) ∷ ls

-- the lines of a text, each up to and with its line feed
abbrev pub whole_lines : List ℕ → List (List ℕ)
whole_lines [] = []
whole_lines (b ∷ bs) = with_byte b (whole_lines bs)

-- a text without the lines that are told
abbrev pub without_told : List ℕ → List ℕ
without_told text = concat (filter (λ l. not (is_told l)) (whole_lines text))
