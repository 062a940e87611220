-- The lines of a text that have content, and their order.
use Rattle.std.specs.Prelude.{ℕ, ◌+◌, Bool, true, false, nat_le, List, [], ◌∷◌, Option, Some, None, codes, if◌then◌else◌}
use Rattle.std.specs.List.{fold}
pub use Rattle.tb_lines.specs.declared.words.Word.{Word as LineWord}
pub use Rattle.tb_lines.specs.declared.words.Word.TheVariants.{Lines as header, Setting as setting, Par as par, Word as word, Space as space, Pen as pen, Endpar as endpar, End as end}
pub use Rattle.tb_galley.specs.declared.words.Phase.{Phase}
pub use Rattle.tb_galley.specs.declared.words.Phase.TheVariants.{Start as at_start, Sets as among_sets, Items as among_pars, AfterClear as after_clear, AfterTwo as after_two, Inside as in_par, Ended as ended}
use Rattle.tb_text.specs.Lines.{fields_of, is_skipped}
use Rattle.tb_galley.specs.Spelling.{Spelled, says, spelled_value}
use Rattle.tb_galley.specs.Words.{first_field, other_fields, word_passes}

-- the words that may begin a line
abbrev pub line_words : List (Spelled LineWord)
line_words =
    says (codes "word") word ∷
    says (codes "space") space ∷
    says (codes "pen") pen ∷
    says (codes "par") par ∷
    says (codes "endpar") endpar ∷
    says (codes "set") setting ∷
    says (codes "lines") header ∷
    says (codes "end") end ∷ []

-- the word that a first field is
unfoldable pub word_of : List ℕ → Option LineWord
word_of text = spelled_value line_words text

-- a line with content: its first field, the word that this is, and the other fields
pub record Line : Type 0 where
  pub word : Option LineWord
  pub head : List ℕ
  pub fields : List (List ℕ)

-- a content line with these fields
abbrev pub line_at : List (List ℕ) → Line
line_at fs = record { word = word_of (first_field fs); head = first_field fs; fields = other_fields fs }

-- a line, if it has content
abbrev pub content_at : List ℕ → List Line
content_at bytes = if is_skipped (fields_of bytes) then [] else line_at (fields_of bytes) ∷ []

-- ---- what the lines before a line say of its place

-- what may come in a paragraph
abbrev pub is_inner_word : LineWord → Bool
is_inner_word word = true
is_inner_word space = true
is_inner_word pen = true
is_inner_word _ = false

-- the lines of these words are counted
abbrev pub counts_word : LineWord → Bool
counts_word par = true
counts_word w = is_inner_word w

-- the phase after a line; once the end came, it stays
abbrev pub later_phase : Phase → Phase → Phase
later_phase ended next = ended
later_phase _ next = next

-- where a line is after a line with this word
abbrev pub next_phase : Phase → Option LineWord → Phase
next_phase p None = p
next_phase p (Some header) = later_phase p among_sets
next_phase p (Some par) = later_phase p in_par
next_phase p (Some endpar) = later_phase p among_pars
next_phase p (Some end) = ended
next_phase p (Some _) = p

-- where a line is after these content lines
abbrev pub phase_after : List Line → Phase
phase_after ls = fold (λ p (l : Line). next_phase p l.word) at_start ls

-- the number of lines that count
abbrev pub count_with : ℕ → Option LineWord → ℕ
count_with n w = if word_passes counts_word w then n + 1 else n

-- how many lines count, of these
abbrev pub count_after : List Line → ℕ
count_after ls = fold (λ n (l : Line). count_with n l.word) 0 ls

-- one item more, if a paragraph is open
abbrev pub one_more : Option ℕ → Option ℕ
one_more None = None
one_more (Some n) = Some (n + 1)

-- the number of items of the open paragraph; none if none is open
abbrev pub inside_with : Option ℕ → Option LineWord → Option ℕ
inside_with n None = n
inside_with n (Some par) = Some 0
inside_with n (Some endpar) = None
inside_with n (Some w) = if is_inner_word w then one_more n else n

-- how many items the open paragraph has after these lines, if one is open
abbrev pub inside_after : List Line → Option ℕ
inside_after ls = fold (λ n (l : Line). inside_with n l.word) None ls

-- the open paragraph has 5000 items
abbrev pub is_full : Option ℕ → Bool
is_full None = false
is_full (Some n) = nat_le 5000 n
