-- Lines that say nothing only count.
use Rattle.std.proofs.Common.{◌≡◌, ◌⊎◌, inl, inr, ℕ, ◌+◌, ◌≤◌, true, List, [], ◌∷◌, length, Option, Some, None, Ok, refl, ap, sym, ◌∙◌, arith, if◌then◌else◌}
use Rattle.std.specs.List.{fold}
use Rattle.tb_text.specs.Lines.{fields_of, is_skipped}
use Rattle.tb_galley.specs.declared.Fault.{Fault}
use Rattle.tb_galley.specs.declared.Cause.TheVariants as causes
use Rattle.tb_galley.specs.Words.{Phase, Known, content_at, line_at}
use Rattle.tb_galley.specs.FieldReader.{at_fault}
use Rattle.tb_galley.specs.Line.{content_lines, line_left}
use Rattle.tb_galley.specs.GalleyReader.{State, known_in, said_first, said_unless, take_said}
use Rattle.tb_galley.specs.Unfinished.{kept_line}
use Rattle.tb_galley.specs.declared.pieces.Progress.TheVariants.{Lines}
use Rattle.tb_galley.specs.Pieces.{take_byte}
use Rattle.tb_galley.proofs.FrequentLines.{short}

-- ---- a line that says nothing

skipped_left : (p : Phase) (k : Known) (count n : ℕ) (bytes : List ℕ) → length bytes ≤ 255 → is_skipped (fields_of bytes) ≡ true → line_left p k count n bytes ≡ Ok None
unfolding line_left
skipped_left p k count n bytes few skipped =
    ap (λ t. if t then at_fault 0 causes.LineLength else content_lines p k count (content_at n bytes)) (short bytes few)
    ∙ ap (λ t. content_lines p k count (if t then [] else line_at n (fields_of bytes) ∷ [])) skipped

-- it only counts
pub skipped_step : (s : State) → s.first ≡ None → (line : List ℕ) → length line ≤ 255 → is_skipped (fields_of line) ≡ true → record s { lines = s.lines + 1 } ≡ take_said s line
skipped_step s first line few skipped =
    sym (ap (said_first s line) first ∙ ap (said_unless s) (skipped_left s.phase (known_in s.draft) s.count (s.lines + 1) line few skipped))

-- `#` alone is taken as an empty line is
hash_is_empty : (s : State) → take_said s [] ≡ take_said s (35 ∷ [])
unfolding line_left
hash_is_empty s = by s.first
  where
    by : (f : Option Fault) → said_first s [] f ≡ said_first s (35 ∷ []) f
    by None = refl
    by (Some f) = refl

-- the first line of a text, if it is empty or `#` alone
pub bare_line : (s t : State) (text after : List ℕ) → t ≡ take_said s [] → ((text ≡ 10 ∷ after) ⊎ (text ≡ 35 ∷ 10 ∷ after)) → fold take_byte (Lines t []) after ≡ fold take_byte (Lines s []) text
unfolding kept_line
bare_line s t text after step (inl e) = ap (λ r. fold take_byte (Lines r []) after) step ∙ sym (ap (fold take_byte (Lines s [])) e)
bare_line s t text after step (inr e) = ap (λ r. fold take_byte (Lines r []) after) (step ∙ hash_is_empty s) ∙ sym (ap (fold take_byte (Lines s [])) e)

pub bare_length : (text after : List ℕ) → ((text ≡ 10 ∷ after) ⊎ (text ≡ 35 ∷ 10 ∷ after)) → length after + 1 ≤ length text
bare_length text after (inl e) = let n = ap length e in omega (arith, n)
bare_length text after (inr e) = let n = ap length e in omega (arith, n)
