-- A line that is made of fields is read back.
use Rattle.std.proofs.Common.{◌≡◌, ℕ, ◌+◌, ◌<◌, ◌≤◌, true, false, not, nat_lt, List, [], ◌∷◌, ◌++◌, length, Option, Some, None, Ok, if◌then◌else◌, refl, ap, ◌∙◌, arith, length-append}
use Rattle.std.proofs.lemmas.Bool.{and_from}
use Rattle.std.specs.List.{list_all}
use Rattle.std.proofs.lemmas.Bool.Decides.{nat_tests}
use Rattle.std.proofs.lemmas.List.Folds.{list_all-append}
use Rattle.tb_text.specs.Lines.{fields_of, is_skipped, is_mark, begins_with}
use Rattle.tb_text.proofs.LineTexts.{fields_of-first, fields_of-last, is_line_byte}
use Rattle.tb_text.proofs.NumberTexts.{all_more}
use Rattle.tb_galley.specs.declared.Cause.{Cause}
use Rattle.tb_galley.specs.declared.Cause.TheVariants as causes
use Rattle.tb_galley.specs.Words.{LineWord, Phase, count_with, line_at, content_at, word_of, Known, word_here}
use Rattle.tb_galley.specs.Fields.{Slot, slot_cause, word_slots}
use Rattle.tb_galley.specs.Faults.{is_printable, cause_if, causes_in, ascii_causes, value_causes, missing_cause, asked_place, place_causes, item_causes}
use Rattle.tb_galley.specs.Grammar.{Draft, with_content, content_of}
use Rattle.tb_galley.specs.FieldReader.{◌>>=◌, at_fault, settled}
use Rattle.tb_galley.specs.Line.{first_of, said, worded_left, content_line, content_lines, line_left}
use Rattle.tb_galley.specs.GalleyReader.{State, known_in, next_phase, said_unless, take_said}
use Rattle.tb_galley.proofs.FieldReads.{first_at, settle, reads}

-- ---- fields and lines

pub record IsText (f : List ℕ) : Type 0 where
  pub printable : list_all is_printable f ≡ true
  pub some : 0 < length f

-- a field that has no fault in its slot
pub record IsFit (s : Slot) (f : List ℕ) : Type 0 where
  pub text : IsText f
  pub slot : slot_cause s f ≡ None

abbrev pub AllFit : List Slot → List (List ℕ) → Type 0
AllFit [] [] = Unit {0}
AllFit [] (f ∷ fs) = ⊥
AllFit (s ∷ ss) [] = ⊥
AllFit (s ∷ ss) (f ∷ fs) = IsFit s f × AllFit ss fs

-- the fields after the first, each after a space
abbrev pub tail_text : List (List ℕ) → List ℕ
tail_text [] = []
tail_text (f ∷ fs) = 32 ∷ (f ++ tail_text fs)

abbrev pub tail_length : List (List ℕ) → ℕ
tail_length [] = 0
tail_length (f ∷ fs) = 1 + length f + tail_length fs

pub length-tail_text : (fs : List (List ℕ)) → length (tail_text fs) ≡ tail_length fs
length-tail_text [] = refl
length-tail_text (f ∷ fs) = let more : length (tail_text fs) ≡ tail_length fs = length-tail_text fs in omega (arith, length-append f (tail_text fs))

printable_mark : (b : ℕ) → is_printable b ≡ true → is_mark b ≡ true
printable_mark b h = grind (arith, nat_tests)

printable_line_byte : (b : ℕ) → is_printable b ≡ true → is_line_byte b ≡ true
printable_line_byte b h = grind (arith, nat_tests)

pub nothing_more : (bs : List ℕ) → bs ++ [] ≡ bs
nothing_more [] = refl
nothing_more (b ∷ bs) = ap (λ cs. b ∷ cs) (nothing_more bs)

fields_of-line : (f : List ℕ) (ss : List Slot) (fs : List (List ℕ)) → IsText f → AllFit ss fs → fields_of (f ++ tail_text fs) ≡ f ∷ fs
fields_of-line f [] [] text fit = ap fields_of (nothing_more f) ∙ fields_of-last f (all_more is_printable is_mark printable_mark f text.printable) text.some
fields_of-line f [] (g ∷ gs) text fit = absurd fit
fields_of-line f (s ∷ ss) [] text fit = absurd fit
fields_of-line f (s ∷ ss) (g ∷ gs) text fit =
    fields_of-first f (g ++ tail_text gs) (all_more is_printable is_mark printable_mark f text.printable) text.some
    ∙ ap (λ ps. f ∷ ps) (fields_of-line g ss gs fit.0.text fit.1)

tail_clean : (ss : List Slot) (fs : List (List ℕ)) → AllFit ss fs → list_all is_line_byte (tail_text fs) ≡ true
tail_clean [] [] fit = refl
tail_clean [] (g ∷ gs) fit = absurd fit
tail_clean (s ∷ ss) [] fit = absurd fit
tail_clean (s ∷ ss) (g ∷ gs) fit =
    list_all-append is_line_byte g (tail_text gs)
    ∙ and_from (list_all is_line_byte g) (list_all is_line_byte (tail_text gs)) (all_more is_printable is_line_byte printable_line_byte g fit.0.text.printable) (tail_clean ss gs fit.1)

pub line_clean : (f : List ℕ) (ss : List Slot) (fs : List (List ℕ)) → IsText f → AllFit ss fs → list_all is_line_byte (f ++ tail_text fs) ≡ true
line_clean f ss fs text fit =
    list_all-append is_line_byte f (tail_text fs)
    ∙ and_from (list_all is_line_byte f) (list_all is_line_byte (tail_text fs)) (all_more is_printable is_line_byte printable_line_byte f text.printable) (tail_clean ss fs fit)

-- ---- fields in their slots have no cause

no_cause : (n : ℕ) (f : List ℕ) (o : Option Cause) (later : List (List Cause)) → list_all is_printable f ≡ true → o ≡ None
    → first_at n ((ascii_causes f ++ causes_in o) ∷ later) ≡ first_at (n + 1) later
no_cause n f o later h k = (λ i. first_at n ((cause_if (not (h i)) causes.NotAscii ++ causes_in (k i)) ∷ later))

fit_none : (n : ℕ) (m : Cause) (ss : List Slot) (fs : List (List ℕ)) → AllFit ss fs → first_at n (value_causes m ss fs) ≡ None
fit_none n m [] [] fit = refl
fit_none n m [] (f ∷ fs) fit = absurd fit
fit_none n m (s ∷ ss) [] fit = absurd fit
fit_none n m (s ∷ ss) (f ∷ fs) fit = no_cause n f (slot_cause s f) (value_causes m ss fs) fit.0.text.printable fit.0.slot ∙ fit_none (n + 1) m ss fs fit.1

-- ---- a whole line

-- a line that begins with this word's spelling, if the word counts
pub record IsWord (k : Known) (head : List ℕ) (w : LineWord) : Type 0 where
  pub text : IsText head
  pub short : length head ≤ 14
  pub content : begins_with 35 head ≡ false
  pub word : word_of head ≡ Some w
  pub here : word_here k (Some w) ≡ Some w

pub line_back : (p : Phase) (k : Known) (c n : ℕ) (head : List ℕ) (w : LineWord) (fs : List (List ℕ)) → IsWord k head w → AllFit (word_slots k fs w) fs → tail_length fs ≤ 200
    → first_of (place_causes p (asked_place k.version fs) (Some w)) ≡ None → first_of (item_causes c (Some w)) ≡ None
    → line_left p k c n (head ++ tail_text fs) ≡ Ok (Some (w, content_of k.version n fs w))
unfolding line_left content_line
line_back p k c n head w fs is_word fit short place fits =
    let short_line : nat_lt 255 (length (head ++ tail_text fs)) ≡ false = not_long (length (head ++ tail_text fs)) (omega (arith, length-append head (tail_text fs), length-tail_text fs, is_word.short)) in
    ap (λ t. if t then at_fault 0 causes.LineLength else content_lines p k c (content_at n (head ++ tail_text fs))) short_line
    ∙ ap (λ gs. content_lines p k c (if is_skipped gs then [] else line_at n gs ∷ [])) (fields_of-line head (word_slots k fs w) fs is_word.text fit)
    ∙ ap (λ t. content_lines p k c (if t then [] else line_at n (head ∷ fs) ∷ [])) is_word.content
    ∙ ap (λ t. (if t then Ok (tt {0}) else at_fault 1 causes.NotAscii) >>= λ a. settled 1 (first_of (place_causes p (asked_place k.version fs) (word_here k (word_of head)))) (tt {0}) >>= λ x. settled 1 (first_of (item_causes c (word_of head))) (tt {0}) >>= λ y. worded_left k (line_at n (head ∷ fs)) (word_here k (word_of head))) is_word.text.printable
    ∙ ap (λ o. settled 1 (first_of (place_causes p (asked_place k.version fs) (word_here k o))) (tt {0}) >>= λ x. settled 1 (first_of (item_causes c o)) (tt {0}) >>= λ y. worded_left k (line_at n (head ∷ fs)) (word_here k o)) is_word.word
    ∙ ap (λ o. settled 1 (first_of (place_causes p (asked_place k.version fs) o)) (tt {0}) >>= λ x. settled 1 (first_of (item_causes c (Some w))) (tt {0}) >>= λ y. worded_left k (line_at n (head ∷ fs)) o) is_word.here
    ∙ ap (λ o. settled 1 o (tt {0}) >>= λ x. settled 1 (first_of (item_causes c (Some w))) (tt {0}) >>= λ y. worded_left k (line_at n (head ∷ fs)) (Some w)) place
    ∙ ap (λ o. settled 1 o (tt {0}) >>= λ y. worded_left k (line_at n (head ∷ fs)) (Some w)) fits
    ∙ ap (λ r. said w r) (reads k n fs w ∙ ap (λ o. settle o (content_of k.version n fs w)) (fit_none 2 (missing_cause w) (word_slots k fs w) fs fit))
  where
    not_long : (k : ℕ) → k ≤ 255 → nat_lt 255 k ≡ false
    not_long k h = grind (arith, nat_tests)

-- a reader that has found no fault
abbrev pub state : ℕ → Phase → ℕ → Draft → State
state n p c d = record { lines = n; phase = p; count = c; draft = d; first = None }

pub step_back : (n : ℕ) (p : Phase) (c : ℕ) (d : Draft) (head : List ℕ) (w : LineWord) (fs : List (List ℕ)) → IsWord (known_in d) head w → AllFit (word_slots (known_in d) fs w) fs → tail_length fs ≤ 200
    → first_of (place_causes p (asked_place d.version fs) (Some w)) ≡ None → first_of (item_causes c (Some w)) ≡ None
    → take_said (state n p c d) (head ++ tail_text fs) ≡ state (n + 1) (next_phase p (Some w)) (count_with c (Some w)) (with_content d (n + 1) (content_of d.version (n + 1) fs w))
step_back n p c d head w fs is_word fit short place fits = ap (λ r. said_unless (state n p c d) r) (line_back p (known_in d) c (n + 1) head w fs is_word fit short place fits)
