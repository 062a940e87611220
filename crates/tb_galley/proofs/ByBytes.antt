-- A text that is read byte by byte gives what its lines give.
use Rattle.std.proofs.Common.{◌≡◌, ℕ, ◌+◌, ◌-◌, ◌<◌, ◌≤◌, ◌==◌, Bool, true, false, not, ◌&&◌, nat_lt, List, [], ◌∷◌, ◌++◌, length, take, get_or, Option, Some, None, if◌then◌else◌, refl, ap, ◌∙◌, sym, arith, append_assoc}
use Rattle.std.specs.List.{fold, list_all}
use Rattle.std.specs.Str.Lines.{strip_carriage_return}
use Rattle.std.proofs.lemmas.List.{length-take, length-append, append-nil}
use Rattle.std.proofs.lemmas.List.Sums.{fold-append}
use Rattle.std.proofs.lemmas.List.Folds.{list_all-append}
use Rattle.std.proofs.lemmas.Bool.Decides.{nat_tests}
use Rattle.std.proofs.lemmas.Bool.{and_parts, not-true}
use Rattle.tb_text.specs.Lines.{is_feed, IsUnended, lines_of}
use Rattle.tb_text.proofs.LineTexts.{lines_of-first, lines_of-last}
use Rattle.tb_galley.specs.declared.Fault.{Fault}
use Rattle.tb_galley.specs.declared.Cause.TheVariants as causes
use Rattle.tb_galley.specs.Words.{Phase, Known}
use Rattle.tb_galley.specs.FieldReader.{at_fault}
use Rattle.tb_galley.specs.Line.{line_left}
use Rattle.tb_galley.specs.GalleyReader.{State, known_in, take_said, said_first, said_unless}
use Rattle.tb_galley.specs.Unfinished.{kept_line}
use Rattle.tb_galley.specs.declared.pieces.Progress.TheVariants.{Lines, TooLong, OutOfMemory}
use Rattle.tb_galley.specs.Pieces.{Progress, with_byte, take_byte, line_ended, with_last}
use Rattle.tb_galley.proofs.UnfinishedLines.{kept-append, kept_short, kept_nothing, length-kept}

-- ---- a line that is too long is too long whatever its bytes are

stripped_by : (t : Bool) (l : List ℕ) → length l - 1 ≤ length (if t then take (length l - 1) l else l)
stripped_by true l = omega (arith, length-take (length l - 1) l)
stripped_by false l = omega arith

long_stripped : (l : List ℕ) → 256 < length l → nat_lt 255 (length (strip_carriage_return l)) ≡ true
long_stripped l h = let e = stripped_by (get_or l (length l - 1) 0 == 13) l in grind (arith, nat_tests, e)

long_left : (p : Phase) (k : Known) (count n : ℕ) (bytes : List ℕ) → nat_lt 255 (length bytes) ≡ true → line_left p k count n bytes ≡ at_fault 0 causes.LineLength
unfolding line_left
long_left p k count n bytes h = rw h refl

long_said : (s : State) (x y : List ℕ) (o : Option Fault) → nat_lt 255 (length x) ≡ true → nat_lt 255 (length y) ≡ true → said_first s x o ≡ said_first s y o
long_said s x y (Some f) h k = refl
long_said s x y None h k =
    ap (said_unless s) (long_left s.phase (known_in s.draft) s.count (s.lines + 1) x h ∙ sym (long_left s.phase (known_in s.draft) s.count (s.lines + 1) y k))

kept_by : (s : State) (l : List ℕ) (t : Bool) → nat_lt 257 (length l) ≡ t → take_said s (strip_carriage_return (kept_line l)) ≡ take_said s (strip_carriage_return l)
kept_by s l false h = ap (λ x. take_said s (strip_carriage_return x)) (kept_short l (grind (arith, nat_tests)))
kept_by s l true h =
    let long : 257 < length l = grind (arith, nat_tests) in
    long_said s (strip_carriage_return (kept_line l)) (strip_carriage_return l) s.first
    (long_stripped (kept_line l) (omega (arith, length-kept l))) (long_stripped l (omega arith))

-- what is kept of a line is read as the whole line is
pub take_kept : (s : State) (l : List ℕ) → take_said s (strip_carriage_return (kept_line l)) ≡ take_said s (strip_carriage_return l)
take_kept s l = kept_by s l (nat_lt 257 (length l)) refl

-- ---- one piece of a line, and its end

pub fold_unended : (s : State) (line w : List ℕ) → IsUnended w → fold take_byte (Lines s (kept_line line)) w ≡ Lines s (kept_line (line ++ w))
fold_unended s line [] h = ap (λ l. Lines s (kept_line l)) (sym (append-nil line))
fold_unended s line (b ∷ w) h =
    ap (λ t. fold take_byte (with_byte s (kept_line line) b t) w) (not-true (is_feed b) (and_parts (not (is_feed b)) (list_all (λ c. not (is_feed c)) w) h).0)
    ∙ ap (λ l. fold take_byte (Lines s l) w) (kept-append line (b ∷ []))
    ∙ fold_unended s (line ++ b ∷ []) w (and_parts (not (is_feed b)) (list_all (λ c. not (is_feed c)) w) h).1
    ∙ ap (λ l. Lines s (kept_line l)) (append_assoc line (b ∷ []) w)

pub fold_ended : (s : State) (line w rest : List ℕ) → IsUnended w
    → fold take_byte (Lines s (kept_line line)) (w ++ 10 ∷ rest) ≡ fold take_byte (Lines (take_said s (strip_carriage_return (kept_line (line ++ w)))) []) rest
fold_ended s line w rest h =
    fold-append take_byte (Lines s (kept_line line)) w (10 ∷ rest) ∙ ap (λ p. fold take_byte p (10 ∷ rest)) (fold_unended s line w h)

-- the same of a line that ends in a piece
pub line_step : (s t : State) (u v w after piece : List ℕ) → kept_line u ≡ u → IsUnended w → piece ≡ w ++ 10 ∷ after
    → t ≡ take_said s (strip_carriage_return (kept_line (u ++ w))) → v ≡ [] → fold take_byte (Lines t v) after ≡ fold take_byte (Lines s u) piece
line_step s t u v w after piece short whole parts step next =
    (λ i. fold take_byte (Lines (step i) (next i)) after)
    ∙ sym (fold_ended s u w after whole)
    ∙ ap (λ l. fold take_byte (Lines s l) (w ++ 10 ∷ after)) short
    ∙ sym (ap (fold take_byte (Lines s u)) parts)

-- what follows the last line feed of a piece
pub last_step : (s : State) (u v piece : List ℕ) → kept_line u ≡ u → IsUnended piece → v ≡ kept_line (u ++ piece) → Lines s v ≡ fold take_byte (Lines s u) piece
last_step s u v piece short whole next = ap (Lines s) next ∙ sym (fold_unended s u piece whole) ∙ ap (λ l. fold take_byte (Lines s l) piece) short

-- an input that is too long stays so
pub too_long_fold : (piece : List ℕ) → fold take_byte TooLong piece ≡ TooLong
too_long_fold [] = refl
too_long_fold (b ∷ piece) = too_long_fold piece

-- a test of a length
pub no_length : (n : ℕ) → true ≡ (n == 0) → n ≡ 0
no_length n h = let e : (n == 0) ≡ true = sym h in grind (arith, nat_tests)

pub some_length : (n : ℕ) → false ≡ (n == 0) → 0 < n
some_length n h = let e : (n == 0) ≡ false = sym h in grind (arith, nat_tests)

-- what is kept of a line with its end
ended_kept : (u w : List ℕ) → 0 < length u → line_ended u w ≡ u
ended_kept [] w h = absurd (omega arith)
ended_kept (b ∷ u) w h = refl

-- a line of which nothing was read before
pub whole_line : (s : State) (u v w x : List ℕ) → length u ≡ 0 → v ≡ u → x ≡ strip_carriage_return (line_ended v w)
    → take_said s x ≡ take_said s (strip_carriage_return (kept_line (u ++ w)))
whole_line s [] v w x none same e = ap (take_said s) (e ∙ ap (λ l. strip_carriage_return (line_ended l w)) same) ∙ sym (take_kept s w)
whole_line s (b ∷ u) v w x none same e = absurd (omega arith)

-- a line of which some was read before
pub joined_line : (s : State) (u v w x : List ℕ) → 0 < length u → v ≡ kept_line (u ++ w) → x ≡ strip_carriage_return (line_ended v w)
    → take_said s x ≡ take_said s (strip_carriage_return (kept_line (u ++ w)))
joined_line s u v w x some joined e =
    let size : 0 < length v = omega (arith, ap length joined, length-kept (u ++ w), length-append u w) in
    ap (take_said s) (e ∙ ap strip_carriage_return (ended_kept v w size ∙ joined))

pub kept_empty : (u : List ℕ) → length u ≡ 0 → kept_line u ≡ u
kept_empty u h = kept_short u (omega arith)

-- ---- the whole

-- the lines with the one that ends with the text
abbrev pub closed : Progress → State → State
closed (Lines s line) d = with_last s line
closed TooLong d = d
closed OutOfMemory d = d

last_some : (s : State) (l : List ℕ) → 0 < length l → with_last s l ≡ take_said s (strip_carriage_return l)
last_some s [] h = absurd (omega arith)
last_some s (b ∷ l) h = refl

closed_end : (s : State) (line : List ℕ) → IsUnended line → with_last s (kept_line line) ≡ fold take_said s (lines_of line)
closed_end s [] h = ap (with_last s) kept_nothing
closed_end s (b ∷ line) h =
    last_some s (kept_line (b ∷ line)) (omega (arith, length-kept (b ∷ line)))
    ∙ take_kept s (b ∷ line)
    ∙ sym (ap (fold take_said s) (lines_of-last (b ∷ line) h (omega arith)))

unended_more : (line : List ℕ) (b : ℕ) → IsUnended line → is_feed b ≡ false → IsUnended (line ++ b ∷ [])
unended_more line b h k = list_all-append (λ c. not (is_feed c)) line (b ∷ []) ∙ ap (λ t. t && (not (is_feed b) && true)) h ∙ ap (λ t. not t && true) k

feed_is : (b : ℕ) → is_feed b ≡ true → b ≡ 10
feed_is b h = grind (arith, nat_tests)

-- the rest of the text after these lines and a line in the making
abbrev ClosesAs : State → List ℕ → List ℕ → State → Type 0
ClosesAs s line bytes d = closed (fold take_byte (Lines s (kept_line line)) bytes) d ≡ fold take_said s (lines_of (line ++ bytes))

closed_by : (s : State) (line : List ℕ) (b : ℕ) (bytes : List ℕ) (d : State) (t : Bool) → IsUnended line → is_feed b ≡ t
    → ((r : State) (l : List ℕ) → IsUnended l → ClosesAs r l bytes d)
    → closed (fold take_byte (with_byte s (kept_line line) b t) bytes) d ≡ fold take_said s (lines_of (line ++ b ∷ bytes))
closed_by s line b bytes d true h k rest =
    ap (λ l. closed (fold take_byte (Lines (take_said s (strip_carriage_return (kept_line line))) l) bytes) d) (sym kept_nothing)
    ∙ rest (take_said s (strip_carriage_return (kept_line line))) [] refl
    ∙ ap (λ r. fold take_said r (lines_of bytes)) (take_kept s line)
    ∙ sym (ap (fold take_said s) (lines_of-first line bytes h))
    ∙ ap (λ c. fold take_said s (lines_of (line ++ c ∷ bytes))) (sym (feed_is b k))
closed_by s line b bytes d false h k rest =
    ap (λ l. closed (fold take_byte (Lines s l) bytes) d) (kept-append line (b ∷ []))
    ∙ rest s (line ++ b ∷ []) (unended_more line b h k)
    ∙ ap (λ l. fold take_said s (lines_of l)) (append_assoc line (b ∷ []) bytes)

closed_fold : (s : State) (line bytes : List ℕ) (d : State) → IsUnended line → ClosesAs s line bytes d
closed_fold s line [] d h = closed_end s line h ∙ ap (λ l. fold take_said s (lines_of l)) (sym (append-nil line))
closed_fold s line (b ∷ bytes) d h = closed_by s line b bytes d (is_feed b) h refl (λ r l k. closed_fold r l bytes d k)

-- the lines of a text that is read byte by byte
pub closed_text : (s d : State) (bytes : List ℕ) → closed (fold take_byte (Lines s []) bytes) d ≡ fold take_said s (lines_of bytes)
closed_text s d bytes = ap (λ l. closed (fold take_byte (Lines s l) bytes) d) (sym kept_nothing) ∙ closed_fold s [] bytes d refl
