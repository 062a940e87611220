-- What a reader was fed decides what it returns.
use Rattle.std.proofs.Common.{◌≡◌, ℕ, ◌+◌, ◌≤◌, Bool, true, false, nat_lt, List, [], ◌∷◌, ◌++◌, length, Option, Some, None, Result, Ok, Err, IfOk, if◌then◌else◌, refl, ap, ◌∙◌, sym, subst, arith}
use Rattle.std.specs.List.{fold}
use Rattle.std.specs.Str.Lines.{strip_carriage_return}
use Rattle.std.proofs.lemmas.List.Sums.{fold-append, fold_push}
use Rattle.std.proofs.lemmas.Bool.Decides.{nat_tests}
use Rattle.tb_text.specs.Lines.{is_feed, lines_of}
use Rattle.tb_galley.specs.declared.Cause.TheVariants.{InputSize}
use Rattle.tb_galley.specs.declared.Fault.{Fault}
use Rattle.tb_galley.specs.declared.Galley.{Galley}
use Rattle.tb_galley.specs.declared.GalleyFault.{GalleyFault}
use Rattle.tb_galley.specs.declared.fields.At.{At}
use Rattle.tb_galley.specs.Words.{word_passes, counts_word}
use Rattle.tb_galley.specs.Line.{Said, line_left}
use Rattle.tb_galley.specs.Faults.{fault}
use Rattle.tb_galley.specs.Grammar.{grammar, spelled, input_limit}
use Rattle.tb_galley.specs.GalleyReader.{State, start, known_in, take_said, said_first, said_unless, verdict, Answers}
use Rattle.tb_galley.specs.Valid.{IsValid}
use Rattle.tb_galley.specs.declared.pieces.Progress.TheVariants.{Lines, TooLong, OutOfMemory}
use Rattle.tb_galley.specs.Pieces.{Progress, Reading, with_byte, take_byte, with_last, count_after, fed, Reaches, IsReached}
use Rattle.tb_galley.proofs.SameStep.{left_exact}
use Rattle.tb_galley.proofs.SoundReaders.{valid_galley}
use Rattle.tb_galley.proofs.ByBytes.{closed, closed_text}

-- ---- what is returned at the end

-- neither too long nor out of memory
abbrev HasLines : Progress → Type 0
HasLines (Lines s line) = Unit {0}
HasLines TooLong = ⊥
HasLines OutOfMemory = ⊥

has_lines_by : (s : State) (line : List ℕ) (b : ℕ) (t : Bool) → HasLines (with_byte s line b t)
has_lines_by s line b true = tt
has_lines_by s line b false = tt

has_lines_fold : (p : Progress) (bytes : List ℕ) → HasLines p → HasLines (fold take_byte p bytes)
has_lines_fold p [] h = h
has_lines_fold (Lines s line) (b ∷ bytes) h = has_lines_fold (with_byte s line b (is_feed b)) bytes (has_lines_by s line b (is_feed b))
has_lines_fold TooLong (b ∷ bytes) h = absurd h
has_lines_fold OutOfMemory (b ∷ bytes) h = absurd h

-- this is returned at the end
abbrev pub Ends : Progress → Result Galley Fault → Type 0
Ends (Lines s line) answer = verdict (with_last s line) ≡ answer
Ends TooLong answer = Err (fault 0 0 InputSize) ≡ answer
Ends OutOfMemory answer = ⊥

ends_as : (p : Progress) (answer : Result Galley Fault) (d : State) → HasLines p → verdict (closed p d) ≡ answer → Ends p answer
ends_as (Lines s line) answer d h e = e
ends_as TooLong answer d h e = absurd h
ends_as OutOfMemory answer d h e = absurd h

ends_by : (bytes : List ℕ) (t : Bool)
    → Ends (if t then TooLong else fold take_byte (Lines start []) bytes) (if t then Err (fault 0 0 InputSize) else spelled (lines_of bytes))
ends_by bytes true = refl
ends_by bytes false =
    ends_as (fold take_byte (Lines start []) bytes) (spelled (lines_of bytes)) start (has_lines_fold (Lines start []) bytes tt)
    (ap verdict (closed_text start start bytes) ∙ left_exact (lines_of bytes))

same_size : (n : ℕ) → nat_lt input_limit n ≡ nat_lt input_limit (count_after 0 n)
same_size n = grind (arith, nat_tests)

fed_ends : (bytes : List ℕ) → Ends (fed bytes).progress (grammar bytes)
unfolding grammar
fed_ends bytes =
    subst (λ t. Ends (if t then TooLong else fold take_byte (Lines start []) bytes) (grammar bytes)) (same_size (length bytes))
    (ends_by bytes (nat_lt input_limit (length bytes)))

-- a reader that was fed these bytes returns what they spell
pub ended : (bytes : List ℕ) (r : Reading) (p : Progress) → r ≡ fed bytes → r.progress ≡ p → Ends p (grammar bytes)
ended bytes r p e f = subst (λ q. Ends q (grammar bytes)) f (subst (λ s. Ends s.progress (grammar bytes)) (sym e) (fed_ends bytes))

-- ---- more pieces

same_sum : (n m : ℕ) → count_after (count_after 0 n) m ≡ count_after 0 (n + m)
same_sum n m = omega arith

progress_by : (bytes piece : List ℕ) (t u : Bool) → (t ≡ true → u ≡ true)
    → (if u then TooLong else fold take_byte (if t then TooLong else fold take_byte (Lines start []) bytes) piece)
    ≡ (if u then TooLong else fold take_byte (Lines start []) (bytes ++ piece))
progress_by bytes piece t true h = refl
progress_by bytes piece false false h = sym (fold-append take_byte (Lines start []) bytes piece)
progress_by bytes piece true false h = cc (h refl)

longer : (n m : ℕ) → nat_lt input_limit (count_after 0 n) ≡ true → nat_lt input_limit (count_after (count_after 0 n) m) ≡ true
longer n m h = grind (arith, nat_tests)

-- ---- what a reader keeps of this many bytes

-- one more line at most, and one more item
record Follows (s t : State) : Type 0 where
  lines : t.lines ≤ s.lines + 1
  count : t.count ≤ s.count + 1

count_by : (n : ℕ) (t : Bool) → (if t then n + 1 else n) ≤ n + 1
count_by n true = omega arith
count_by n false = omega arith

follows_said : (s : State) (r : Result (Option Said) At) → Follows s (said_unless s r)
follows_said s (Ok None) = record { lines = omega arith; count = omega arith }
follows_said s (Ok (Some w)) = record { lines = omega arith; count = count_by s.count (word_passes (counts_word s.count) (Some w.0)) }
follows_said s (Err e) = record { lines = omega arith; count = omega arith }

follows_first : (s : State) (bytes : List ℕ) (o : Option Fault) → Follows s (said_first s bytes o)
follows_first s bytes (Some f) = record { lines = omega arith; count = omega arith }
follows_first s bytes None = follows_said s (line_left s.phase (known_in s.draft) s.count (s.lines + 1) bytes)

reaches_line : (n : ℕ) (s : State) (bytes : List ℕ) → n + 1 ≤ 8388608 → Reaches n s → Reaches (n + 1) (take_said s bytes)
reaches_line n s bytes fits h =
    let f : Follows s (take_said s bytes) = follows_first s bytes s.first in
    record {
      size = fits;
      lines = omega (arith, f.lines, h.lines);
      count = omega (arith, f.count, h.count);
      read = (h.read.0 ++ bytes ∷ [], ap (λ r. take_said r bytes) h.read.1 ∙ sym (fold_push take_said start h.read.0 bytes));
    }

reaches_more : (n m : ℕ) (s : State) → n ≤ m → m ≤ 8388608 → Reaches n s → Reaches m s
reaches_more n m s le fits h = record { size = fits; lines = omega (arith, h.lines); count = omega (arith, h.count); read = h.read }

reached_by : (n : ℕ) (s : State) (line : List ℕ) (b : ℕ) (t : Bool) → n + 1 ≤ 8388608 → Reaches n s → IsReached (n + 1) (with_byte s line b t)
reached_by n s line b true fits h = reaches_line n s (strip_carriage_return line) fits h
reached_by n s line b false fits h = reaches_more n (n + 1) s (omega arith) fits h

reached_fold : (n m : ℕ) (p : Progress) (bytes : List ℕ) → m ≡ n + length bytes → m ≤ 8388608 → IsReached n p → IsReached m (fold take_byte p bytes)
reached_fold n m p [] e fits h = let same : n ≡ m = omega (arith, e) in subst (λ k. IsReached k p) same h
reached_fold n m (Lines s line) (b ∷ bytes) e fits h =
    reached_fold (n + 1) m (with_byte s line b (is_feed b)) bytes (omega (arith, e)) fits (reached_by n s line b (is_feed b) (omega (arith, e)) h)
reached_fold n m TooLong (b ∷ bytes) e fits h = reached_fold (n + 1) m TooLong bytes (omega (arith, e)) fits h
reached_fold n m OutOfMemory (b ∷ bytes) e fits h = reached_fold (n + 1) m OutOfMemory bytes (omega (arith, e)) fits h

-- one more piece of an input that is not too long
pub reached_more : (n m : ℕ) (p q : Progress) (piece : List ℕ) → m ≡ count_after n (length piece) → m ≤ 8388608 → IsReached n p → q ≡ fold take_byte p piece → IsReached m q
reached_more n m p q piece e fits h read =
    let sum : m ≡ n + length piece = omega arith in subst (IsReached m) (sym read) (reached_fold n m p piece sum fits h)

pub reached_too_long : (m : ℕ) (q : Progress) → q ≡ TooLong → IsReached m q
reached_too_long m q e = subst (IsReached m) (sym e) tt

-- ---- a galley that is given is valid

last_read : (s : State) (line : List ℕ) (ls : List (List ℕ)) → s ≡ fold take_said start ls → (ms : List (List ℕ)) × (with_last s line ≡ fold take_said start ms)
last_read s [] ls h = (ls, h)
last_read s (b ∷ line) ls h =
    let bytes = strip_carriage_return (b ∷ line) in
    (ls ++ bytes ∷ [], ap (λ r. take_said r bytes) h ∙ sym (fold_push take_said start ls bytes))

valid_as : (r : Result Galley GalleyFault) (s : State) (ls : List (List ℕ)) → s ≡ fold take_said start ls → Answers r (verdict s) → IfOk r IsValid
valid_as (Ok g) s ls read h = valid_galley ls s g read (sym h)
valid_as (Err e) s ls read h = tt

pub few_lines : (n : ℕ) (s : State) → Reaches n s → (s.lines ≤ 8388608) × (s.count ≤ 8388608)
few_lines n s h = (omega (arith, h.lines, h.size), omega (arith, h.count, h.size))

pub valid_end : (n : ℕ) (s : State) (line : List ℕ) (r : Result Galley GalleyFault) → Reaches n s → Answers r (verdict (with_last s line)) → IfOk r IsValid
valid_end n s line r h a = let last = last_read s line h.read.0 h.read.1 in valid_as r (with_last s line) last.0 last.1 a
