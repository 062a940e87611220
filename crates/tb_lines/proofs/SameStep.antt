-- The reader that reads from the left takes the steps of the one that looks at all causes of a line.
use Rattle.std.proofs.Common.{◌≡◌, ℕ, ◌+◌, Bool, true, false, not, ◌||◌, ◌&&◌, nat_lt, nat_le, List, [], ◌∷◌, ◌++◌, length, Option, Some, None, Result, Ok, if◌then◌else◌, refl, ap, ◌∙◌, sym}
use Rattle.std.specs.List.{list_all, fold}
use Rattle.tb_text.specs.Lines.{fields_of, is_skipped}
use Rattle.tb_galley.specs.declared.Cause.{Cause}
use Rattle.tb_galley.specs.declared.Cause.TheVariants as causes
use Rattle.tb_galley.specs.declared.Fault.{Fault}
use Rattle.tb_galley.specs.declared.fields.At.{At}
use Rattle.tb_galley.specs.Words.{first_field, other_fields}
use Rattle.tb_galley.specs.Faults.{is_printable, cause_if, value_causes}
use Rattle.tb_galley.specs.Line.{first_of}
use Rattle.tb_galley.specs.GalleyReader.{first_cause}
use Rattle.tb_galley.specs.FieldReader.{at_fault, settled, ◌>>=◌}
use Rattle.tb_galley.proofs.FieldReads.{first_at, settle}
use Rattle.tb_galley.proofs.SameStep.{on_line, first_on_line}
use Rattle.tb_lines.specs.Words.{LineWord, Line, content_at, Phase, at_start, among_sets, among_pars, after_clear, after_two, in_par, ended, counts_word, is_inner_word, is_full, word_of}
use Rattle.tb_lines.specs.Fields.{word_slots, missing_cause}
use Rattle.tb_lines.specs.Faults.{place_causes, item_causes, later_causes, all_content_causes, line_causes}
use Rattle.tb_lines.specs.Grammar.{content_of, inside_in, spelled_text}
use Rattle.tb_lines.specs.Line.{Said, said, worded_left, content_line, content_lines, line_left}
use Rattle.tb_lines.specs.Reader.{State, past_content, take_unless, take_by, take_line, start, said_unless, said_first, take_said, verdict}
use Rattle.tb_lines.proofs.FieldReads.{reads}
use Rattle.tb_lines.proofs.ReaderRuns.{reader_exact}

abbrev take_with : State → List Line → Option Fault → State
take_with s ls (Some f) = record s { first = Some f }
take_with s ls None = past_content s ls

-- what the reading of a line does, against its causes
abbrev Same : State → List Line → Result (Option Said) At → Option At → Type 0
Same s ls read o = said_unless s read ≡ take_with s ls (on_line (s.lines + 1) o)

abbrev lined : Option LineWord → List ℕ → List (List ℕ) → Line
lined w head fs = record { word = w; head = head; fields = fs }

settled_said : (s : State) (v : LineWord) (head : List ℕ) (fs : List (List ℕ)) (o : Option At) → Same s (lined (Some v) head fs ∷ []) (said v (settle o (content_of fs v))) o
settled_said s v head fs None = refl
settled_said s v head fs (Some e) = refl

word_said : (s : State) (v : LineWord) (head : List ℕ) (fs : List (List ℕ))
    → Same s (lined (Some v) head fs ∷ []) (worded_left (lined (Some v) head fs) (Some v)) (first_at 2 (later_causes (Some v) fs))
word_said s v head fs =
    ap (λ r. said_unless s (said v r)) (reads fs v) ∙ settled_said s v head fs (first_at 2 (value_causes (missing_cause v) (word_slots fs v) fs))

item_said : (s : State) (v : LineWord) (head : List ℕ) (fs : List (List ℕ)) (t : Bool)
    → Same s (lined (Some v) head fs ∷ []) (settled 1 (first_of (cause_if t causes.Items)) (tt {0}) >>= λ x. worded_left (lined (Some v) head fs) (Some v))
    (first_at 1 (cause_if t causes.Items ∷ later_causes (Some v) fs))
item_said s v head fs true = refl
item_said s v head fs false = word_said s v head fs

place_said : (s : State) (i : Option ℕ) (v : LineWord) (head : List ℕ) (fs : List (List ℕ)) (xs : List Cause)
    → Same s (lined (Some v) head fs ∷ []) (settled 1 (first_of xs) (tt {0}) >>= λ x. settled 1 (first_of (item_causes s.count i (Some v))) (tt {0}) >>= λ y. worded_left (lined (Some v) head fs) (Some v))
    (first_at 1 ((xs ++ item_causes s.count i (Some v)) ∷ later_causes (Some v) fs))
place_said s i v head fs [] = item_said s v head fs ((counts_word v && nat_le 25000 s.count) || (is_inner_word v && is_full i))
place_said s i v head fs (c ∷ cs) = refl

-- no word may come there
no_word : (s : State) (i : Option ℕ) (head : List ℕ) (fs : List (List ℕ)) (p : Phase)
    → Same s (lined None head fs ∷ []) (settled 1 (first_of (place_causes p None)) (tt {0}) >>= λ x. settled 1 (first_of (item_causes s.count i None)) (tt {0}) >>= λ y. worded_left (lined None head fs) None)
    (first_at 1 ((place_causes p None ++ item_causes s.count i None) ∷ later_causes None fs))
no_word s i head fs at_start = refl
no_word s i head fs among_sets = refl
no_word s i head fs among_pars = refl
no_word s i head fs after_clear = refl
no_word s i head fs after_two = refl
no_word s i head fs in_par = refl
no_word s i head fs ended = refl

head_said : (s : State) (i : Option ℕ) (w : Option LineWord) (head : List ℕ) (fs : List (List ℕ)) (p : Bool)
    → Same s (lined w head fs ∷ [])
    ((if p then Ok (tt {0}) else at_fault 1 causes.NotAscii) >>= λ a. settled 1 (first_of (place_causes s.phase w)) (tt {0}) >>= λ x. settled 1 (first_of (item_causes s.count i w)) (tt {0}) >>= λ y. worded_left (lined w head fs) w)
    (first_at 1 (((cause_if (not p) causes.NotAscii ++ place_causes s.phase w) ++ item_causes s.count i w) ∷ later_causes w fs))
head_said s i w head fs false = refl
head_said s i None head fs true = no_word s i head fs s.phase
head_said s i (Some v) head fs true = place_said s i v head fs (place_causes s.phase (Some v))

lines_said : (s : State) (i : Option ℕ) (t : Bool) (w : Option LineWord) (head : List ℕ) (fs : List (List ℕ))
    → Same s (if t then [] else lined w head fs ∷ []) (content_lines s.phase s.count i (if t then [] else lined w head fs ∷ [])) (first_at 1 (all_content_causes s.phase s.count i (if t then [] else lined w head fs ∷ [])))
unfolding content_line
lines_said s i true w head fs = refl
lines_said s i false w head fs = head_said s i w head fs (list_all is_printable head)

long_said : (s : State) (i : Option ℕ) (t : Bool) (ls : List Line) → Same s ls (content_lines s.phase s.count i ls) (first_at 1 (all_content_causes s.phase s.count i ls))
    → Same s ls (if t then at_fault 0 causes.LineLength else content_lines s.phase s.count i ls) (first_at 0 (cause_if t causes.LineLength ∷ all_content_causes s.phase s.count i ls))
long_said s i true ls h = refl
long_said s i false ls h = h

as_taken : (s : State) (bytes : List ℕ) (o : Option At) → take_with s (content_at bytes) (on_line (s.lines + 1) o) ≡ take_unless s bytes (on_line (s.lines + 1) o)
as_taken s bytes None = refl
as_taken s bytes (Some e) = refl

step_none : (s : State) (bytes : List ℕ)
    → said_unless s (line_left s.phase s.count (inside_in s.draft.current) bytes) ≡ take_unless s bytes (first_cause (s.lines + 1) 0 (line_causes s.phase s.count (inside_in s.draft.current) bytes))
unfolding line_left
step_none s bytes =
    let i = inside_in s.draft.current in
    long_said s i (nat_lt 255 (length bytes)) (content_at bytes)
    (lines_said s i (is_skipped (fields_of bytes)) (word_of (first_field (fields_of bytes))) (first_field (fields_of bytes)) (other_fields (fields_of bytes)))
    ∙ as_taken s bytes (first_at 0 (line_causes s.phase s.count i bytes))
    ∙ ap (λ o. take_unless s bytes o) (sym (first_on_line (s.lines + 1) 0 (line_causes s.phase s.count i bytes)))

step_by : (s : State) (bytes : List ℕ) (o : Option Fault) → said_first s bytes o ≡ take_by s bytes o
step_by s bytes None = step_none s bytes
step_by s bytes (Some f) = refl

same_run : (s : State) (lines : List (List ℕ)) → fold take_said s lines ≡ fold take_line s lines
same_run s [] = refl
same_run s (bytes ∷ lines) = same_run (take_said s bytes) lines ∙ ap (λ r. fold take_line r lines) (step_by s bytes s.first)

-- what is read from the left is the text, or the least of all faults
pub left_exact : (lines : List (List ℕ)) → verdict (fold take_said start lines) ≡ spelled_text lines
left_exact lines = ap verdict (same_run start lines) ∙ reader_exact lines
