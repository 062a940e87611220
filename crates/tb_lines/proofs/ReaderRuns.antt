-- The reader that goes line by line returns what the grammar says.
use Rattle.std.proofs.Common.{◌≡◌, ℕ, ◌+◌, Bool, true, false, List, [], ◌∷◌, ◌++◌, Option, Some, None, Err, Ok, if◌then◌else◌, refl, ap, ◌∙◌, sym, append_assoc, length-append, append-nil}
use Rattle.std.specs.List.{fold}
use Rattle.std.proofs.lemmas.List.Sums.{fold-append}
use Rattle.tb_text.specs.Lines.{fields_of, is_skipped}
use Rattle.tb_galley.specs.declared.Cause.{Cause}
use Rattle.tb_galley.specs.declared.Fault.{Fault}
use Rattle.tb_galley.specs.Grammar.{field_at}
use Rattle.tb_galley.specs.GalleyReader.{first_cause}
use Rattle.tb_galley.proofs.FirstFaults.{first_among, or_first, least_first}
use Rattle.tb_lines.specs.declared.text.Item.{Item}
use Rattle.tb_lines.specs.declared.text.Paragraph.{Paragraph}
use Rattle.tb_lines.specs.Words.{LineWord, header, setting, par, word, space, pen, endpar, end, Line, line_at, content_at, at_start, next_phase, phase_after, count_with, count_after, inside_with, one_more}
use Rattle.tb_lines.specs.Fields.{Parameter, parameter_of}
use Rattle.tb_lines.specs.Faults.{line_causes, end_causes, causes_from}
use Rattle.tb_lines.specs.Grammar.{Draft, set_content, content_of, with_item, with_closed, with_content, with_word, with_line, empty_draft, inside_in, content_from, text_of, text_unless, spelled_text}
use Rattle.tb_lines.specs.Reader.{State, past_content, take_unless, take_line, start, end_with, verdict}
use Rattle.tb_lines.proofs.CauseOrder.{all_led}

-- ---- the reader's state after some lines, the content lines among which are shown

abbrev state_after : ℕ → List Line → State
state_after n before = record { lines = n; phase = phase_after before; count = count_after before; draft = fold with_line empty_draft before; first = None }

past_more : (n : ℕ) (before : List Line) (l : Line) → past_content (state_after n before) (l ∷ []) ≡ state_after (n + 1) (before ++ l ∷ [])
past_more n before l i = record {
  lines = n + 1;
  phase = sym (fold-append (λ p (m : Line). next_phase p m.word) at_start before (l ∷ [])) i;
  count = sym (fold-append (λ k (m : Line). count_with k m.word) 0 before (l ∷ [])) i;
  draft = sym (fold-append with_line empty_draft before (l ∷ [])) i;
  first = None;
}

past : (n : ℕ) (before : List Line) (t : Bool) (l : Line)
    → past_content (state_after n before) (if t then [] else l ∷ []) ≡ state_after (n + 1) (before ++ (if t then [] else l ∷ []))
past n before true l = ap (λ ls. state_after (n + 1) ls) (sym (append-nil before))
past n before false l = past_more n before l

-- ---- the items of the open paragraph are those that the lines say

item_inside : (d : Draft) (i : Item) (o : Option Paragraph) → d.current ≡ o → inside_in (with_item d i o).current ≡ one_more (inside_in o)
item_inside d i None e = ap inside_in e
item_inside d i (Some p) e = ap Some (length-append p.items (i ∷ []))

closed_inside : (d : Draft) (o : Option Paragraph) → d.current ≡ o → inside_in (with_closed d o).current ≡ None
closed_inside d None e = ap inside_in e
closed_inside d (Some p) e = refl

set_inside : (d : Draft) (fs : List (List ℕ)) (o : Option Parameter) → inside_in (with_content d (set_content fs o)).current ≡ inside_in d.current
set_inside d fs None = refl
set_inside d fs (Some p) = refl

word_inside : (d : Draft) (fs : List (List ℕ)) (w : LineWord) → inside_in (with_content d (content_of fs w)).current ≡ inside_with (inside_in d.current) (Some w)
word_inside d fs header = refl
word_inside d fs setting = set_inside d fs (parameter_of (field_at fs 0))
word_inside d fs par = refl
word_inside d fs word = item_inside d _ d.current refl
word_inside d fs space = item_inside d _ d.current refl
word_inside d fs pen = item_inside d _ d.current refl
word_inside d fs endpar = closed_inside d d.current refl
word_inside d fs end = refl

line_inside : (d : Draft) (l : Line) (w : Option LineWord) → inside_in (with_word d l w).current ≡ inside_with (inside_in d.current) w
line_inside d l None = refl
line_inside d l (Some w) = word_inside d l.fields w

draft_inside : (d : Draft) (ls : List Line) → inside_in (fold with_line d ls).current ≡ fold (λ n (l : Line). inside_with n l.word) (inside_in d.current) ls
draft_inside d [] = refl
draft_inside d (l ∷ ls) = draft_inside (with_line d l) ls ∙ ap (λ n. fold (λ k (m : Line). inside_with k m.word) n ls) (line_inside d l l.word)

-- ---- the whole

held : (s : State) (f : Fault) (lines : List (List ℕ)) → verdict (fold take_line (record s { first = Some f }) lines) ≡ Err f
held s f [] = refl
held s f (bytes ∷ lines) = held s f lines

at_end : (n : ℕ) (before : List Line) (cs : List Cause)
    → end_with (state_after n before) cs ≡ text_unless (fold with_line empty_draft (before ++ [])) (or_first (first_cause (n + 1) 0 (cs ∷ [])) None)
at_end n before [] = ap (λ ls. Ok (text_of (fold with_line empty_draft ls))) (sym (append-nil before))
at_end n before (c ∷ cs) = refl

-- the reader has these lines before it, of which the next is line n + 1
abbrev RunsTo : ℕ → List Line → List (List ℕ) → Type 0
RunsTo n before lines =
    verdict (fold take_line (state_after n before) lines)
    ≡ text_unless (fold with_line empty_draft (before ++ content_from lines)) (first_among (n + 1) (causes_from before lines))

run_by : (n : ℕ) (before : List Line) (bytes : List ℕ) (lines : List (List ℕ)) → RunsTo (n + 1) (before ++ content_at bytes) lines → (o : Option Fault)
    → verdict (fold take_line (take_unless (state_after n before) bytes o) lines)
    ≡ text_unless (fold with_line empty_draft (before ++ (content_at bytes ++ content_from lines))) (or_first o (first_among (n + 1 + 1) (causes_from (before ++ content_at bytes) lines)))
run_by n before bytes lines later (Some f) = held (state_after n before) f lines
run_by n before bytes lines later None =
    ap (λ s. verdict (fold take_line s lines)) (past n before (is_skipped (fields_of bytes)) (line_at (fields_of bytes)))
    ∙ later
    ∙ ap (λ ls. text_unless (fold with_line empty_draft ls) (first_among (n + 1 + 1) (causes_from (before ++ content_at bytes) lines))) (append_assoc before (content_at bytes) (content_from lines))

run : (n : ℕ) (before : List Line) (lines : List (List ℕ)) → RunsTo n before lines
run n before [] = at_end n before (end_causes (phase_after before))
run n before (bytes ∷ lines) =
    run_by n before bytes lines (run (n + 1) (before ++ content_at bytes) lines) (first_cause (n + 1) 0 (line_causes (phase_after before) (count_after before) (inside_in (fold with_line empty_draft before).current) bytes))
    ∙ ap (λ i. text_unless (fold with_line empty_draft (before ++ (content_at bytes ++ content_from lines))) (or_first (first_cause (n + 1) 0 (line_causes (phase_after before) (count_after before) i bytes)) (first_among (n + 1 + 1) (causes_from (before ++ content_at bytes) lines))))
    (draft_inside empty_draft before)

-- what the reader returns is the text, or the least of all faults
pub reader_exact : (lines : List (List ℕ)) → verdict (fold take_line start lines) ≡ spelled_text lines
reader_exact lines = run 0 [] lines ∙ ap (λ o. text_unless (fold with_line empty_draft (content_from lines)) o) (sym (least_first 1 (causes_from [] lines) (all_led [] lines)))
