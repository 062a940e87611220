-- The reader that goes line by line returns what the grammar says.
use Rattle.std.proofs.Common.{◌≡◌, ℕ, ◌+◌, Bool, true, false, ◌||◌, List, [], ◌∷◌, ◌++◌, map, nat_abs, nat_lt, ◌==◌, ℤ, pos, Option, Some, None, Result, Ok, Err, if◌then◌else◌, refl, ap, ◌∙◌, sym, append_assoc}
use Rattle.std.specs.List.{fold, list_any}
use Rattle.std.proofs.lemmas.List.Sums.{fold-append}
use Rattle.std.proofs.Math.Bool.{or-false}
use Rattle.tb_text.specs.declared.TextFault.{TextFault}
use Rattle.tb_text.specs.Numbers.{integer_of}
use Rattle.tb_param.specs.Table.{Row, row_of}
use Rattle.tb_param.specs.declared.fields.Field.{Field}
use Rattle.tb_param.specs.declared.Value.{Value}
use Rattle.tb_galley.specs.declared.Item.{Item}
use Rattle.tb_galley.specs.declared.classes.ClassLine.{ClassLine}
use Rattle.tb_galley.specs.declared.LeafKind.{LeafKind}
use Rattle.tb_galley.specs.declared.LeafKind.TheVariants as leaves
use Rattle.tb_galley.specs.declared.Cause.{Cause}
use Rattle.tb_galley.specs.declared.Fault.{Fault}
use Rattle.tb_galley.specs.Words.{LineWord, header, setting, class_line, hbox, rule, skip, kern, penalty, endfoot, known_with, with_number, number_or, number_in, first_field, Line, line_at, at_start, phase_after, phase_among, item_count, count_with, content_at, is_end_line, foot_open, foot_open_from, open_after, Behind, behind_nothing, behind_clear, behind_two, behind_other, behind_line, behind_lines, is_end_word, word_passes}
use Rattle.tb_text.specs.Lines.{fields_of, is_skipped}
use Rattle.tb_galley.specs.Faults.{line_causes, end_causes, causes_from}
use Rattle.tb_galley.specs.Grammar.{Draft, OpenFoot, dimension_at, glue_at, with_class, read_or, integer_at, field_at, class_at, content_of, value_by, set_content, with_plain, with_foot, with_set, with_content, with_word, with_line, empty_draft, galley_of, content_from, galley_unless, spelled}
use Rattle.tb_galley.specs.GalleyReader.{State, first_cause, next_phase, past_content, take_unless, take_line, start, end_by, verdict, known_in}
use Rattle.tb_galley.proofs.FirstFaults.{first_among, or_first, least_first}
use Rattle.tb_galley.proofs.CauseOrder.{all_led}

-- ---- one more content line

any_more : (a b c d : Bool) → d ≡ (b || c) → (a || d) ≡ ((a || b) || c)
any_more true b c d h = refl
any_more false b c d h = h

any_append : (p : Line → Bool) (ls : List Line) (l : Line) → list_any p (ls ++ l ∷ []) ≡ (list_any p ls || p l)
any_append p [] l = or-false (p l)
any_append p (m ∷ ls) l = any_more (p m) (list_any p ls) (p l) (list_any p (ls ++ l ∷ [])) (any_append p ls l)

open_append : (was : Bool) (ls : List Line) (l : Line) → foot_open_from was (ls ++ l ∷ []) ≡ open_after (foot_open_from was ls) l.word
open_append was [] l = refl
open_append was (m ∷ ls) l = open_append (open_after was m.word) ls l

behind_append : (b : Behind) (ls : List Line) (l : Line) → behind_lines b (ls ++ l ∷ []) ≡ behind_line (behind_lines b ls) l.word
behind_append b [] l = refl
behind_append b (m ∷ ls) l = behind_append (behind_line b m.word) ls l

pub phase_step : (e o : Bool) (b : Behind) (w : Option LineWord)
    → phase_among (e || word_passes is_end_word w) (open_after o w) (behind_line b w) ≡ next_phase (phase_among e o b) w
phase_step true o b None = refl
phase_step true o b (Some header) = refl
phase_step true o b (Some _) = refl
phase_step false true b None = refl
phase_step false true b (Some header) = refl
phase_step false true b (Some _) = refl
phase_step false false behind_nothing None = refl
phase_step false false behind_nothing (Some header) = refl
phase_step false false behind_nothing (Some _) = refl
phase_step false false behind_clear None = refl
phase_step false false behind_clear (Some header) = refl
phase_step false false behind_clear (Some _) = refl
phase_step false false behind_two None = refl
phase_step false false behind_two (Some header) = refl
phase_step false false behind_two (Some _) = refl
phase_step false false behind_other None = refl
phase_step false false behind_other (Some header) = refl
phase_step false false behind_other (Some _) = refl

phase_first : (w : Option LineWord) → phase_among (word_passes is_end_word w) (open_after false w) (behind_line behind_nothing w) ≡ next_phase at_start w
phase_first None = refl
phase_first (Some header) = refl
phase_first (Some _) = refl

phase_more : (ls : List Line) (l : Line) → phase_after (ls ++ l ∷ []) ≡ next_phase (phase_after ls) l.word
phase_more [] l = ap (λ t. phase_among t (open_after false l.word) (behind_line behind_nothing l.word)) (or-false (is_end_line l)) ∙ phase_first l.word
phase_more (m ∷ ls) l =
    (λ i. phase_among (any_append is_end_line (m ∷ ls) l i) (open_append false (m ∷ ls) l i) (behind_append behind_nothing (m ∷ ls) l i))
    ∙ phase_step (list_any is_end_line (m ∷ ls)) (foot_open (m ∷ ls)) (behind_lines behind_nothing (m ∷ ls)) l.word

count_more : (ls : List Line) (l : Line) → item_count (ls ++ l ∷ []) ≡ count_with (item_count ls) l.word
count_more ls l = fold-append (λ n (m : Line). count_with n m.word) 0 ls (l ∷ [])

-- ---- the reader's state after some lines, the content lines among which are shown

abbrev state_after : ℕ → List Line → State
state_after n before = record { lines = n; phase = phase_after before; count = item_count before; draft = fold with_line empty_draft before; first = None }

past_more : (n : ℕ) (before : List Line) (l : Line) → past_content (state_after n before) (l ∷ []) ≡ state_after (n + 1) (before ++ l ∷ [])
past_more n before l i = record {
  lines = n + 1;
  phase = sym (phase_more before l) i;
  count = sym (count_more before l) i;
  draft = sym (fold-append with_line empty_draft before (l ∷ [])) i;
  first = None;
}

nothing_more : (before : List Line) → before ++ [] ≡ before
nothing_more [] = refl
nothing_more (l ∷ ls) = ap (λ ms. l ∷ ms) (nothing_more ls)

-- ---- the whole

past : (n : ℕ) (before : List Line) (t : Bool) (l : Line)
    → past_content (state_after n before) (if t then [] else l ∷ []) ≡ state_after (n + 1) (before ++ (if t then [] else l ∷ []))
past n before true l = ap (λ ls. state_after (n + 1) ls) (sym (nothing_more before))
past n before false l = past_more n before l

held : (s : State) (f : Fault) (lines : List (List ℕ)) → verdict (fold take_line (record s { first = Some f }) lines) ≡ Err f
held s f [] = refl
held s f (bytes ∷ lines) = held s f lines

at_end : (n : ℕ) (before : List Line) (cs : List Cause)
    → end_by (state_after n before) cs ≡ galley_unless (fold with_line empty_draft (before ++ [])) (or_first (first_cause (n + 1) 0 (cs ∷ [])) None)
at_end n before [] = ap (λ ls. Ok (galley_of (fold with_line empty_draft ls))) (sym (nothing_more before))
at_end n before (c ∷ cs) = refl

-- the reader has these lines before it, of which the next is line n
abbrev RunsTo : ℕ → List Line → List (List ℕ) → Type 0
RunsTo n before lines =
    verdict (fold take_line (state_after n before) lines)
    ≡ galley_unless (fold with_line empty_draft (before ++ content_from (n + 1) lines)) (first_among (n + 1) (causes_from (n + 1) before lines))

run_by : (n : ℕ) (before : List Line) (bytes : List ℕ) (lines : List (List ℕ)) → RunsTo (n + 1) (before ++ content_at (n + 1) bytes) lines → (o : Option Fault)
    → verdict (fold take_line (take_unless (state_after n before) bytes o) lines)
    ≡ galley_unless (fold with_line empty_draft (before ++ (content_at (n + 1) bytes ++ content_from (n + 1 + 1) lines)))
    (or_first o (first_among (n + 1 + 1) (causes_from (n + 1 + 1) (before ++ content_at (n + 1) bytes) lines)))
run_by n before bytes lines later (Some f) = held (state_after n before) f lines
run_by n before bytes lines later None =
    ap (λ s. verdict (fold take_line s lines)) (past n before (is_skipped (fields_of bytes)) (line_at (n + 1) (fields_of bytes)))
    ∙ later
    ∙ ap (λ ls. galley_unless (fold with_line empty_draft ls) (first_among (n + 1 + 1) (causes_from (n + 1 + 1) (before ++ content_at (n + 1) bytes) lines)))
    (append_assoc before (content_at (n + 1) bytes) (content_from (n + 1 + 1) lines))

-- ---- what the draft knows is what the lines say

map-with : (c : ClassLine) (cs : List ClassLine) → map (λ (x : ClassLine). x.number) (with_class c cs) ≡ with_number c.number (map (λ (x : ClassLine). x.number) cs)
map-with c [] = refl
map-with c (d ∷ ds) = by_number (c.number == d.number) (nat_lt c.number d.number) (map-with c ds)
  where
    by_number : (t u : Bool) → map (λ (x : ClassLine). x.number) (with_class c ds) ≡ with_number c.number (map (λ (x : ClassLine). x.number) ds)
        → map (λ (x : ClassLine). x.number) (if t then c ∷ ds else (if u then c ∷ d ∷ ds else d ∷ with_class c ds))
        ≡ (if t then c.number ∷ map (λ (x : ClassLine). x.number) ds else (if u then c.number ∷ d.number ∷ map (λ (x : ClassLine). x.number) ds else d.number ∷ with_number c.number (map (λ (x : ClassLine). x.number) ds)))
    by_number true u h = refl
    by_number false true h = refl
    by_number false false h = ap (λ ns. d.number ∷ ns) h

number-read : (r : Result ℤ TextFault) → nat_abs (read_or (pos 0) r) ≡ number_or r
number-read (Ok v) = refl
number-read (Err e) = refl

class-number : (fs : List (List ℕ)) → nat_abs (integer_at fs 0) ≡ number_in (first_field fs)
class-number [] = number-read (integer_of [])
class-number (f ∷ fs) = number-read (integer_of f)

plain-known : (d : Draft) (n : ℕ) (k : LeafKind) (o : Option OpenFoot) → known_in (with_plain d n k o) ≡ known_in d
plain-known d n k None = refl
plain-known d n k (Some o) = refl

foot-known : (d : Draft) (o : Option OpenFoot) → known_in (with_foot d o) ≡ known_in d
foot-known d None = refl
foot-known d (Some o) = refl

added-known : (d : Draft) (n : ℕ) (field : Field) (value : Value) (is : List Item) → known_in (with_set d n field value is) ≡ known_in d
added-known d n field value [] = refl
added-known d n field value (i ∷ is) = refl

set-known : (d : Draft) (n : ℕ) (fs : List (List ℕ)) (r : Option Row) → known_in (with_content d n (set_content fs r)) ≡ known_in d
set-known d n fs None = refl
set-known d n fs (Some r) = added-known d n r.field (value_by fs r.form) d.items

word-known : (d : Draft) (n : ℕ) (fs : List (List ℕ)) (w : LineWord) → known_in (with_content d n (content_of d.version n fs w)) ≡ known_with (known_in d) (Some w) fs
word-known d n fs header = refl
word-known d n fs setting = set-known d n fs (row_of (field_at fs 0))
word-known d n fs class_line = λ i. record { version = d.version; classes = (map-with (class_at n fs) d.classes ∙ ap (λ k. with_number k (map (λ (x : ClassLine). x.number) d.classes)) (class-number fs)) i }
word-known d n fs hbox = plain-known d n (leaves.Hbox (field_at fs 0) (dimension_at fs 1) (dimension_at fs 2)) d.foot
word-known d n fs rule = plain-known d n (leaves.Rule (field_at fs 0) (dimension_at fs 1) (dimension_at fs 2)) d.foot
word-known d n fs skip = plain-known d n (leaves.Skip (glue_at fs 0)) d.foot
word-known d n fs kern = plain-known d n (leaves.Kern (dimension_at fs 0)) d.foot
word-known d n fs penalty = plain-known d n (leaves.Penalty (integer_at fs 0)) d.foot
word-known d n fs endfoot = foot-known d d.foot
word-known d n fs _ = refl

line-known : (d : Draft) (l : Line) (w : Option LineWord) → known_in (with_word d l w) ≡ known_with (known_in d) w l.fields
line-known d l None = refl
line-known d l (Some w) = word-known d l.number l.fields w

draft-known : (d : Draft) (ls : List Line) → known_in (fold with_line d ls) ≡ fold (λ k (l : Line). known_with k l.word l.fields) (known_in d) ls
draft-known d [] = refl
draft-known d (l ∷ ls) = draft-known (with_line d l) ls ∙ ap (λ k. fold (λ j (m : Line). known_with j m.word m.fields) k ls) (line-known d l l.word)

run : (n : ℕ) (before : List Line) (lines : List (List ℕ)) → RunsTo n before lines
run n before [] = at_end n before (end_causes (phase_after before))
run n before (bytes ∷ lines) =
    let k = known_in (fold with_line empty_draft before) in
    run_by n before bytes lines (run (n + 1) (before ++ content_at (n + 1) bytes) lines) (first_cause (n + 1) 0 (line_causes (phase_after before) k (item_count before) (n + 1) bytes))
    ∙ ap (λ j. galley_unless (fold with_line empty_draft (before ++ (content_at (n + 1) bytes ++ content_from (n + 1 + 1) lines))) (or_first (first_cause (n + 1) 0 (line_causes (phase_after before) j (item_count before) (n + 1) bytes)) (first_among (n + 1 + 1) (causes_from (n + 1 + 1) (before ++ content_at (n + 1) bytes) lines))))
    (draft-known empty_draft before)

-- what the reader returns is the galley, or the least of all faults
pub reader_exact : (lines : List (List ℕ)) → verdict (fold take_line start lines) ≡ spelled lines
reader_exact lines =
    run 0 [] lines ∙ ap (λ o. galley_unless (fold with_line empty_draft (content_from 1 lines)) o) (sym (least_first 1 (causes_from 1 [] lines) (all_led 1 [] lines)))
