-- A text that is read has its values in their ranges.
use Rattle.std.proofs.Common.{◌≡◌, refl, sym, ◌∙◌, ap, subst, ℕ, ◌+◌, ◌<◌, ◌≤◌, Bool, true, false, nat_lt, List, [], ◌∷◌, ◌++◌, length, Option, Some, None, Result, Ok, Err, if◌then◌else◌, arith, length-append}
use Rattle.std.specs.Prelude.{MatchOption}
use Rattle.std.specs.List.{fold, AllByRecursion}
use Rattle.std.proofs.lemmas.Bool.Decides.{nat_tests}
use Rattle.tb_text.specs.Lines.{lines_of}
use Rattle.tb_galley.specs.declared.Cause.{Cause}
use Rattle.tb_galley.specs.declared.Cause.TheVariants.{InputSize}
use Rattle.tb_galley.specs.declared.Fault.{Fault}
use Rattle.tb_galley.specs.declared.fields.At.{At}
use Rattle.tb_galley.specs.Faults.{fault}
use Rattle.tb_lines.specs.declared.text.Item.{Item}
use Rattle.tb_lines.specs.declared.text.LineParams.{LineParams}
use Rattle.tb_lines.specs.declared.text.Paragraph.{Paragraph}
use Rattle.tb_lines.specs.declared.text.Text.{Text}
use Rattle.tb_lines.specs.declared.words.Parameter.TheVariants as parameters
use Rattle.tb_lines.specs.declared.contents.Content.TheVariants as contents
use Rattle.tb_lines.specs.Words.{LineWord, counts_word, count_with, is_full}
use Rattle.tb_lines.specs.Fields.{Parameter, form_of}
use Rattle.tb_lines.specs.Faults.{end_causes}
use Rattle.tb_lines.specs.Grammar.{Draft, Content, with_value, with_item, with_closed, with_content, inside_in, text_of, spelled_text, reading}
use Rattle.tb_lines.specs.Line.{Said, line_left}
use Rattle.tb_lines.specs.Reader.{State, start, end_with, verdict_by, verdict, said_unless, said_first, take_said}
use Rattle.tb_lines.specs.ValidText.{IsValidItem, IsValidParams, IsValidParagraph, text_weight, IsValidText}
use Rattle.tb_lines.proofs.ValidContents.{IsFormValue, IsValidSaid, line_ok}
use Rattle.tb_lines.proofs.SameStep.{left_exact}

-- the weight of the open paragraph
abbrev open_weight : Option Paragraph → ℕ
open_weight None = 0
open_weight (Some p) = length p.items + 1

-- a draft whose values are in their ranges, after this many lines that count
record IsValidDraft (d : Draft) (count : ℕ) : Type 0 where
  params : IsValidParams d.params
  closed : AllByRecursion IsValidParagraph d.paragraphs
  current : MatchOption d.current (Unit {0}) IsValidParagraph
  weight : text_weight d.paragraphs + open_weight d.current ≤ count
  few : count ≤ 25000

-- ---- one more line

value_valid : (ps : LineParams) (p : Parameter) (v : ℕ) → IsValidParams ps → IsFormValue (form_of p) v → IsValidParams (with_value ps p v)
value_valid ps parameters.Hsize v h f = record { hsize = f; tolerance = h.tolerance; line_penalty = h.line_penalty; club_penalty = h.club_penalty; widow_penalty = h.widow_penalty; baseline_skip = h.baseline_skip; line_skip = h.line_skip; par_skip = h.par_skip }
value_valid ps parameters.Tolerance v h f = record { hsize = h.hsize; tolerance = f; line_penalty = h.line_penalty; club_penalty = h.club_penalty; widow_penalty = h.widow_penalty; baseline_skip = h.baseline_skip; line_skip = h.line_skip; par_skip = h.par_skip }
value_valid ps parameters.LinePenalty v h f = record { hsize = h.hsize; tolerance = h.tolerance; line_penalty = f; club_penalty = h.club_penalty; widow_penalty = h.widow_penalty; baseline_skip = h.baseline_skip; line_skip = h.line_skip; par_skip = h.par_skip }
value_valid ps parameters.ClubPenalty v h f = record { hsize = h.hsize; tolerance = h.tolerance; line_penalty = h.line_penalty; club_penalty = f; widow_penalty = h.widow_penalty; baseline_skip = h.baseline_skip; line_skip = h.line_skip; par_skip = h.par_skip }
value_valid ps parameters.WidowPenalty v h f = record { hsize = h.hsize; tolerance = h.tolerance; line_penalty = h.line_penalty; club_penalty = h.club_penalty; widow_penalty = f; baseline_skip = h.baseline_skip; line_skip = h.line_skip; par_skip = h.par_skip }
value_valid ps parameters.BaselineSkip v h f = record { hsize = h.hsize; tolerance = h.tolerance; line_penalty = h.line_penalty; club_penalty = h.club_penalty; widow_penalty = h.widow_penalty; baseline_skip = f.1; line_skip = h.line_skip; par_skip = h.par_skip }
value_valid ps parameters.LineSkip v h f = record { hsize = h.hsize; tolerance = h.tolerance; line_penalty = h.line_penalty; club_penalty = h.club_penalty; widow_penalty = h.widow_penalty; baseline_skip = h.baseline_skip; line_skip = f.1; par_skip = h.par_skip }
value_valid ps parameters.ParSkip v h f = record { hsize = h.hsize; tolerance = h.tolerance; line_penalty = h.line_penalty; club_penalty = h.club_penalty; widow_penalty = h.widow_penalty; baseline_skip = h.baseline_skip; line_skip = h.line_skip; par_skip = f.1 }

items_more : (is : List Item) (i : Item) → AllByRecursion IsValidItem is → IsValidItem i → AllByRecursion IsValidItem (is ++ i ∷ [])
items_more [] i a h = (h, tt)
items_more (j ∷ is) i a h = (a.0, items_more is i a.1 h)

paragraphs_more : (pars : List Paragraph) (p : Paragraph) → AllByRecursion IsValidParagraph pars → IsValidParagraph p → AllByRecursion IsValidParagraph (pars ++ p ∷ [])
paragraphs_more [] p a h = (h, tt)
paragraphs_more (q ∷ pars) p a h = (a.0, paragraphs_more pars p a.1 h)

weight_more : (pars : List Paragraph) (p : Paragraph) → text_weight (pars ++ p ∷ []) ≡ text_weight pars + (length p.items + 1)
weight_more [] p = omega arith
weight_more (q ∷ pars) p = let e : text_weight (pars ++ p ∷ []) ≡ text_weight pars + (length p.items + 1) = weight_more pars p in omega arith

counted : (n : ℕ) (w : LineWord) → counts_word w ≡ true → count_with n (Some w) ≡ n + 1
counted n w h = ap (λ t. if t then n + 1 else n) h

no_fewer : (n : ℕ) (w : LineWord) → n ≤ count_with n (Some w)
no_fewer n w = by_test (counts_word w)
  where
    by_test : (t : Bool) → n ≤ (if t then n + 1 else n)
    by_test true = omega arith
    by_test false = omega arith

few_with : (n : ℕ) (w : LineWord) → n ≤ 25000 → (counts_word w ≡ true → n + 1 ≤ 25000) → count_with n (Some w) ≤ 25000
few_with n w h f = by_test (counts_word w) f
  where
    by_test : (t : Bool) → (t ≡ true → n + 1 ≤ 25000) → (if t then n + 1 else n) ≤ 25000
    by_test true f = f refl
    by_test false f = h

item_valid : (d : Draft) (i : Item) (m n : ℕ) (o : Option Paragraph) → d.current ≡ o → is_full (inside_in o) ≡ false → IsValidDraft d m → IsValidItem i → m + 1 ≡ n → n ≤ 25000 → IsValidDraft (with_item d i o) n
item_valid d i m n None e room h v one few =
    record { params = h.params; closed = h.closed; current = h.current; weight = let w = h.weight in omega arith; few = few }
item_valid d i m n (Some p) e room h v one few =
    let now : IsValidParagraph p = subst (λ o. MatchOption o (Unit {0}) IsValidParagraph) e h.current in
    let w : text_weight d.paragraphs + (length p.items + 1) ≤ m = subst (λ o. text_weight d.paragraphs + open_weight o ≤ m) e h.weight in
    let l : length (p.items ++ i ∷ []) ≡ length p.items + 1 = length-append p.items (i ∷ []) in
    let less : length p.items < 5000 = grind (arith, nat_tests) in
    record { params = h.params; closed = h.closed; current = record { name = now.name; few = omega arith; items = items_more p.items i now.items v }; weight = omega arith; few = few }

closed_valid : (d : Draft) (m n : ℕ) (o : Option Paragraph) → d.current ≡ o → IsValidDraft d m → m ≤ n → n ≤ 25000 → IsValidDraft (with_closed d o) n
closed_valid d m n None e h le few = record { params = h.params; closed = h.closed; current = h.current; weight = let w = h.weight in omega arith; few = few }
closed_valid d m n (Some p) e h le few =
    let now : IsValidParagraph p = subst (λ o. MatchOption o (Unit {0}) IsValidParagraph) e h.current in
    let w : text_weight d.paragraphs + (length p.items + 1) ≤ m = subst (λ o. text_weight d.paragraphs + open_weight o ≤ m) e h.weight in
    let s = weight_more d.paragraphs p in
    record { params = h.params; closed = paragraphs_more d.paragraphs p h.closed now; current = tt; weight = omega arith; few = few }

kept : (d : Draft) (m n : ℕ) → IsValidDraft d m → m ≤ n → n ≤ 25000 → IsValidDraft d n
kept d m n h le few = record { params = h.params; closed = h.closed; current = h.current; weight = let w = h.weight in omega arith; few = few }

content_valid : (d : Draft) (count : ℕ) (w : LineWord) (k : Content) → IsValidDraft d count → IsValidSaid count (inside_in d.current) (w, k) → IsValidDraft (with_content d k) (count_with count (Some w))
content_valid d count w contents.Header h s = kept d count (count_with count (Some w)) h (no_fewer count w) (few_with count w h.few s.few)
content_valid d count w (contents.Set p v) h s =
    let few = few_with count w h.few s.few in
    let le = no_fewer count w in
    record { params = value_valid d.params p v h.params s.content; closed = h.closed; current = h.current; weight = let x = h.weight in omega arith; few = few }
content_valid d count w (contents.Par name) h s =
    let few = few_with count w h.few s.few in
    let one = counted count w (s.counts refl) in
    record { params = h.params; closed = h.closed; current = record { name = s.content; few = omega arith; items = tt }; weight = let x = h.weight in omega arith; few = few }
content_valid d count w (contents.Item i) h s = item_valid d i count (count_with count (Some w)) d.current refl (s.room refl) h s.content (sym (counted count w (s.counts refl))) (few_with count w h.few s.few)
content_valid d count w contents.Endpar h s = closed_valid d count (count_with count (Some w)) d.current refl h (no_fewer count w) (few_with count w h.few s.few)
content_valid d count w contents.End h s = kept d count (count_with count (Some w)) h (no_fewer count w) (few_with count w h.few s.few)

-- ---- all lines

-- the reader so far, if there is no fault
abbrev IsValidState : State → Type 0
IsValidState s = s.first ≡ None → IsValidDraft s.draft s.count

said_valid : (s : State) (bytes : List ℕ) (r : Result (Option Said) At) → IsValidDraft s.draft s.count → line_left s.phase s.count (inside_in s.draft.current) bytes ≡ r → IsValidState (said_unless s r)
said_valid s bytes (Ok None) h e = λ none. h
said_valid s bytes (Ok (Some w)) h e = λ none. content_valid s.draft s.count w.0 w.1 h (line_ok s.phase s.count (inside_in s.draft.current) bytes w e)
said_valid s bytes (Err at) h e = λ none. absurd (cc)

step_valid : (s : State) (bytes : List ℕ) (o : Option Fault) → s.first ≡ o → IsValidState s → IsValidState (said_first s bytes o)
step_valid s bytes (Some f) e h = h
step_valid s bytes None e h = said_valid s bytes (line_left s.phase s.count (inside_in s.draft.current) bytes) (h e) refl

run_valid : (s : State) (lines : List (List ℕ)) → IsValidState s → IsValidState (fold take_said s lines)
run_valid s [] h = h
run_valid s (bytes ∷ lines) h = run_valid (take_said s bytes) lines (step_valid s bytes s.first refl h)

start_valid : IsValidState start
start_valid = λ none. record {
  params = record { hsize = (omega arith, omega arith); tolerance = omega arith; line_penalty = omega arith; club_penalty = omega arith; widow_penalty = omega arith; baseline_skip = omega arith; line_skip = omega arith; par_skip = omega arith };
  closed = tt;
  current = tt;
  weight = omega arith;
  few = omega arith;
}

draft_text : (d : Draft) (count : ℕ) → IsValidDraft d count → IsValidText (text_of d)
draft_text d count h = record { params = h.params; paragraphs = h.closed; few = let w = h.weight in let f = h.few in omega arith }

verdict_valid : (s : State) (t : Text) → IsValidState s → verdict s ≡ Ok t → IsValidText t
verdict_valid s t h v = by_first s.first refl v
  where
    by_end : IsValidDraft s.draft s.count → (cs : List Cause) → end_with s cs ≡ Ok t → IsValidText t
    by_end d [] e = let same : text_of s.draft ≡ t = cc in subst (λ (x : Text). IsValidText x) same (draft_text s.draft s.count d)
    by_end d (c ∷ cs) e = absurd (cc)

    by_first : (o : Option Fault) → s.first ≡ o → verdict_by s o ≡ Ok t → IsValidText t
    by_first (Some f) e v = absurd (cc)
    by_first None e v = by_end (h e) (end_causes s.phase) v

spelled_valid : (lines : List (List ℕ)) (t : Text) → spelled_text lines ≡ Ok t → IsValidText t
spelled_valid lines t h = verdict_valid (fold take_said start lines) t (run_valid start lines start_valid) (left_exact lines ∙ h)

-- a text that is read is valid
pub reading_valid : (bytes : List ℕ) (t : Text) → reading bytes ≡ Ok t → IsValidText t
unfolding reading
reading_valid bytes t h = by_size (nat_lt 8388608 (length bytes)) h
  where
    by_size : (b : Bool) → (if b then Err (fault 0 0 InputSize) else spelled_text (lines_of bytes)) ≡ Ok t → IsValidText t
    by_size true h = absurd (cc)
    by_size false h = spelled_valid (lines_of bytes) t h
