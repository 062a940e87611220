-- The galley's grammar accepts the text of the lines.
use Rattle.std.proofs.Common.{◌≡◌, refl, sym, ◌∙◌, ap, subst, ℕ, zero, suc, ◌+◌, ◌<◌, ◌≤◌, pos, Bool, true, false, nat_lt, ◌==◌, List, [], ◌∷◌, ◌++◌, length, take, drop, codes, Option, Some, None, Result, Ok, Err, if◌then◌else◌, arith, length-append}
use Rattle.std.proofs.Math.Bool.{or-false}
use Rattle.std.specs.Prelude.{slice_get, reverse}
use Rattle.std.specs.List.{AllByRecursion}
use Rattle.std.proofs.lemmas.List.{length-reverse}
use Rattle.std.proofs.lemmas.Bool.{true≢false, eqb-true}
use Rattle.tb_text.specs.Lines.{lines_of}
use Rattle.tb_text.proofs.LineTexts.{joined_lines, joined_lines-append, lines_of-joined}
use Rattle.tb_param.specs.Defaults.{default_params}
use Rattle.tb_galley.specs.declared.Cause.TheVariants as causes
use Rattle.tb_galley.specs.declared.contents.Content.TheVariants as contents
use Rattle.tb_galley.specs.declared.Galley.{Galley}
use Rattle.tb_galley.specs.declared.ItemKind.{ItemKind}
use Rattle.tb_galley.specs.declared.Word.TheVariants.{Header as header}
use Rattle.tb_galley.specs.declared.words.Phase.TheVariants.{Start as at_start, Sets as among_sets, Ended as ended}
use Rattle.tb_galley.specs.Words.{behind_nothing, phase_behind}
use Rattle.tb_galley.specs.Faults.{fault}
use Rattle.tb_galley.specs.Grammar.{empty_draft, grammar, spelled, input_limit}
use Rattle.tb_galley.specs.GalleyReader.{start, verdict}
use Rattle.tb_galley.specs.Valid.{weight}
use Rattle.tb_galley.proofs.SameStep.{left_exact}
use Rattle.tb_galley.proofs.BehindItems.{behind_items}
use Rattle.tb_galley.proofs.PrintLaw.{end_runs, not_long}
use Rattle.tb_galley.proofs.PrintRuns.{Runs, then_lines, word_runs, HasClasses, numbered_items, item_state, item_texts, none_stood, items_run}
use Rattle.tb_lines.specs.declared.text.Item.{Item as ParItem}
use Rattle.tb_lines.specs.declared.text.Item.TheVariants.{Word as word, Space as space, Penalty as penalty}
use Rattle.tb_lines.specs.declared.text.LineParams.{LineParams}
use Rattle.tb_lines.specs.declared.text.Paragraph.{Paragraph}
use Rattle.tb_lines.specs.declared.text.Text.{Text}
use Rattle.tb_lines.specs.declared.entries.Entry.{Entry}
use Rattle.tb_lines.specs.declared.entries.Entry.TheVariants.{Item as item, Fill as fill}
use Rattle.tb_lines.specs.Solution.{SolutionView}
use Rattle.tb_lines.specs.Entries.{list_of, passes, after_word, is_legal_entry, is_legal, is_word, from_word, line_between}
use Rattle.tb_lines.specs.LeastSolution.{IsAfter, IsFalling, IsSolution, IsLeastOf}
use Rattle.tb_lines.specs.LineText.{entry_size, size_of, line_sizes, paragraph_sizes, AreLeast, line_text}
use Rattle.tb_galley.specs.declared.Fault.{Fault}
use Rattle.tb_lines.specs.Grammar.{reading}
use Rattle.tb_lines.specs.Galley.{solutions_from, galley_by, galley_of, lines_galley}
use Rattle.tb_lines.specs.Accepted.{IsAccepted}
use Rattle.tb_lines.specs.ValidText.{IsValidItem, IsValidParagraph, IsValidText}
use Rattle.tb_lines.proofs.LeastOf.{solutions_least}
use Rattle.tb_lines.proofs.ValidTexts.{reading_valid}
use Rattle.tb_lines.proofs.GalleyLines.{items_of, text_of_items, paragraphs_items, paragraphs_text_is, IsPlain, all_good, all_known, all_kinds, all_words, all_stand, plain_weight, plain_length, IsSmallSize, AreSmallLines, paragraphs_plain}

-- ---- a text of plain items

header_runs : Runs start (codes "galley 1" ∷ []) (item_state 1 among_sets 0 default_params 1 [] 0 [])
header_runs =
    word_runs 0 at_start 0 empty_draft header (codes "1" ∷ []) (λ m. contents.Header 1) refl
    (record { fit = (record { text = record { printable = refl; some = omega arith }; slot = refl }, tt); short = omega arith; content = λ m. refl }) refl refl

-- a galley of version 1 has no class but that of its footnotes
no_classes : HasClasses 1 []
no_classes = record { good = refl; first = λ class one h. eqb-true class 254 (sym (or-false (class == 254)) ∙ h) }

-- the lines of a galley of these items alone
abbrev bare_lines : List ItemKind → List (List ℕ)
bare_lines ks = codes "galley 1" ∷ (item_texts 1 (items_of ks) ++ codes "end" ∷ [])

bare_text : (ks : List ItemKind) → codes "galley 1\n" ++ text_of_items ks ++ codes "end\n" ≡ joined_lines (bare_lines ks)
bare_text ks = ap (λ t. codes "galley 1\n" ++ t) (sym (joined_lines-append (item_texts 1 (items_of ks)) (codes "end" ∷ [])))

bare_read : (ks : List ItemKind) → AllByRecursion IsPlain ks → length ks ≤ 75000 → (g : Galley) × (grammar (codes "galley 1\n" ++ text_of_items ks ++ codes "end\n") ≡ Ok g)
unfolding grammar
bare_read ks plain few =
    let is = items_of ks in
    let w : weight is ≡ length ks = plain_weight ks plain in
    let inner : Runs (item_state 1 among_sets 0 default_params 1 [] 0 []) (item_texts 1 is) (item_state (1 + weight is) (phase_behind (behind_items behind_nothing is)) (0 + weight is) default_params 1 [] 0 (numbered_items 2 is)) =
    items_run 1 behind_nothing 0 default_params 1 [] 0 [] is no_classes (none_stood 0) (omega arith) (all_good ks plain) (all_known ks plain) (all_kinds ks plain) (all_words ks plain) (all_stand behind_nothing ks plain) in
    let last : Runs (item_state (1 + weight is) (phase_behind (behind_items behind_nothing is)) (0 + weight is) default_params 1 [] 0 (numbered_items 2 is)) (codes "end" ∷ []) (item_state (1 + weight is + 1) ended (0 + weight is) default_params 1 [] (1 + weight is + 1) (numbered_items 2 is)) =
    end_runs (1 + weight is) (behind_items behind_nothing is) (0 + weight is) default_params 1 [] 0 (numbered_items 2 is) in
    let runs : Runs start (bare_lines ks) (item_state (1 + weight is + 1) ended (0 + weight is) default_params 1 [] (1 + weight is + 1) (numbered_items 2 is)) =
    then_lines start (item_state 1 among_sets 0 default_params 1 [] 0 []) (item_state (1 + weight is + 1) ended (0 + weight is) default_params 1 [] (1 + weight is + 1) (numbered_items 2 is))
    (codes "galley 1" ∷ []) (item_texts 1 is ++ codes "end" ∷ []) header_runs
    (then_lines (item_state 1 among_sets 0 default_params 1 [] 0 []) (item_state (1 + weight is) (phase_behind (behind_items behind_nothing is)) (0 + weight is) default_params 1 [] 0 (numbered_items 2 is))
    (item_state (1 + weight is + 1) ended (0 + weight is) default_params 1 [] (1 + weight is + 1) (numbered_items 2 is)) (item_texts 1 is) (codes "end" ∷ []) inner last) in
    let whole : List ℕ = codes "galley 1\n" ++ text_of_items ks ++ codes "end\n" in
    let l = plain_length ks plain in
    let fits : nat_lt input_limit (length whole) ≡ false = not_long (length whole) (omega (arith, length-append (codes "galley 1\n" ++ text_of_items ks) (codes "end\n"), length-append (codes "galley 1\n") (text_of_items ks))) in (
      record { params = default_params; version = 1; classes = []; items = numbered_items 2 is; end_line = 1 + weight is + 1 },
      ap (λ t. if t then Err (fault 0 0 causes.InputSize) else spelled (lines_of whole)) fits
          ∙ ap spelled (ap lines_of (bare_text ks) ∙ lines_of-joined (bare_lines ks) runs.clean)
          ∙ sym (left_exact (bare_lines ks))
          ∙ ap verdict runs.ends,
    )

-- ---- a paragraph has no more lines than items and one

falling_few : (n : ℕ) (js : List ℕ) → IsAfter n js → IsFalling js → length js ≤ n
falling_few n [] a f = omega arith
falling_few n (j ∷ js) a f = let lt : j < n = a in let few : length js ≤ j = falling_few j js f.0 f.1 in omega arith

length-list_of : (items : List ParItem) → length (list_of items) ≡ length items + 3
length-list_of [] = refl
length-list_of (i ∷ items) = let e : length (list_of items) ≡ length items + 3 = length-list_of items in omega arith

at_forbidden : (items : List ParItem) → slice_get (list_of items) (length items) ≡ Some (item (penalty (pos 10000)))
at_forbidden [] = refl
at_forbidden (i ∷ items) = at_forbidden items

at_fill : (items : List ParItem) → slice_get (list_of items) (suc (length items)) ≡ Some fill
at_fill [] = refl
at_fill (i ∷ items) = at_fill items

no_break : (items : List ParItem) (j : ℕ) → is_legal (list_of items) j ≡ true → ((j ≡ length items) → ⊥) × ((j ≡ suc (length items)) → ⊥)
no_break items j legal = (
  λ e. true≢false (sym legal ∙ ap (λ k. passes (is_legal_entry (after_word (list_of items) j)) (slice_get (list_of items) k)) e ∙ ap (passes (is_legal_entry (after_word (list_of items) j))) (at_forbidden items)),
  λ e. true≢false (sym legal ∙ ap (λ k. passes (is_legal_entry (after_word (list_of items) j)) (slice_get (list_of items) k)) e ∙ ap (passes (is_legal_entry (after_word (list_of items) j))) (at_fill items)),
)

few_breaks : (items : List ParItem) (js : List ℕ) → IsSolution (list_of items) js → length js ≤ length items + 1
few_breaks items [] s = omega arith
few_breaks items (j ∷ []) s = omega arith
few_breaks items (j ∷ i ∷ is) s =
    let same : Some j ≡ Some s.ends.0 = s.ends.1 in
    let last : j ≡ s.ends.0 = cc in
    let end' : s.ends.0 + 1 ≡ length (list_of items) = s.ends.2 in
    let l = length-list_of items in
    let lt : i < j = s.falling.0 in
    let ne = no_break items i s.legal.1.0 in
    let ne' : (i ≡ length items) → ⊥ = ne.0 in
    let ne'' : (i ≡ suc (length items)) → ⊥ = ne.1 in
    let before : i < length items = omega arith in
    let few : length (i ∷ is) ≤ length items = falling_few (length items) (i ∷ is) before s.falling.1 in
    omega arith

length-line_sizes : (es : List Entry) (q : Option ℕ) (js : List ℕ) → length (line_sizes es q js) ≡ length js
length-line_sizes es q [] = refl
length-line_sizes es q (j ∷ js) = ap suc (length-line_sizes es (Some j) js)

few_lines : (ps : LineParams) (p : Paragraph) (s : SolutionView) → IsLeastOf ps p.items s → length (paragraph_sizes p s) ≤ length p.items + 1
few_lines ps p s h =
    let few = few_breaks p.items (reverse s.breaks) h.solution in
    let l = length-line_sizes (list_of p.items) None s.breaks in
    let r = length-reverse s.breaks in
    omega arith

-- ---- the sizes of lines are dimensions

abbrev IsSmallEntry : Entry → Type 0
IsSmallEntry e = IsSmallSize (entry_size e)

small_item : (i : ParItem) → IsValidItem i → IsSmallEntry (item i)
small_item (word w h d) v = (v.1, v.2)
small_item (space w st sh) v = (omega arith, omega arith)
small_item (penalty p) v = (omega arith, omega arith)

small_list : (items : List ParItem) → AllByRecursion IsValidItem items → AllByRecursion IsSmallEntry (list_of items)
small_list [] v = ((omega arith, omega arith), ((omega arith, omega arith), ((omega arith, omega arith), tt)))
small_list (i ∷ items) v = (small_item i v.0, small_list items v.1)

all_taken : (es : List Entry) (n : ℕ) → AllByRecursion IsSmallEntry es → AllByRecursion IsSmallEntry (take n es)
all_taken es zero a = tt
all_taken [] (suc n) a = tt
all_taken (e ∷ es) (suc n) a = (a.0, all_taken es n a.1)

all_dropped : (es : List Entry) (n : ℕ) → AllByRecursion IsSmallEntry es → AllByRecursion IsSmallEntry (drop n es)
all_dropped es zero a = a
all_dropped [] (suc n) a = tt
all_dropped (e ∷ es) (suc n) a = all_dropped es n a.1

all_from_word : (es : List Entry) → AllByRecursion IsSmallEntry es → AllByRecursion IsSmallEntry (from_word es)
all_from_word [] a = tt
all_from_word (e ∷ es) a = by_test (all_from_word es a.1) (is_word e)
  where
    by_test : AllByRecursion IsSmallEntry (from_word es) → (t : Bool) → AllByRecursion IsSmallEntry (if t then e ∷ es else from_word es)
    by_test rest true = a
    by_test rest false = rest

small_size : (es : List Entry) → AllByRecursion IsSmallEntry es → IsSmallSize (size_of es)
small_size [] a = (omega arith, omega arith)
small_size (e ∷ es) a =
    let rest = small_size es a.1 in
    let h = rest.0 in let d = rest.1 in
    let h' = a.0.0 in let d' = a.0.1 in
    (omega arith, omega arith)

small_line : (es : List Entry) (q : Option ℕ) (j : ℕ) → AllByRecursion IsSmallEntry es → IsSmallSize (size_of (line_between es q j))
small_line es None j a = small_size (take j es) (all_taken es j a)
small_line es (Some i) j a = small_size (from_word (drop (i + 1) (take j es))) (all_from_word (drop (i + 1) (take j es)) (all_dropped (take j es) (i + 1) (all_taken es j a)))

small_sizes : (es : List Entry) (q : Option ℕ) (js : List ℕ) → AllByRecursion IsSmallEntry es → AllByRecursion IsSmallSize (line_sizes es q js)
small_sizes es q [] a = tt
small_sizes es q (j ∷ js) a = (small_line es q j a, small_sizes es (Some j) js a)

small_lines : (ps : LineParams) (pars : List Paragraph) (ss : List SolutionView) → AllByRecursion IsValidParagraph pars → AreLeast ps pars ss → AreSmallLines pars ss
small_lines ps [] ss v l = tt
small_lines ps (p ∷ pars) [] v l = tt
small_lines ps (p ∷ pars) (s ∷ ss) v l =
    (v.0.name, few_lines ps p s l.0, v.0.few, small_sizes (list_of p.items) None s.breaks (small_list p.items v.0.items), small_lines ps pars ss v.1 l.1)

-- the galley's grammar accepts the text of the lines that least solutions make
accepted : (t : Text) (ss : List SolutionView) → IsValidText t → AreLeast t.params t.paragraphs ss → IsAccepted (line_text t ss)
unfolding line_text
accepted t ss v l =
    let ks = paragraphs_items t.params None t.paragraphs ss in
    let p = paragraphs_plain t.params t.paragraphs ss v.params (small_lines t.params t.paragraphs ss v.paragraphs l) in
    let few = v.few in
    let less = p.1 in
    let g = bare_read ks p.0 (omega arith) in
    (g.0, ap (λ x. grammar (codes "galley 1\n" ++ x ++ codes "end\n")) (paragraphs_text_is t.params None t.paragraphs ss) ∙ g.1)

-- the galley of a text's lines is one by the galley's grammar
by_solutions : (t : Text) (galley : List ℕ) → IsValidText t → (r : Result (List SolutionView) ℕ) → solutions_from t.params 1 t.paragraphs ≡ r → galley_by t r ≡ Ok galley → IsAccepted galley
by_solutions t galley v (Err n) e h = absurd (cc)
by_solutions t galley v (Ok ss) e h =
    let same : line_text t ss ≡ galley = cc in
    subst IsAccepted same (accepted t ss v (solutions_least t.params 1 t.paragraphs ss e))

by_reading : (bytes galley : List ℕ) → (r : Result Text Fault) → reading bytes ≡ r → galley_of r ≡ Ok galley → IsAccepted galley
by_reading bytes galley (Err f) e h = absurd (cc)
by_reading bytes galley (Ok t) e h = by_solutions t galley (reading_valid bytes t e) (solutions_from t.params 1 t.paragraphs) refl h

pub galley_accepted : (bytes galley : List ℕ) → lines_galley bytes ≡ Ok galley → IsAccepted galley
unfolding lines_galley
galley_accepted bytes galley h = by_reading bytes galley (reading bytes) refl h
