-- The text of the lines is a list of lines of items of a galley.
use Rattle.std.proofs.Common.{◌≡◌, refl, sym, ◌∙◌, ap, subst, ℕ, ◌+◌, ◌-◌, ◌*◌, ◌<◌, ◌≤◌, pos, Bool, true, false, ◌&&◌, ◌==◌, nat_le, nat_lt, List, [], ◌∷◌, ◌++◌, map, length, codes, decimal, Option, Some, None, if◌then◌else◌, arith, append_assoc, length-append, append-nil}
use Rattle.std.specs.List.{list_all, AllByRecursion}
use Rattle.std.specs.Fmt.{signed_decimal, digits}
use Rattle.std.proofs.lemmas.Fmt.{length-decimal-le}
use Rattle.std.proofs.lemmas.List.Folds.{list_all-append}
use Rattle.std.proofs.lemmas.Bool.Decides.{nat_tests}
use Rattle.std.proofs.lemmas.Int.{ints}
use Rattle.std.proofs.lemmas.Bool.{and_from, and_parts}
use Rattle.tb_scaled.specs.declared.Order.TheVariants.{Normal}
use Rattle.tb_node.specs.Names.{is_name, is_name_byte, is_alphanumeric}
use Rattle.tb_text.specs.Numbers.{is_digit}
use Rattle.tb_text.proofs.NumberTexts.{number_passes}
use Rattle.tb_text.proofs.LineTexts.{joined_lines, joined_lines-append}
use Rattle.tb_param.specs.Table.{is_dimen}
use Rattle.tb_galley.specs.declared.Item.{Item}
use Rattle.tb_galley.specs.declared.ItemKind.{ItemKind}
use Rattle.tb_galley.specs.declared.ItemKind.TheVariants as items
use Rattle.tb_galley.specs.Valid.{is_size, is_item, weight_of, weight, has_known_class, fits_kind, fits_word, Behind, behind_after, may_come, do_items_stand}
use Rattle.tb_galley.proofs.FieldTexts.{tail_text, tail_length, length-tail_text}
use Rattle.tb_galley.proofs.SlotTexts.{dimen_length}
use Rattle.tb_galley.proofs.PrintRuns.{kind_lines, item_texts}
use Rattle.tb_lines.specs.declared.text.LineParams.{LineParams}
use Rattle.tb_lines.specs.declared.text.Paragraph.{Paragraph}
use Rattle.tb_lines.specs.Solution.{SolutionView}
use Rattle.tb_lines.specs.Fields.{is_par_name}
use Rattle.tb_lines.specs.ValidText.{IsValidParams, text_weight}
use Rattle.tb_lines.specs.LineText.{Size, paragraph_sizes, glue_line, interline, penalty_after, penalty_line, penalty_before, space_before, box_line, one_line, lines_text, paragraph_depth, paragraphs_text}

-- ---- the items of lines

-- glue that neither stretches nor shrinks
abbrev pub fixed_glue : ℕ → ItemKind
fixed_glue w = items.Skip (record { width = pos w; stretch = pos 0; order = Normal; shrink = pos 0 })

abbrev pub line_box : List ℕ → ℕ → Size → ItemKind
line_box name k s = items.Hbox (name ++ codes "." ++ decimal k) (pos s.height) (pos s.depth)

abbrev penalty_items : ℕ → List ItemKind
penalty_items p = if p == 0 then [] else items.Penalty (pos p) ∷ []

abbrev items_before : LineParams → ℕ → ℕ → List ItemKind
items_before ps k count = if k == 1 then [] else penalty_items (penalty_after ps (k - 1) count)

abbrev space_items : LineParams → ℕ → Option ℕ → ℕ → List ItemKind
space_items ps k None height = []
space_items ps k (Some above) height = (if k == 1 then fixed_glue ps.par_skip ∷ [] else []) ++ fixed_glue (interline ps above height) ∷ []

abbrev line_items : LineParams → List ℕ → ℕ → ℕ → Option ℕ → Size → List ItemKind
line_items ps name count k above s = items_before ps k count ++ space_items ps k above s.height ++ line_box name k s ∷ []

abbrev pub lines_items : LineParams → List ℕ → ℕ → ℕ → Option ℕ → List Size → List ItemKind
lines_items ps name count k above [] = []
lines_items ps name count k above (s ∷ ss) = line_items ps name count k above s ++ lines_items ps name count (k + 1) (Some s.depth) ss

abbrev pub paragraph_items : LineParams → Option ℕ → Paragraph → SolutionView → List ItemKind
paragraph_items ps above p s = lines_items ps p.name (length (paragraph_sizes p s)) 1 above (paragraph_sizes p s)

abbrev pub paragraphs_items : LineParams → Option ℕ → List Paragraph → List SolutionView → List ItemKind
paragraphs_items ps above [] ss = []
paragraphs_items ps above (p ∷ pars) [] = []
paragraphs_items ps above (p ∷ pars) (s ∷ ss) = paragraph_items ps above p s ++ paragraphs_items ps (paragraph_depth above p s) pars ss

-- items before their lines are known
abbrev pub unplaced : ItemKind → Item
unplaced k = record { line = 0; kind = k }

abbrev pub items_of : List ItemKind → List Item
items_of ks = map unplaced ks

-- the text of these items
abbrev pub text_of_items : List ItemKind → List ℕ
text_of_items ks = joined_lines (item_texts 1 (items_of ks))

-- ---- their text

texts-append : (ks ls : List ItemKind) → item_texts 1 (items_of (ks ++ ls)) ≡ item_texts 1 (items_of ks) ++ item_texts 1 (items_of ls)
texts-append [] ls = refl
texts-append (k ∷ ks) ls = ap (λ t. kind_lines 1 k ++ t) (texts-append ks ls) ∙ sym (append_assoc (kind_lines 1 k) (item_texts 1 (items_of ks)) (item_texts 1 (items_of ls)))

text-append : (ks ls : List ItemKind) → text_of_items (ks ++ ls) ≡ text_of_items ks ++ text_of_items ls
text-append ks ls = ap joined_lines (texts-append ks ls) ∙ joined_lines-append (item_texts 1 (items_of ks)) (item_texts 1 (items_of ls))

glue_text : (w : ℕ) → glue_line w ≡ text_of_items (fixed_glue w ∷ [])
unfolding kind_lines digits
glue_text w = ap (λ t. codes "glue " ++ t) (sym (append_assoc (decimal w) (codes " plus 0 minus 0") (10 ∷ [])))

penalty_text : (p : ℕ) → penalty_line p ≡ text_of_items (penalty_items p)
unfolding kind_lines
penalty_text p = by_test (p == 0)
  where
    by_test : (t : Bool) → (if t then [] else codes "penalty " ++ decimal p ++ 10 ∷ []) ≡ text_of_items (if t then [] else items.Penalty (pos p) ∷ [])
    by_test true = refl
    by_test false = ap (λ t. codes "penalty " ++ (t ++ 10 ∷ [])) (sym (append-nil (decimal p)))

box_text : (name : List ℕ) (k : ℕ) (s : Size) → box_line name k s ≡ text_of_items (line_box name k s ∷ [])
unfolding kind_lines
box_text name k s = simp (append_assoc, append-nil)

before_text : (ps : LineParams) (k count : ℕ) → penalty_before ps k count ≡ text_of_items (items_before ps k count)
before_text ps k count = by_test (k == 1)
  where
    by_test : (t : Bool) → (if t then [] else penalty_line (penalty_after ps (k - 1) count)) ≡ text_of_items (if t then [] else penalty_items (penalty_after ps (k - 1) count))
    by_test true = refl
    by_test false = penalty_text (penalty_after ps (k - 1) count)

first_space_text : (t : Bool) (w : ℕ) → (if t then glue_line w else []) ≡ text_of_items (if t then fixed_glue w ∷ [] else [])
first_space_text true w = glue_text w
first_space_text false w = refl

space_text : (ps : LineParams) (k : ℕ) (above : Option ℕ) (height : ℕ) → space_before ps k above height ≡ text_of_items (space_items ps k above height)
space_text ps k None height = refl
space_text ps k (Some above) height =
    (λ i. first_space_text (k == 1) ps.par_skip i ++ glue_text (interline ps above height) i)
    ∙ sym (text-append (if k == 1 then fixed_glue ps.par_skip ∷ [] else []) (fixed_glue (interline ps above height) ∷ []))

line_text_is : (ps : LineParams) (name : List ℕ) (count k : ℕ) (above : Option ℕ) (s : Size) → one_line ps name count k above s ≡ text_of_items (line_items ps name count k above s)
line_text_is ps name count k above s =
    (λ i. (before_text ps k count i ++ space_text ps k above s.height i) ++ box_text name k s i)
    ∙ ap (λ t. t ++ text_of_items (line_box name k s ∷ [])) (sym (text-append (items_before ps k count) (space_items ps k above s.height)))
    ∙ sym (text-append (items_before ps k count ++ space_items ps k above s.height) (line_box name k s ∷ []))

lines_text_is : (ps : LineParams) (name : List ℕ) (count k : ℕ) (above : Option ℕ) (ss : List Size) → lines_text ps name count k above ss ≡ text_of_items (lines_items ps name count k above ss)
lines_text_is ps name count k above [] = refl
lines_text_is ps name count k above (s ∷ ss) =
    (λ i. line_text_is ps name count k above s i ++ lines_text_is ps name count (k + 1) (Some s.depth) ss i)
    ∙ sym (text-append (line_items ps name count k above s) (lines_items ps name count (k + 1) (Some s.depth) ss))

pub paragraphs_text_is : (ps : LineParams) (above : Option ℕ) (pars : List Paragraph) (ss : List SolutionView) → paragraphs_text ps above pars ss ≡ text_of_items (paragraphs_items ps above pars ss)
paragraphs_text_is ps above [] ss = refl
paragraphs_text_is ps above (p ∷ pars) [] = refl
paragraphs_text_is ps above (p ∷ pars) (s ∷ ss) =
    (λ i. lines_text_is ps p.name (length (paragraph_sizes p s)) 1 above (paragraph_sizes p s) i ++ paragraphs_text_is ps (paragraph_depth above p s) pars ss i)
    ∙ sym (text-append (paragraph_items ps above p s) (paragraphs_items ps (paragraph_depth above p s) pars ss))

-- ---- plain items

-- an item that the galley's grammar accepts on one line of at most 100 bytes
pub record IsPlain (k : ItemKind) : Type 0 where
  pub good : is_item 0 k ≡ true
  pub known : has_known_class [] k ≡ true
  pub kind : fits_kind 1 k ≡ true
  pub word : fits_word 1 k ≡ true
  pub stands : (b : Behind) → may_come b k ≡ true
  pub one : weight_of k ≡ 1
  pub short : length (text_of_items (k ∷ [])) ≤ 100

-- the text of one item on one line
one_length : (k : ItemKind) (head : List ℕ) (fs : List (List ℕ)) (n : ℕ) → kind_lines 1 k ≡ (head ++ tail_text fs) ∷ [] → length head + tail_length fs + 1 ≤ n → length (text_of_items (k ∷ [])) ≤ n
one_length k head fs n e h =
    let whole : text_of_items (k ∷ []) ≡ (head ++ tail_text fs) ++ 10 ∷ [] = ap (λ ls. joined_lines (ls ++ [])) e in
    subst (λ (t : List ℕ). length t ≤ n) (sym whole) (omega (arith, length-append (head ++ tail_text fs) (10 ∷ []), length-append head (tail_text fs), length-tail_text fs))

within : (w : ℕ) → w ≤ 1073741823 → is_dimen (pos w) ≡ true
within w h = grind (arith, nat_tests, ints)

glue_plain : (w : ℕ) → w ≤ 1073741823 → IsPlain (fixed_glue w)
unfolding kind_lines
glue_plain w h = record {
  good = and_from (is_dimen (pos w) && true) true (and_from (is_dimen (pos w)) true (within w h) refl) refl;
  known = refl;
  kind = refl;
  word = refl;
  stands = λ b. refl;
  one = refl;
  short =
      let l : length (signed_decimal (pos w)) ≤ 11 = dimen_length (pos w) h in
      let z : length (signed_decimal (pos 0)) ≤ 11 = dimen_length (pos 0) (omega arith) in
      one_length (fixed_glue w) (codes "glue") (signed_decimal (pos w) ∷ codes "plus" ∷ (signed_decimal (pos 0) ++ []) ∷ codes "minus" ∷ signed_decimal (pos 0) ∷ []) 100 refl (omega (arith, length-append (signed_decimal (pos 0)) []));
}

penalty_plain : (p : ℕ) → p ≤ 10000 → IsPlain (items.Penalty (pos p))
unfolding kind_lines
penalty_plain p h = record {
  good = grind (arith, nat_tests, ints);
  known = refl;
  kind = refl;
  word = refl;
  stands = λ b. refl;
  one = refl;
  short = let l : length (signed_decimal (pos p)) ≤ 11 = dimen_length (pos p) (omega arith) in one_length (items.Penalty (pos p)) (codes "penalty") (signed_decimal (pos p) ∷ []) 100 refl (omega arith);
}

digit_name : (d : ℕ) → is_digit d ≡ true → is_name_byte d ≡ true
digit_name d h = grind (arith, nat_tests)

decimal_name : (k : ℕ) → k < 10000 → list_all is_name_byte (decimal k) ≡ true
decimal_name k h = number_passes is_name_byte digit_name refl (pos k) (omega arith)

-- the name of a line
line_name : (name : List ℕ) (k : ℕ) → is_par_name name ≡ true → k < 10000 → is_name (name ++ codes "." ++ decimal k) ≡ true
line_name [] k h few = cc
line_name (b ∷ bs) k h few =
    let a = and_parts (is_name (b ∷ bs)) (nat_le (length (b ∷ bs)) 58) h in
    let c = and_parts (is_alphanumeric b && list_all is_name_byte bs) (nat_le (length bs) 62) a.0 in
    let d = and_parts (is_alphanumeric b) (list_all is_name_byte bs) c.0 in
    let end : List ℕ = 46 ∷ decimal k in
    let tail : list_all is_name_byte ((bs ++ codes ".") ++ decimal k) ≡ true =
    list_all-append is_name_byte (bs ++ codes ".") (decimal k)
    ∙ and_from (list_all is_name_byte (bs ++ codes ".")) (list_all is_name_byte (decimal k)) (list_all-append is_name_byte bs (codes ".") ∙ and_from (list_all is_name_byte bs) true d.1 refl) (decimal_name k few) in
    let l : length (decimal k) ≤ 4 = length-decimal-le 4 k (omega arith) (omega arith) (omega arith) in
    let s : length (b ∷ bs) ≤ 58 = grind (arith, nat_tests) in
    let short : length ((bs ++ codes ".") ++ decimal k) ≤ 62 = omega (arith, length-append (bs ++ codes ".") (decimal k), length-append bs (codes ".")) in
    and_from (is_alphanumeric b && list_all is_name_byte ((bs ++ codes ".") ++ decimal k)) (nat_le (length ((bs ++ codes ".") ++ decimal k)) 62)
    (and_from (is_alphanumeric b) (list_all is_name_byte ((bs ++ codes ".") ++ decimal k)) d.0 tail) (grind (arith, nat_tests))

size_within : (w : ℕ) → w ≤ 1073741823 → is_size (pos w) ≡ true
size_within w h = grind (arith, nat_tests, ints)

name_length : (name : List ℕ) (k : ℕ) → is_par_name name ≡ true → k < 10000 → length (name ++ codes "." ++ decimal k) ≤ 63
name_length name k h few =
    let s : length name ≤ 58 = (let a = and_parts (is_name name) (nat_le (length name) 58) h in let t : nat_le (length name) 58 ≡ true = a.1 in grind (arith, nat_tests)) in
    let l : length (decimal k) ≤ 4 = length-decimal-le 4 k (omega arith) (omega arith) (omega arith) in
    omega (arith, length-append (name ++ codes ".") (decimal k), length-append name (codes "."))

box_plain : (name : List ℕ) (k : ℕ) (s : Size) → is_par_name name ≡ true → k < 10000 → s.height ≤ 1073741823 → s.depth ≤ 1073741823 → IsPlain (line_box name k s)
unfolding kind_lines
box_plain name k s named few high deep = record {
  good =
      and_from (is_name (name ++ codes "." ++ decimal k) && is_size (pos s.height)) (is_size (pos s.depth))
      (and_from (is_name (name ++ codes "." ++ decimal k)) (is_size (pos s.height)) (line_name name k named few) (size_within s.height high)) (size_within s.depth deep);
  known = refl;
  kind = refl;
  word = refl;
  stands = λ b. refl;
  one = refl;
  short =
      let n = name_length name k named few in
      let h : length (signed_decimal (pos s.height)) ≤ 11 = dimen_length (pos s.height) high in
      let d : length (signed_decimal (pos s.depth)) ≤ 11 = dimen_length (pos s.depth) deep in
      one_length (line_box name k s) (codes "box") ((name ++ codes "." ++ decimal k) ∷ signed_decimal (pos s.height) ∷ signed_decimal (pos s.depth) ∷ []) 100 refl (omega arith);
}

-- ---- what follows from it

pub all_good : (ks : List ItemKind) → AllByRecursion IsPlain ks → list_all (λ (i : Item). is_item i.line i.kind) (items_of ks) ≡ true
all_good [] h = refl
all_good (k ∷ ks) h = and_from (is_item 0 k) (list_all (λ (i : Item). is_item i.line i.kind) (items_of ks)) h.0.good (all_good ks h.1)

pub all_known : (ks : List ItemKind) → AllByRecursion IsPlain ks → list_all (λ (i : Item). has_known_class [] i.kind) (items_of ks) ≡ true
all_known [] h = refl
all_known (k ∷ ks) h = and_from (has_known_class [] k) (list_all (λ (i : Item). has_known_class [] i.kind) (items_of ks)) h.0.known (all_known ks h.1)

pub all_kinds : (ks : List ItemKind) → AllByRecursion IsPlain ks → list_all (λ (i : Item). fits_kind 1 i.kind) (items_of ks) ≡ true
all_kinds [] h = refl
all_kinds (k ∷ ks) h = and_from (fits_kind 1 k) (list_all (λ (i : Item). fits_kind 1 i.kind) (items_of ks)) h.0.kind (all_kinds ks h.1)

pub all_stand : (b : Behind) (ks : List ItemKind) → AllByRecursion IsPlain ks → do_items_stand b (items_of ks) ≡ true
all_stand b [] h = refl
all_stand b (k ∷ ks) h = and_from (may_come b k) (do_items_stand (behind_after b k) (items_of ks)) (h.0.stands b) (all_stand (behind_after b k) ks h.1)

pub all_words : (ks : List ItemKind) → AllByRecursion IsPlain ks → list_all (λ (i : Item). fits_word 1 i.kind) (items_of ks) ≡ true
all_words [] h = refl
all_words (k ∷ ks) h = and_from (fits_word 1 k) (list_all (λ (i : Item). fits_word 1 i.kind) (items_of ks)) h.0.word (all_words ks h.1)

pub plain_weight : (ks : List ItemKind) → AllByRecursion IsPlain ks → weight (items_of ks) ≡ length ks
plain_weight [] h = refl
plain_weight (k ∷ ks) h = let one = h.0.one in let more = plain_weight ks h.1 in omega arith

pub plain_length : (ks : List ItemKind) → AllByRecursion IsPlain ks → length (text_of_items ks) ≤ 100 * length ks
plain_length [] h = omega arith
plain_length (k ∷ ks) h =
    let short = h.0.short in
    let more = plain_length ks h.1 in
    let parts = text-append (k ∷ []) ks in
    omega (arith, ap length parts, length-append (text_of_items (k ∷ [])) (text_of_items ks))

plain-append : (ks ls : List ItemKind) → AllByRecursion IsPlain ks → AllByRecursion IsPlain ls → AllByRecursion IsPlain (ks ++ ls)
plain-append [] ls h g = g
plain-append (k ∷ ks) ls h g = (h.0, plain-append ks ls h.1 g)

-- ---- the items of a line are plain, and at most three

abbrev pub IsSmallSize : Size → Type 0
IsSmallSize s = (s.height ≤ 1073741823) × (s.depth ≤ 1073741823)

few_penalties : (ps : LineParams) (k count : ℕ) → IsValidParams ps → penalty_after ps k count ≤ 10000
few_penalties ps k count h = by_tests (k == 1) (k + 1 == count)
  where
    by_tests : (a b : Bool) → (if a then ps.club_penalty else 0) + (if b then ps.widow_penalty else 0) ≤ 10000
    by_tests true true = let c = h.club_penalty in let w = h.widow_penalty in omega arith
    by_tests true false = let c = h.club_penalty in omega arith
    by_tests false true = let w = h.widow_penalty in omega arith
    by_tests false false = omega arith

small_interline : (ps : LineParams) (above height : ℕ) → IsValidParams ps → interline ps above height ≤ 1073741823
small_interline ps above height h = by_test (nat_lt ps.baseline_skip (above + height))
  where
    by_test : (t : Bool) → (if t then ps.line_skip else ps.baseline_skip - (above + height)) ≤ 1073741823
    by_test true = h.line_skip
    by_test false = let b = h.baseline_skip in omega arith

record Few (n : ℕ) (ks : List ItemKind) : Type 0 where
  plain : AllByRecursion IsPlain ks
  few : length ks ≤ n

few-append : (m n : ℕ) (ks ls : List ItemKind) → Few m ks → Few n ls → Few (m + n) (ks ++ ls)
few-append m n ks ls a b = record { plain = plain-append ks ls a.plain b.plain; few = let x = a.few in let y = b.few in omega (arith, length-append ks ls) }

few_before : (ps : LineParams) (k count : ℕ) → IsValidParams ps → Few (if k == 1 then 0 else 1) (items_before ps k count)
few_before ps k count h = by_first (k == 1)
  where
    by_zero : (p : ℕ) → p ≤ 10000 → (t : Bool) → Few 1 (if t then [] else items.Penalty (pos p) ∷ [])
    by_zero p le true = record { plain = tt; few = omega arith }
    by_zero p le false = record { plain = (penalty_plain p le, tt); few = omega arith }

    by_first : (t : Bool) → Few (if t then 0 else 1) (if t then [] else penalty_items (penalty_after ps (k - 1) count))
    by_first true = record { plain = tt; few = omega arith }
    by_first false = let p = penalty_after ps (k - 1) count in by_zero p (few_penalties ps (k - 1) count h) (p == 0)

few_space : (ps : LineParams) (k : ℕ) (above : Option ℕ) (height : ℕ) → IsValidParams ps → Few (if k == 1 then 2 else 1) (space_items ps k above height)
few_space ps k None height h = record { plain = tt; few = omega arith }
few_space ps k (Some above) height h = by_first (k == 1)
  where
    last : IsPlain (fixed_glue (interline ps above height))
    last = glue_plain (interline ps above height) (small_interline ps above height h)

    by_first : (t : Bool) → Few (if t then 2 else 1) ((if t then fixed_glue ps.par_skip ∷ [] else []) ++ fixed_glue (interline ps above height) ∷ [])
    by_first true = record { plain = (glue_plain ps.par_skip h.par_skip, (last, tt)); few = omega arith }
    by_first false = record { plain = (last, tt); few = omega arith }

few_line : (ps : LineParams) (name : List ℕ) (count k : ℕ) (above : Option ℕ) (s : Size) → IsValidParams ps → is_par_name name ≡ true → k < 10000 → IsSmallSize s → Few 3 (line_items ps name count k above s)
few_line ps name count k above s h named few size =
    let front = few-append (if k == 1 then 0 else 1) (if k == 1 then 2 else 1) (items_before ps k count) (space_items ps k above s.height) (few_before ps k count h) (few_space ps k above s.height h) in
    let all = few-append ((if k == 1 then 0 else 1) + (if k == 1 then 2 else 1)) 1 (items_before ps k count ++ space_items ps k above s.height) (line_box name k s ∷ []) front (record { plain = (box_plain name k s named few size.0 size.1, tt); few = omega arith }) in
    subst (λ n. Few n (line_items ps name count k above s)) (three (k == 1)) all
  where
    three : (t : Bool) → (if t then 0 else 1) + (if t then 2 else 1) + 1 ≡ 3
    three true = refl
    three false = refl

few_lines : (ps : LineParams) (name : List ℕ) (count k : ℕ) (above : Option ℕ) (ss : List Size) → IsValidParams ps → is_par_name name ≡ true → k + length ss ≤ 10000 → AllByRecursion IsSmallSize ss
    → Few (3 * length ss) (lines_items ps name count k above ss)
few_lines ps name count k above [] h named few sizes = record { plain = tt; few = omega arith }
few_lines ps name count k above (s ∷ ss) h named few sizes =
    subst (λ n. Few n (lines_items ps name count k above (s ∷ ss))) (let e : 3 + 3 * length ss ≡ 3 * length (s ∷ ss) = omega arith in e)
    (few-append 3 (3 * length ss) (line_items ps name count k above s) (lines_items ps name count (k + 1) (Some s.depth) ss) (few_line ps name count k above s h named (omega arith) sizes.0)
    (few_lines ps name count (k + 1) (Some s.depth) ss h named (omega arith) sizes.1))

-- paragraphs whose lines are known to be few and small
abbrev pub AreSmallLines : List Paragraph → List SolutionView → Type 0
AreSmallLines [] ss = Unit {0}
AreSmallLines (p ∷ pars) [] = Unit {0}
AreSmallLines (p ∷ pars) (s ∷ ss) = (is_par_name p.name ≡ true) × (length (paragraph_sizes p s) ≤ length p.items + 1) × (length p.items ≤ 5000) × AllByRecursion IsSmallSize (paragraph_sizes p s) × AreSmallLines pars ss

few_paragraphs : (ps : LineParams) (above : Option ℕ) (pars : List Paragraph) (ss : List SolutionView) → IsValidParams ps → AreSmallLines pars ss → Few (3 * text_weight pars) (paragraphs_items ps above pars ss)
few_paragraphs ps above [] ss h l = record { plain = tt; few = omega arith }
few_paragraphs ps above (p ∷ pars) [] h l = record { plain = tt; few = omega arith }
few_paragraphs ps above (p ∷ pars) (s ∷ ss) h l =
    let here = few_lines ps p.name (length (paragraph_sizes p s)) 1 above (paragraph_sizes p s) h l.0 (let a = l.1 in let b = l.2 in omega arith) l.3 in
    let all = few-append (3 * length (paragraph_sizes p s)) (3 * text_weight pars) (paragraph_items ps above p s) (paragraphs_items ps (paragraph_depth above p s) pars ss) here (few_paragraphs ps (paragraph_depth above p s) pars ss h l.4) in
    record { plain = all.plain; few = let a = all.few in let b = l.1 in omega arith }

pub paragraphs_plain : (ps : LineParams) (pars : List Paragraph) (ss : List SolutionView) → IsValidParams ps → AreSmallLines pars ss
    → AllByRecursion IsPlain (paragraphs_items ps None pars ss) × (length (paragraphs_items ps None pars ss) ≤ 3 * text_weight pars)
paragraphs_plain ps pars ss h l = let f = few_paragraphs ps None pars ss h l in (f.plain, f.few)
