-- The canonical text of a valid galley is read as the galley itself, but for its line numbers.
use Rattle.std.proofs.Common.{◌≡◌, ℕ, ◌+◌, ◌≤◌, Bool, true, false, ◌||◌, ◌==◌, nat_lt, nat_le, List, [], ◌∷◌, ◌++◌, length, map, filter, Some, None, Ok, Err, if◌then◌else◌, refl, ap, sym, subst, ◌∙◌, ◌⊎◌, inl, inr, arith, append_assoc}
use Rattle.std.proofs.Math.Bool.{or-false}
use Rattle.std.specs.Cmp.{first_so, second_so}
use Rattle.std.specs.Prelude.{codes, decimal}
use Rattle.std.specs.List.{list_all}
use Rattle.std.proofs.lemmas.Bool.{eqb-true, and_from}
use Rattle.std.proofs.lemmas.Bool.Decides.{nat_tests}
use Rattle.tb_text.specs.Lines.{lines_of}
use Rattle.tb_text.proofs.LineTexts.{joined_lines, joined_lines-append, lines_of-joined}
use Rattle.tb_param.specs.declared.params.Params.{Params}
use Rattle.tb_param.specs.Fields.{value_of}
use Rattle.tb_param.specs.Defaults.{default_params}
use Rattle.tb_param.specs.Values.{glue_of, choice_of, rule_of}
use Rattle.tb_param.specs.declared.fields.Field.TheVariants as fields
use Rattle.tb_param.specs.Table.{Row, rows, rows_for, row_of}
use Rattle.tb_param.specs.Ranges.{are_params}
use Rattle.tb_param.specs.Changes.{row_of_field}
use Rattle.tb_param.proofs.RangeLemmas.{AllRows}
use Rattle.tb_param.proofs.AllSet.{all_set}
use Rattle.tb_param.proofs.RowNames.{rows_found}
use Rattle.tb_galley.specs.declared.Cause.TheVariants as causes
use Rattle.tb_galley.specs.declared.contents.Content.TheVariants as contents
use Rattle.tb_galley.specs.declared.classes.ClassLine.{ClassLine}
use Rattle.tb_galley.specs.declared.Galley.{Galley}
use Rattle.tb_galley.specs.declared.Item.{Item}
use Rattle.tb_galley.specs.declared.ItemKind.{ItemKind}
use Rattle.tb_galley.specs.declared.ItemKind.TheVariants as items
use Rattle.tb_galley.specs.declared.Leaf.{Leaf}
use Rattle.tb_galley.specs.declared.LeafKind.{LeafKind}
use Rattle.tb_galley.specs.declared.LeafKind.TheVariants as leaves
use Rattle.tb_galley.specs.Words.{header, end, at_start, among_sets, ended, Behind, behind_nothing, behind_clear, behind_two, behind_other, phase_behind}
use Rattle.tb_galley.specs.Faults.{fault}
use Rattle.tb_galley.specs.Grammar.{empty_draft, grammar, spelled, input_limit}
use Rattle.tb_galley.specs.GalleyReader.{State, start, verdict}
use Rattle.tb_galley.specs.CanonicalText.{set_lines, leaf_text, leaf_lines, item_text, item_lines, class_lines, header_text, foot_text, printed}
use Rattle.tb_text.specs.Fields.{line, and_count}
use Rattle.tb_galley.specs.Valid.{weight_of, weight, fits_version, is_class, do_classes_rise, has_known_class, IsValid, is_version, OthersDefault}
use Rattle.tb_galley.specs.ReadBack.{unnumbered_leaf, unnumbered_kind, unnumbered_item, unnumbered, ReadsBack}
use Rattle.tb_galley.proofs.BehindItems.{behind_items}
use Rattle.tb_galley.proofs.SoundLines.{drafted, fits_later}
use Rattle.tb_galley.proofs.SameStep.{left_exact}
use Rattle.tb_galley.proofs.FieldTexts.{tail_text, nothing_more}
use Rattle.tb_galley.proofs.SlotTexts.{spelling}
use Rattle.tb_galley.proofs.KindTexts.{leaf_word, leaf_fields, leaf_is, item_is}
use Rattle.tb_galley.proofs.ValueTexts.{value_fields, value_is, is_plain_row}
use Rattle.tb_galley.specs.Fields.{is_class_among}
use Rattle.tb_galley.proofs.ClassTexts.{numbers_of, class_fields, line_fields, class_is}
use Rattle.tb_galley.proofs.ClassRuns.{numbered_classes, class_texts, same_numbers, same_classes, still_classes, classes_run}
use Rattle.tb_galley.proofs.PrintRuns.{Runs, then_lines, to_state, word_runs, set_text, plain_rows, is_in_range, is_known_row, foot_line, set_all, HasClasses, sets_run, numbered_leaves, numbered_kind, numbered_items, leaf_line, kind_lines, leaf_texts, item_state, item_texts, none_stood, items_run}

-- ---- the canonical text by its lines

abbrev version_field : Bool → Bool → List ℕ
version_field true second = codes "1"
version_field false true = codes "2"
version_field false false = codes "3"

-- the first line
abbrev header_line : ℕ → List ℕ
header_line v = codes "galley" ++ tail_text (version_field (v == 1) (v == 2) ∷ [])

-- the lines between the header and the items
abbrev front_lines : Galley → List (List ℕ)
front_lines g = map (set_text g.params) (rows_for g.version) ++ class_texts g.classes

abbrev canonical_lines : Galley → List (List ℕ)
canonical_lines g = header_line g.version ∷ (front_lines g ++ (item_texts g.version g.items ++ codes "end" ∷ []))

header_is : (v : ℕ) → header_text v ≡ joined_lines (header_line v ∷ [])
header_is v = by_version (v == 1) (v == 2)
  where
    by_version : (one two : Bool) → (if one then codes "galley 1\n" else (if two then codes "galley 2\n" else codes "galley 3\n")) ≡ joined_lines ((codes "galley" ++ tail_text (version_field one two ∷ [])) ∷ [])
    by_version true two = refl
    by_version false true = refl
    by_version false false = refl

foot_is : (v class : ℕ) → foot_text v class ≡ joined_lines (foot_line v class ∷ [])
foot_is v class = by_version (v == 1)
  where
    by_version : (t : Bool) → (if t then codes "foot\n" else line (codes "foot" ++ and_count class)) ≡ joined_lines ((codes "foot" ++ tail_text (class_fields t class)) ∷ [])
    by_version true = refl
    by_version false = ap (λ d. line (codes "foot " ++ d)) (sym (nothing_more (decimal class)))

ended_first : (t rest : List ℕ) → line t ++ rest ≡ t ++ 10 ∷ rest
ended_first t rest = append_assoc t (10 ∷ []) rest

sets_joined : (g : Params) (rs : List Row) → set_lines g rs ≡ joined_lines (map (set_text g) rs)
unfolding set_text
sets_joined g [] = refl
sets_joined g (r ∷ rs) =
    (λ i. line (codes "set " ++ r.name ++ value_is (value_of r.field g) i) ++ sets_joined g rs i)
    ∙ ended_first (codes "set " ++ r.name ++ tail_text (value_fields (value_of r.field g))) (joined_lines (map (set_text g) rs))

leaves_joined : (ls : List Leaf) (rest : List (List ℕ)) → leaf_lines ls ++ joined_lines rest ≡ joined_lines (leaf_texts ls ++ rest)
unfolding leaf_line
leaves_joined [] rest = refl
leaves_joined (l ∷ ls) rest =
    append_assoc (line (leaf_text l.kind)) (leaf_lines ls) (joined_lines rest)
    ∙ (λ i. line (leaf_is l.kind i) ++ leaves_joined ls rest i)
    ∙ ended_first (spelling (leaf_word l.kind) ++ tail_text (leaf_fields l.kind)) (joined_lines (leaf_texts ls ++ rest))

leaf_joined : (k : LeafKind) → line (leaf_text k) ≡ joined_lines (leaf_line k ∷ [])
unfolding leaf_line
leaf_joined k = ap line (leaf_is k)

kind_joined : (v : ℕ) (k : ItemKind) → item_text v k ≡ joined_lines (kind_lines v k)
unfolding kind_lines leaf_line
kind_joined v (items.Hbox name h d) = leaf_joined (leaves.Hbox name h d)
kind_joined v (items.Rule name h d) = leaf_joined (leaves.Rule name h d)
kind_joined v (items.Skip g) = leaf_joined (leaves.Skip g)
kind_joined v (items.Kern w) = leaf_joined (leaves.Kern w)
kind_joined v (items.Penalty p) = leaf_joined (leaves.Penalty p)
kind_joined v (items.Foot class ls) =
    append_assoc (foot_text v class) (leaf_lines ls) (codes "endfoot\n")
    ∙ (λ i. foot_is v class i ++ leaves_joined ls (codes "endfoot" ∷ []) i)
    ∙ ended_first (foot_line v class) (joined_lines (leaf_texts ls ++ codes "endfoot" ∷ []))
kind_joined v (items.Set c) = ap (λ t. line (codes "set " ++ (row_of_field c.field).name ++ t)) (value_is c.value)
kind_joined v k = item_is v k refl

items_joined : (v : ℕ) (is : List Item) → item_lines v is ≡ joined_lines (item_texts v is)
items_joined v [] = refl
items_joined v (i ∷ is) = (λ j. kind_joined v i.kind j ++ items_joined v is j) ∙ sym (joined_lines-append (kind_lines v i.kind) (item_texts v is))

classes_joined : (cs : List ClassLine) → class_lines cs ≡ joined_lines (class_texts cs)
classes_joined [] = refl
classes_joined (c ∷ cs) = (λ i. line (class_is c i) ++ classes_joined cs i) ∙ ended_first (codes "class" ++ tail_text (line_fields c)) (joined_lines (class_texts cs))

front_joined : (g : Galley) → set_lines g.params (rows_for g.version) ++ class_lines g.classes ≡ joined_lines (front_lines g)
front_joined g =
    (λ i. sets_joined g.params (rows_for g.version) i ++ classes_joined g.classes i)
    ∙ sym (joined_lines-append (map (set_text g.params) (rows_for g.version)) (class_texts g.classes))

canonical_text : (g : Galley) → printed g ≡ joined_lines (canonical_lines g)
unfolding printed
canonical_text g =
    let first : List ℕ = header_line g.version in
    let sets : List (List ℕ) = front_lines g in
    let texts : List (List ℕ) = item_texts g.version g.items in
    ap (λ t. (t ++ item_lines g.version g.items) ++ codes "end\n") (append_assoc (header_text g.version) (set_lines g.params (rows_for g.version)) (class_lines g.classes))
    ∙ (λ i. ((header_is g.version i ++ front_joined g i) ++ items_joined g.version g.items i) ++ codes "end\n")
    ∙ ap (λ t. t ++ codes "end\n") (append_assoc (joined_lines (first ∷ [])) (joined_lines sets) (joined_lines texts))
    ∙ append_assoc (joined_lines (first ∷ [])) (joined_lines sets ++ joined_lines texts) (codes "end\n")
    ∙ ap (λ t. joined_lines (first ∷ []) ++ t)
    (append_assoc (joined_lines sets) (joined_lines texts) (codes "end\n")
    ∙ ap (λ t. joined_lines sets ++ t) (sym (joined_lines-append texts (codes "end" ∷ [])))
    ∙ sym (joined_lines-append sets (texts ++ codes "end" ∷ [])))
    ∙ ended_first first (joined_lines (sets ++ (texts ++ codes "end" ∷ [])))

-- ---- the law

-- how many lines come before the items
abbrev front : Galley → ℕ
front g = 1 + length (rows_for g.version) + length g.classes

-- and before the classes
abbrev sets_end : Galley → ℕ
sets_end g = 1 + length (rows_for g.version)

-- the classes as they are read
abbrev classes_in : Galley → List ClassLine
classes_in g = numbered_classes (sets_end g + 1) g.classes

renumbered : Galley → Galley
renumbered g = record { params = g.params; version = g.version; classes = classes_in g; items = numbered_items (front g + 1) g.items; end_line = front g + weight g.items + 1 }

pub end_runs : (n : ℕ) (b : Behind) (c : ℕ) (ps : Params) (v : ℕ) (cs : List ClassLine) (e : ℕ) (is : List Item) → Runs (item_state n (phase_behind b) c ps v cs e is) (codes "end" ∷ []) (item_state (n + 1) ended c ps v cs (n + 1) is)
end_runs n behind_nothing c ps v cs e is = word_runs n (phase_behind behind_nothing) c (drafted ps v cs is None e) end [] (λ m. contents.End) refl (record { fit = tt; short = omega arith; content = λ m. refl }) refl refl
end_runs n behind_clear c ps v cs e is = word_runs n (phase_behind behind_clear) c (drafted ps v cs is None e) end [] (λ m. contents.End) refl (record { fit = tt; short = omega arith; content = λ m. refl }) refl refl
end_runs n behind_two c ps v cs e is = word_runs n (phase_behind behind_two) c (drafted ps v cs is None e) end [] (λ m. contents.End) refl (record { fit = tt; short = omega arith; content = λ m. refl }) refl refl
end_runs n behind_other c ps v cs e is = word_runs n (phase_behind behind_other) c (drafted ps v cs is None e) end [] (λ m. contents.End) refl (record { fit = tt; short = omega arith; content = λ m. refl }) refl refl

-- there are three versions
version_cases : (v : ℕ) (cs : List ClassLine) → fits_version v cs ≡ true → (v ≡ 1) ⊎ ((v ≡ 2) ⊎ (v ≡ 3))
version_cases v cs h = by_version (v == 1) (v == 2) (v == 3) (eqb-true v 1) (eqb-true v 2) (eqb-true v 3) (some_version v cs h)
  where
    some_version : (v : ℕ) (cs : List ClassLine) → fits_version v cs ≡ true → is_version v ≡ true
    some_version v [] h = h
    some_version v (c ∷ cs) h = fits_later v [] h

    by_version : (one two three : Bool) → (one ≡ true → v ≡ 1) → (two ≡ true → v ≡ 2) → (three ≡ true → v ≡ 3) → (one || two || three) ≡ true → (v ≡ 1) ⊎ ((v ≡ 2) ⊎ (v ≡ 3))
    by_version true two three is_one is_two is_three h = inl (is_one refl)
    by_version false true three is_one is_two is_three h = inr (inl (is_two refl))
    by_version false false true is_one is_two is_three h = inr (inr (is_three refl))
    by_version false false false is_one is_two is_three h = cc

abbrev HeaderRuns : ℕ → Type 0
HeaderRuns v = Runs start (header_line v ∷ []) (item_state 1 among_sets 0 default_params v [] 0 [])

header_runs : (v : ℕ) → (v ≡ 1) ⊎ ((v ≡ 2) ⊎ (v ≡ 3)) → HeaderRuns v
header_runs v (inl e) =
    subst HeaderRuns (sym e) (word_runs 0 at_start 0 empty_draft header (codes "1" ∷ []) (λ m. contents.Header 1) refl (record { fit = (record { text = record { printable = refl; some = omega arith }; slot = refl }, tt); short = omega arith; content = λ m. refl }) refl refl)
header_runs v (inr (inl e)) =
    subst HeaderRuns (sym e) (word_runs 0 at_start 0 empty_draft header (codes "2" ∷ []) (λ m. contents.Header 2) refl (record { fit = (record { text = record { printable = refl; some = omega arith }; slot = refl }, tt); short = omega arith; content = λ m. refl }) refl refl)
header_runs v (inr (inr e)) =
    subst HeaderRuns (sym e) (word_runs 0 at_start 0 empty_draft header (codes "3" ∷ []) (λ m. contents.Header 3) refl (record { fit = (record { text = record { printable = refl; some = omega arith }; slot = refl }, tt); short = omega arith; content = λ m. refl }) refl refl)

params_in_range : (p : Params) → are_params p ≡ true → list_all (is_in_range p) rows ≡ true
unfolding are_params
params_in_range p h = h

-- ---- the parameters of each version

all_kept : (p q : Row → Bool) (rs : List Row) → list_all p rs ≡ true → list_all p (filter q rs) ≡ true
all_kept p q [] h = refl
all_kept p q (r ∷ rs) h = keep (q r) (all_kept p q rs (second_so (p r) (list_all p rs) h))
  where
    keep : (t : Bool) → list_all p (filter q rs) ≡ true → list_all p (if t then r ∷ filter q rs else filter q rs) ≡ true
    keep true k = and_from (p r) (list_all p (filter q rs)) (first_so (p r) (list_all p rs) h) k
    keep false k = k

named_kept : (q : Row → Bool) (rs : List Row) → AllRows (λ (r : Row). row_of r.name ≡ Some r) rs → AllRows (λ (r : Row). row_of r.name ≡ Some r) (filter q rs)
named_kept q [] h = tt
named_kept q (r ∷ rs) h = keep (q r) (named_kept q rs h.1)
  where
    keep : (t : Bool) → AllRows (λ (s : Row). row_of s.name ≡ Some s) (filter q rs) → AllRows (λ (s : Row). row_of s.name ≡ Some s) (if t then r ∷ filter q rs else filter q rs)
    keep true k = (h.0, k)
    keep false k = k

all_known : (q : Row → Bool) (rs : List Row) → list_all q (filter q rs) ≡ true
all_known q [] = refl
all_known q (r ∷ rs) = keep (q r) refl (all_known q rs)
  where
    keep : (t : Bool) → q r ≡ t → list_all q (filter q rs) ≡ true → list_all q (if t then r ∷ filter q rs else filter q rs) ≡ true
    keep true e k = and_from (q r) (list_all q (filter q rs)) e k
    keep false e k = k

-- the parameters of versions 1 and 2, set from the defaults; the others have their defaults
second_set : (g : Params) → OthersDefault 2 g → set_all g default_params (rows_for 2) ≡ g
unfolding default_params
second_set g others = (λ i. record g {
  texttop = sym (ap glue_of (others fields.Texttop refl)) i;
  textbottom = sym (ap glue_of (others fields.Textbottom refl)) i;
  footrule = sym (ap rule_of (others fields.Footrule refl)) i;
  toprule = sym (ap rule_of (others fields.Toprule refl)) i;
  bottomrule = sym (ap rule_of (others fields.Bottomrule refl)) i;
  dblrule = sym (ap rule_of (others fields.Dblrule refl)) i;
  footdepth = sym (ap choice_of (others fields.Footdepth refl)) i;
  footfill = sym (ap glue_of (others fields.Footfill refl)) i;
  footplace = sym (ap choice_of (others fields.Footplace refl)) i;
})

first_set : (g : Params) → OthersDefault 1 g → set_all g default_params (rows_for 1) ≡ g
unfolding default_params
first_set g others = (λ i. record g {
  release = sym (ap choice_of (others fields.Release refl)) i;
  texttop = sym (ap glue_of (others fields.Texttop refl)) i;
  textbottom = sym (ap glue_of (others fields.Textbottom refl)) i;
  footrule = sym (ap rule_of (others fields.Footrule refl)) i;
  toprule = sym (ap rule_of (others fields.Toprule refl)) i;
  bottomrule = sym (ap rule_of (others fields.Bottomrule refl)) i;
  dblrule = sym (ap rule_of (others fields.Dblrule refl)) i;
  footdepth = sym (ap choice_of (others fields.Footdepth refl)) i;
  footfill = sym (ap glue_of (others fields.Footfill refl)) i;
  footplace = sym (ap choice_of (others fields.Footplace refl)) i;
})

-- setting all parameters of the version from the defaults gives the parameters
each_set : (v : ℕ) (g : Params) → OthersDefault v g → (v ≡ 1) ⊎ ((v ≡ 2) ⊎ (v ≡ 3)) → set_all g default_params (rows_for v) ≡ g
each_set v g others (inl e) = subst (λ n. set_all g default_params (rows_for n) ≡ g) (sym e) (first_set g (subst (λ n. OthersDefault n g) e others))
each_set v g others (inr (inl e)) = subst (λ n. set_all g default_params (rows_for n) ≡ g) (sym e) (second_set g (subst (λ n. OthersDefault n g) e others))
each_set v g others (inr (inr e)) = subst (λ n. set_all g default_params (rows_for n) ≡ g) (sym e) (all_set g default_params)

pub not_long : (k : ℕ) → k ≤ 8388608 → nat_lt 8388608 k ≡ false
not_long k h = grind (arith, nat_tests)

few_items : (k : ℕ) → nat_le k 100000 ≡ true → 0 + k ≤ 100000
few_items k h = grind (arith, nat_tests)

-- version 1 has no classes
first_version : (v : ℕ) (cs : List ClassLine) → fits_version v cs ≡ true → (v == 1) ≡ true → cs ≡ []
first_version v [] h one = refl
first_version v (c ∷ cs) h one = unlike (subst (λ n. ((n == 2) || (n == 3)) ≡ true) (eqb-true v 1 one) h)
  where
    unlike : ((1 == 2) || (1 == 3)) ≡ true → (c ∷ cs) ≡ []
    unlike h = cc

only_last : (cs : List ClassLine) (class : ℕ) → cs ≡ [] → is_class_among (numbers_of cs) class ≡ true → class ≡ 254
only_last [] class none h = eqb-true class 254 (sym (or-false (class == 254)) ∙ h)
only_last (c ∷ cs) class none h = cc

has_classes : (g : Galley) → IsValid g → HasClasses g.version (classes_in g)
has_classes g valid = record {
  good = still_classes (sets_end g + 1) g.classes (first_so (list_all is_class g.classes) (do_classes_rise g.classes) valid.classes);
  first = λ class one h. only_last g.classes class (first_version g.version g.classes valid.version one) (subst (λ ks. is_class_among ks class ≡ true) (same_numbers (sets_end g + 1) g.classes) h);
}

galley_runs : (g : Galley) → IsValid g
    → Runs start (canonical_lines g) (item_state (front g + weight g.items + 1) ended (0 + weight g.items) g.params g.version (classes_in g) (front g + weight g.items + 1) (numbered_items (front g + 1) g.items))
galley_runs g valid =
    let few : nat_le (weight g.items) 100000 ≡ true = valid.count in
    let v : ℕ = g.version in
    let cs : List ClassLine = classes_in g in
    let rs : List Row = rows_for g.version in
    let begun : State = item_state 1 among_sets 0 default_params g.version [] 0 [] in
    let set : State = item_state (sets_end g) among_sets 0 g.params g.version [] 0 [] in
    let declared : State = item_state (front g) among_sets 0 g.params g.version (classes_in g) 0 [] in
    let written : State = item_state (front g + weight g.items) (phase_behind (behind_items behind_nothing g.items)) (0 + weight g.items) g.params g.version (classes_in g) 0 (numbered_items (front g + 1) g.items) in
    let done : State = item_state (front g + weight g.items + 1) ended (0 + weight g.items) g.params g.version (classes_in g) (front g + weight g.items + 1) (numbered_items (front g + 1) g.items) in
    let which : (g.version ≡ 1) ⊎ ((g.version ≡ 2) ⊎ (g.version ≡ 3)) = version_cases g.version g.classes valid.version in
    let sets : Runs begun (map (set_text g.params) (rows_for g.version)) set =
    to_state begun (item_state (sets_end g) among_sets 0 (set_all g.params default_params (rows_for g.version)) g.version [] 0 []) set (map (set_text g.params) (rows_for g.version))
    (ap (λ ps. item_state (sets_end g) among_sets 0 ps g.version [] 0 []) (each_set g.version g.params valid.others which))
    (sets_run g.params default_params g.version 1 (rows_for g.version) (named_kept (is_known_row g.version) rows rows_found) (all_known (is_known_row g.version) rows) (all_kept is_plain_row (is_known_row g.version) rows plain_rows)
    (all_kept (is_in_range g.params) (is_known_row g.version) rows (params_in_range g.params valid.params))) in
    let classes : Runs set (class_texts g.classes) declared =
    classes_run g.params g.version (sets_end g) g.classes (first_version g.version g.classes valid.version) (first_so (list_all is_class g.classes) (do_classes_rise g.classes) valid.classes) valid.standing (second_so (list_all is_class g.classes) (do_classes_rise g.classes) valid.classes) in
    let known : list_all (λ (i : Item). has_known_class (numbers_of (classes_in g)) i.kind) g.items ≡ true =
    subst (λ ks. list_all (λ (i : Item). has_known_class ks i.kind) g.items ≡ true) (sym (same_numbers (sets_end g + 1) g.classes)) valid.feet in
    let inner : Runs declared (item_texts g.version g.items) written =
    items_run (front g) behind_nothing 0 g.params g.version (classes_in g) 0 [] g.items (has_classes g valid) (none_stood 0) (few_items (weight g.items) few) valid.items known valid.kinds valid.words valid.order in
    let last : Runs written (codes "end" ∷ []) done =
    end_runs (front g + weight g.items) (behind_items behind_nothing g.items) (0 + weight g.items) g.params g.version (classes_in g) 0 (numbered_items (front g + 1) g.items) in
    then_lines start begun done (header_line g.version ∷ []) (front_lines g ++ (item_texts g.version g.items ++ codes "end" ∷ [])) (header_runs g.version which)
    (then_lines begun declared done (front_lines g) (item_texts g.version g.items ++ codes "end" ∷ [])
    (then_lines begun set declared (map (set_text g.params) (rows_for g.version)) (class_texts g.classes) sets classes)
    (then_lines declared written done (item_texts g.version g.items) (codes "end" ∷ []) inner last))

-- ---- line numbers apart

same_leaves : (n : ℕ) (ls : List Leaf) → map unnumbered_leaf (numbered_leaves n ls) ≡ map unnumbered_leaf ls
unfolding numbered_leaves
same_leaves n [] = refl
same_leaves n (l ∷ ls) = ap (λ ms. unnumbered_leaf l ∷ ms) (same_leaves (n + 1) ls)

same_kind : (n : ℕ) (k : ItemKind) → unnumbered_kind (numbered_kind n k) ≡ unnumbered_kind k
unfolding numbered_kind
same_kind n (items.Foot class ls) = ap (λ ms. items.Foot class ms) (same_leaves (n + 1) ls)
same_kind n k = refl

same_list : (n : ℕ) (is : List Item) → map unnumbered_item (numbered_items n is) ≡ map unnumbered_item is
unfolding numbered_items
same_list n [] = refl
same_list n (i ∷ is) = (λ j. record { line = 0; kind = same_kind n i.kind j } ∷ same_list (n + weight_of i.kind) is j)

same_galley : (g : Galley) → unnumbered (renumbered g) ≡ unnumbered g
unfolding renumbered
same_galley g = (λ j. record { params = g.params; version = g.version; classes = same_classes (sets_end g + 1) g.classes j; items = same_list (front g + 1) g.items j; end_line = 0 })

-- the canonical text is read as the galley, whose items come after the header, the sets and the classes
is_read : (g : Galley) → IsValid g → length (printed g) ≤ input_limit → grammar (printed g) ≡ Ok (renumbered g)
unfolding grammar renumbered
is_read g valid short =
    let fits : nat_lt input_limit (length (printed g)) ≡ false = not_long (length (printed g)) short in
    let runs : Runs start (canonical_lines g) (item_state (front g + weight g.items + 1) ended (0 + weight g.items) g.params g.version (classes_in g) (front g + weight g.items + 1) (numbered_items (front g + 1) g.items)) = galley_runs g valid in
    ap (λ t. if t then Err (fault 0 0 causes.InputSize) else spelled (lines_of (printed g))) fits
    ∙ ap spelled (ap lines_of (canonical_text g) ∙ lines_of-joined (canonical_lines g) runs.clean)
    ∙ sym (left_exact (canonical_lines g))
    ∙ ap verdict runs.ends

pub print_law : (g : Galley) → IsValid g → length (printed g) ≤ input_limit → ReadsBack g
print_law g valid short = record { galley = renumbered g; read = is_read g valid short; same = same_galley g }
