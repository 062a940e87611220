-- The lines of the canonical text take the reader to the galley.
use Rattle.std.proofs.Common.{if◌then◌else◌, ◌≡◌, ℕ, ◌+◌, ◌≤◌, Bool, true, false, ◌&&◌, nat_le, ◌==◌, List, [], ◌∷◌, ◌++◌, length, map, Option, Some, None, refl, ap, sym, subst, ◌∙◌, arith, append_assoc, append-nil}
use Rattle.std.proofs.Math.Bool.{and-false}
use Rattle.std.specs.Cmp.{first_so, second_so}
use Rattle.std.proofs.lemmas.Bool.{and_from}
use Rattle.std.specs.Prelude.{codes}
use Rattle.std.specs.List.{list_all, fold}
use Rattle.std.proofs.lemmas.Bool.Decides.{nat_tests}
use Rattle.std.proofs.lemmas.List.Sums.{fold-append}
use Rattle.std.proofs.lemmas.List.Folds.{list_all-append}
use Rattle.tb_text.specs.Lines.{begins_with}
use Rattle.tb_text.proofs.LineTexts.{is_line_byte}
use Rattle.tb_param.specs.declared.params.Params.{Params}
use Rattle.tb_param.specs.Fields.{value_of, with_value}
use Rattle.tb_param.specs.Table.{Row, rows, row_of, is_known_in, value_fault}
use Rattle.tb_param.specs.Ranges.{is_no_fault}
use Rattle.tb_param.specs.declared.changes.Change.{Change}
use Rattle.tb_param.specs.declared.changes.SetPlace.{SetPlace}
use Rattle.tb_param.specs.Changes.{row_of_field, set_place}
use Rattle.tb_param.proofs.RangeLemmas.{AllRows, fits}
use Rattle.tb_param.proofs.ChangeLemmas.{own-row}
use Rattle.tb_galley.specs.declared.Cause.TheVariants as causes
use Rattle.tb_galley.specs.declared.contents.Content.{Content}
use Rattle.tb_galley.specs.declared.contents.Content.TheVariants as contents
use Rattle.tb_galley.specs.declared.Item.{Item}
use Rattle.tb_galley.specs.declared.ItemKind.{ItemKind}
use Rattle.tb_galley.specs.declared.ItemKind.TheVariants as items
use Rattle.tb_galley.specs.declared.Leaf.{Leaf}
use Rattle.tb_galley.specs.declared.LeafKind.{LeafKind}
use Rattle.tb_galley.specs.declared.LeafKind.TheVariants as leaves
use Rattle.tb_galley.specs.Words.{LineWord, Known, word_here, header, setting, foot, endfoot, page_number, title, enlarge, Phase, among_sets, among_items, in_foot, Behind, behind_nothing, behind_clear, behind_two, behind_other, phase_behind, word_of, counts_word, count_with}
use Rattle.tb_galley.specs.Fields.{is_class_among, word_slots}
use Rattle.tb_galley.specs.Faults.{asked_place, place_causes, item_causes, cause_if}
use Rattle.tb_galley.specs.Grammar.{Draft, item_kind, with_content}
use Rattle.tb_galley.specs.Line.{first_of}
use Rattle.tb_galley.specs.GalleyReader.{State, known_in, next_phase, take_said}
use Rattle.tb_galley.specs.declared.classes.ClassLine.{ClassLine}
use Rattle.tb_galley.specs.Valid.{is_leaf, is_item, weight_of, weight, is_class, has_known_class, fits_kind, fits_word, behind_after, may_set, may_come, do_items_stand}
use Rattle.tb_galley.proofs.BehindItems.{behind_items, behind-append, is_nothing, comes-after, goes-behind, set_placed}
use Rattle.tb_galley.proofs.SetRows.{row_found, row_plain, row_in_last, asked_is}
use Rattle.tb_galley.proofs.SoundLines.{drafted}
use Rattle.tb_galley.proofs.SoundSets.{counted, some_weight, some_count}
use Rattle.tb_galley.proofs.FieldTexts.{IsText, IsWord, tail_text, line_clean, state, step_back}
use Rattle.tb_galley.proofs.SlotTexts.{ReadsAs, spelling}
use Rattle.tb_galley.proofs.KindTexts.{leaf_word, leaf_fields, leaf_back, is_single, item_word, item_fields, item_line, on_line_kind, item_back}
use Rattle.tb_galley.proofs.ClassTexts.{numbers_of, known_by, class_fields, foot_back}
use Rattle.tb_galley.proofs.ValueTexts.{value_fields, is_plain_row, set_back}

-- ---- words are read

word_text : (w : LineWord) → IsText (spelling w)
word_text header = record { printable = refl; some = omega arith }
word_text w = record { printable = refl; some = omega arith }

found : (w : LineWord) → word_of (spelling w) ≡ Some w
unfolding word_of
found header = refl
found w = refl

short_word : (w : LineWord) → length (spelling w) ≤ 14
short_word header = omega arith
short_word w = omega arith

no_comment : (w : LineWord) → begins_with 35 (spelling w) ≡ false
no_comment header = refl
no_comment w = refl

is_word : (k : Known) (w : LineWord) → word_here k (Some w) ≡ Some w → IsWord k (spelling w) w
is_word k w here = record { text = word_text w; short = short_word w; content = no_comment w; word = found w; here = here }

-- ---- runs over lines

-- the lines take the reader from one state to another; none of their bytes ends a line
pub record Runs (s : State) (ls : List (List ℕ)) (t : State) : Type 0 where
  pub ends : fold take_said s ls ≡ t
  pub clean : list_all (λ l. list_all is_line_byte l) ls ≡ true

pub no_lines : (s : State) → Runs s [] s
no_lines s = record { ends = refl; clean = refl }

pub then_lines : (s t u : State) (xs ys : List (List ℕ)) → Runs s xs t → Runs t ys u → Runs s (xs ++ ys) u
then_lines s t u xs ys front back = record {
  ends = fold-append take_said s xs ys ∙ ap (λ r. fold take_said r ys) front.ends ∙ back.ends;
  clean =
      list_all-append (λ l. list_all is_line_byte l) xs ys
      ∙ and_from (list_all (λ l. list_all is_line_byte l) xs) (list_all (λ l. list_all is_line_byte l) ys) front.clean back.clean;
}

pub to_state : (s t u : State) (ls : List (List ℕ)) → t ≡ u → Runs s ls t → Runs s ls u
to_state s t u ls same run = record { ends = run.ends ∙ same; clean = run.clean }

-- a line whose fields are read as this content
pub word_runs : (n : ℕ) (p : Phase) (c : ℕ) (d : Draft) (w : LineWord) (fs : List (List ℕ)) (says : ℕ → Content) → word_here (known_in d) (Some w) ≡ Some w → ReadsAs (known_in d) w fs says
    → first_of (place_causes p (asked_place d.version fs) (Some w)) ≡ None → first_of (item_causes c (Some w)) ≡ None
    → Runs (state n p c d) ((spelling w ++ tail_text fs) ∷ []) (state (n + 1) (next_phase p (Some w)) (count_with c (Some w)) (with_content d (n + 1) (says (n + 1))))
word_runs n p c d w fs says here reads place fits = record {
  ends =
      step_back n p c d (spelling w) w fs (is_word (known_in d) w here) reads.fit reads.short place fits
      ∙ ap (λ k. state (n + 1) (next_phase p (Some w)) (count_with c (Some w)) (with_content d (n + 1) k)) (reads.content (n + 1));
  clean = ap (λ t. t && true) (line_clean (spelling w) (word_slots (known_in d) fs w) fs (word_text w) reads.fit);
}

-- ---- sets

unfoldable pub set_text : Params → Row → List ℕ
set_text g r = codes "set" ++ tail_text (r.name ∷ value_fields (value_of r.field g))

pub plain_rows : list_all is_plain_row rows ≡ true
plain_rows = refl

abbrev pub is_in_range : Params → Row → Bool
is_in_range g r = is_no_fault (value_fault r.form (value_of r.field g))

abbrev pub set_all : Params → Params → List Row → Params
set_all g p rs = fold (λ q (r : Row). with_value r.field (value_of r.field g) q) p rs

-- a galley of the version has the parameter
abbrev pub is_known_row : ℕ → Row → Bool
is_known_row v r = is_known_in v r.field

pub sets_run : (g p : Params) (v n : ℕ) (rs : List Row) → AllRows (λ (r : Row). row_of r.name ≡ Some r) rs → list_all (is_known_row v) rs ≡ true → list_all is_plain_row rs ≡ true → list_all (is_in_range g) rs ≡ true
    → Runs (state n among_sets 0 (drafted p v [] [] None 0)) (map (set_text g) rs) (state (n + length rs) among_sets 0 (drafted (set_all g p rs) v [] [] None 0))
unfolding set_text
sets_run g p v n [] named known plain good = to_state (state n among_sets 0 (drafted p v [] [] None 0)) (state n among_sets 0 (drafted p v [] [] None 0)) (state (n + 0) among_sets 0 (drafted p v [] [] None 0)) [] (ap (λ m. state m among_sets 0 (drafted p v [] [] None 0)) (omega arith)) (no_lines (state n among_sets 0 (drafted p v [] [] None 0)))
sets_run g p v n (r ∷ rs) named known plain good =
    let reads : ReadsAs (known_in (drafted p v [] [] None 0)) setting (r.name ∷ value_fields (value_of r.field g)) (λ m. contents.Set r.field (value_of r.field g)) =
    set_back (known_in (drafted p v [] [] None 0)) r (value_of r.field g) named.0 (first_so (is_known_row v r) (list_all (is_known_row v) rs) known) (first_so (is_plain_row r) (list_all is_plain_row rs) plain) (first_so (is_in_range g r) (list_all (is_in_range g) rs) good) in
    let q : Params = with_value r.field (value_of r.field g) p in
    then_lines (state n among_sets 0 (drafted p v [] [] None 0)) (state (n + 1) among_sets 0 (drafted q v [] [] None 0)) (state (n + length (r ∷ rs)) among_sets 0 (drafted (set_all g p (r ∷ rs)) v [] [] None 0))
    (set_text g r ∷ []) (map (set_text g) rs)
    (word_runs n among_sets 0 (drafted p v [] [] None 0) setting (r.name ∷ value_fields (value_of r.field g)) (λ m. contents.Set r.field (value_of r.field g)) refl reads refl refl)
    (to_state (state (n + 1) among_sets 0 (drafted q v [] [] None 0)) (state (n + 1 + length rs) among_sets 0 (drafted (set_all g q rs) v [] [] None 0)) (state (n + length (r ∷ rs)) among_sets 0 (drafted (set_all g p (r ∷ rs)) v [] [] None 0)) (map (set_text g) rs)
    (ap (λ m. state m among_sets 0 (drafted (set_all g q rs) v [] [] None 0)) (omega arith))
    (sets_run g q v (n + 1) rs named.1 (second_so (is_known_row v r) (list_all (is_known_row v) rs) known) (second_so (is_plain_row r) (list_all is_plain_row rs) plain) (second_so (is_in_range g r) (list_all (is_in_range g) rs) good)))

-- ---- items

unfoldable pub numbered_leaves : ℕ → List Leaf → List Leaf
numbered_leaves n [] = []
numbered_leaves n (l ∷ ls) = record { line = n; kind = l.kind } ∷ numbered_leaves (n + 1) ls

unfoldable pub numbered_kind : ℕ → ItemKind → ItemKind
numbered_kind n (items.Foot class ls) = items.Foot class (numbered_leaves (n + 1) ls)
numbered_kind n k = on_line_kind n k

unfoldable pub numbered_items : ℕ → List Item → List Item
numbered_items n [] = []
numbered_items n (i ∷ is) = record { line = n; kind = numbered_kind n i.kind } ∷ numbered_items (n + weight_of i.kind) is

unfoldable pub leaf_line : LeafKind → List ℕ
leaf_line k = spelling (leaf_word k) ++ tail_text (leaf_fields k)

-- the fields of a parameter that is set among the items
abbrev pub change_fields : Change → List (List ℕ)
change_fields c = (row_of_field c.field).name ∷ value_fields c.value

abbrev pub change_line : Change → List ℕ
change_line c = codes "set" ++ tail_text (change_fields c)

abbrev pub foot_line : ℕ → ℕ → List ℕ
foot_line v class = codes "foot" ++ tail_text (class_fields (v == 1) class)

unfoldable pub kind_lines : ℕ → ItemKind → List (List ℕ)
kind_lines v (items.Foot class ls) = foot_line v class ∷ (map (λ (l : Leaf). leaf_line l.kind) ls ++ codes "endfoot" ∷ [])
kind_lines v (items.Set c) = change_line c ∷ []
kind_lines v k = item_line k ∷ []

-- ---- words in their phases

count_fits : (c : ℕ) (w : LineWord) → c + 1 ≤ 100000 → first_of (item_causes c (Some w)) ≡ None
count_fits c w h =
    let few : nat_le 100000 c ≡ false = grind (arith, nat_tests) in
    ap (λ t. first_of (cause_if (counts_word c w && t) causes.Items)) few ∙ ap (λ t. first_of (cause_if t causes.Items)) (and-false (counts_word c w))

record GoesOn (p q : Phase) (a : Option SetPlace) (c : ℕ) (w : LineWord) : Type 0 where
  place : first_of (place_causes p a (Some w)) ≡ None
  next : next_phase p (Some w) ≡ q
  count : count_with c (Some w) ≡ c + 1

single_goes : (b : Behind) (a : Option SetPlace) (c : ℕ) (k : ItemKind) → is_single k ≡ true → may_come b k ≡ true → GoesOn (phase_behind b) (phase_behind (behind_after b k)) a c (item_word k)
single_goes behind_nothing a c (items.Foot class ls) single stands = cc
single_goes behind_nothing a c (items.Set x) single stands = cc
single_goes behind_nothing a c (items.Head f) single stands = cc
single_goes behind_nothing a c k single stands = record { place = refl; next = refl; count = refl }
single_goes behind_clear a c (items.Foot class ls) single stands = cc
single_goes behind_clear a c (items.Set x) single stands = cc
single_goes behind_clear a c (items.Head f) single stands = cc
single_goes behind_clear a c k single stands = record { place = refl; next = refl; count = refl }
single_goes behind_two a c (items.Foot class ls) single stands = cc
single_goes behind_two a c (items.Set x) single stands = cc
single_goes behind_two a c k single stands = record { place = refl; next = refl; count = refl }
single_goes behind_other a c (items.Foot class ls) single stands = cc
single_goes behind_other a c (items.Set x) single stands = cc
single_goes behind_other a c (items.Head f) single stands = cc
single_goes behind_other a c k single stands = record { place = refl; next = refl; count = refl }

leaf_goes : (b : Behind) (a : Option SetPlace) (c : ℕ) (k : LeafKind) → GoesOn (phase_behind b) among_items a c (leaf_word k)
leaf_goes behind_nothing a c (leaves.Hbox name h d) = record { place = refl; next = refl; count = refl }
leaf_goes behind_nothing a c k = record { place = refl; next = refl; count = refl }
leaf_goes behind_clear a c (leaves.Hbox name h d) = record { place = refl; next = refl; count = refl }
leaf_goes behind_clear a c k = record { place = refl; next = refl; count = refl }
leaf_goes behind_two a c (leaves.Hbox name h d) = record { place = refl; next = refl; count = refl }
leaf_goes behind_two a c k = record { place = refl; next = refl; count = refl }
leaf_goes behind_other a c (leaves.Hbox name h d) = record { place = refl; next = refl; count = refl }
leaf_goes behind_other a c k = record { place = refl; next = refl; count = refl }

inner_goes : (a : Option SetPlace) (c : ℕ) (k : LeafKind) → GoesOn in_foot in_foot a c (leaf_word k)
inner_goes a c (leaves.Hbox name h d) = record { place = refl; next = refl; count = refl }
inner_goes a c k = record { place = refl; next = refl; count = refl }

foot_goes : (b : Behind) (a : Option SetPlace) (c : ℕ) → GoesOn (phase_behind b) in_foot a c foot
foot_goes behind_nothing a c = record { place = refl; next = refl; count = refl }
foot_goes behind_clear a c = record { place = refl; next = refl; count = refl }
foot_goes behind_two a c = record { place = refl; next = refl; count = refl }
foot_goes behind_other a c = record { place = refl; next = refl; count = refl }

set_goes : (b : Behind) (a : Option SetPlace) (place : SetPlace) (c : ℕ) → a ≡ Some place → may_set b place ≡ true → 1 ≤ c → GoesOn (phase_behind b) (phase_behind b) a c setting
set_goes b a place c asked may some = record { place = set_placed b a place asked may; next = sym (goes-behind b setting refl); count = counted c setting (some_count c some) }

-- a line of an item
goes_runs : (n : ℕ) (p q : Phase) (c : ℕ) (d : Draft) (w : LineWord) (fs : List (List ℕ)) (says : ℕ → Content) → c + 1 ≤ 100000 → word_here (known_in d) (Some w) ≡ Some w → ReadsAs (known_in d) w fs says → GoesOn p q (asked_place d.version fs) c w
    → Runs (state n p c d) ((spelling w ++ tail_text fs) ∷ []) (state (n + 1) q (c + 1) (with_content d (n + 1) (says (n + 1))))
goes_runs n p q c d w fs says few here reads goes =
    to_state (state n p c d) (state (n + 1) (next_phase p (Some w)) (count_with c (Some w)) (with_content d (n + 1) (says (n + 1)))) (state (n + 1) q (c + 1) (with_content d (n + 1) (says (n + 1)))) ((spelling w ++ tail_text fs) ∷ [])
    (λ i. state (n + 1) (goes.next i) (goes.count i) (with_content d (n + 1) (says (n + 1))))
    (word_runs n p c d w fs says here reads goes.place (count_fits c w few))

leaf_here : (known : Known) (k : LeafKind) → word_here known (Some (leaf_word k)) ≡ Some (leaf_word k)
leaf_here known (leaves.Hbox name h d) = refl
leaf_here known k = refl

item_here : (known : Known) (k : ItemKind) → fits_word known.version k ≡ true → word_here known (Some (item_word k)) ≡ Some (item_word k)
item_here known (items.Hbox name h d) fit = refl
item_here known (items.Page n) fit = ap (λ t. if t then Some page_number else None) fit
item_here known (items.Head f) fit = ap (λ t. if t then Some title else None) fit
item_here known (items.Enlarge by star) fit = ap (λ t. if t then Some enlarge else None) fit
item_here known k fit = refl

-- ---- footnotes

-- the classes of a galley of the version are in their ranges, and version 1 has none
pub record HasClasses (v : ℕ) (cs : List ClassLine) : Type 0 where
  pub good : list_all is_class cs ≡ true
  pub first : (class : ℕ) → (v == 1) ≡ true → is_class_among (numbers_of cs) class ≡ true → class ≡ 254

abbrev pub leaf_texts : List Leaf → List (List ℕ)
leaf_texts ls = map (λ (l : Leaf). leaf_line l.kind) ls

-- a reader in an open foot, and one outside
abbrev foot_state : ℕ → ℕ → Params → ℕ → List ClassLine → List Item → ℕ → ℕ → ℕ → List Leaf → State
foot_state n c ps v cs before e class line ls = state n in_foot c (drafted ps v cs before (Some (record { line = line; class = class; leaves = ls })) e)

abbrev pub item_state : ℕ → Phase → ℕ → Params → ℕ → List ClassLine → ℕ → List Item → State
item_state n p c ps v cs e is = state n p c (drafted ps v cs is None e)

same_foot : (a b x y : ℕ) (ps : Params) (v : ℕ) (cs : List ClassLine) (before : List Item) (e class line : ℕ) (ls ms : List Leaf) → a ≡ b → x ≡ y → ls ≡ ms → foot_state a x ps v cs before e class line ls ≡ foot_state b y ps v cs before e class line ms
same_foot a b x y ps v cs before e class line ls ms p q r = (λ i. foot_state (p i) (q i) ps v cs before e class line (r i))

same_items : (a b : ℕ) (p : Phase) (x y : ℕ) (ps : Params) (v : ℕ) (cs : List ClassLine) (e : ℕ) (is js : List Item) → a ≡ b → x ≡ y → is ≡ js → item_state a p x ps v cs e is ≡ item_state b p y ps v cs e js
same_items a b ph x y ps v cs e is js p q r = (λ i. item_state (p i) ph (q i) ps v cs e (r i))

leaf_run : (n c : ℕ) (ps : Params) (v : ℕ) (cs : List ClassLine) (before : List Item) (e class line : ℕ) (so_far : List Leaf) (k : LeafKind) → c + 1 ≤ 100000 → is_leaf k ≡ true
    → Runs (foot_state n c ps v cs before e class line so_far) (leaf_line k ∷ []) (foot_state (n + 1) (c + 1) ps v cs before e class line (so_far ++ record { line = n + 1; kind = k } ∷ []))
unfolding leaf_line
leaf_run n c ps v cs before e class line so_far k few good =
    goes_runs n in_foot in_foot c (drafted ps v cs before (Some (record { line = line; class = class; leaves = so_far })) e) (leaf_word k) (leaf_fields k) (λ m. contents.Plain k) few (leaf_here (known_by v cs) k) (leaf_back (known_by v cs) k good) (inner_goes (asked_place v (leaf_fields k)) c k)

leaves_run : (n c : ℕ) (ps : Params) (v : ℕ) (cs : List ClassLine) (before : List Item) (e class line : ℕ) (so_far ls : List Leaf) → c + length ls ≤ 100000 → list_all (λ (l : Leaf). is_leaf l.kind) ls ≡ true
    → Runs (foot_state n c ps v cs before e class line so_far) (leaf_texts ls) (foot_state (n + length ls) (c + length ls) ps v cs before e class line (so_far ++ numbered_leaves (n + 1) ls))
unfolding numbered_leaves
leaves_run n c ps v cs before e class line so_far [] few good =
    to_state (foot_state n c ps v cs before e class line so_far) (foot_state n c ps v cs before e class line so_far) (foot_state (n + 0) (c + 0) ps v cs before e class line (so_far ++ [])) []
    (same_foot n (n + 0) c (c + 0) ps v cs before e class line so_far (so_far ++ []) (omega arith) (omega arith) (sym (append-nil so_far)))
    (no_lines (foot_state n c ps v cs before e class line so_far))
leaves_run n c ps v cs before e class line so_far (l ∷ ls) few good =
    let leaf : Leaf = record { line = n + 1; kind = l.kind } in
    then_lines (foot_state n c ps v cs before e class line so_far) (foot_state (n + 1) (c + 1) ps v cs before e class line (so_far ++ leaf ∷ []))
    (foot_state (n + length (l ∷ ls)) (c + length (l ∷ ls)) ps v cs before e class line (so_far ++ leaf ∷ numbered_leaves (n + 1 + 1) ls)) (leaf_line l.kind ∷ []) (leaf_texts ls)
    (leaf_run n c ps v cs before e class line so_far l.kind (omega arith) (first_so (is_leaf l.kind) (list_all (λ (m : Leaf). is_leaf m.kind) ls) good))
    (to_state (foot_state (n + 1) (c + 1) ps v cs before e class line (so_far ++ leaf ∷ []))
    (foot_state (n + 1 + length ls) (c + 1 + length ls) ps v cs before e class line ((so_far ++ leaf ∷ []) ++ numbered_leaves (n + 1 + 1) ls))
    (foot_state (n + length (l ∷ ls)) (c + length (l ∷ ls)) ps v cs before e class line (so_far ++ leaf ∷ numbered_leaves (n + 1 + 1) ls)) (leaf_texts ls)
    (same_foot (n + 1 + length ls) (n + length (l ∷ ls)) (c + 1 + length ls) (c + length (l ∷ ls)) ps v cs before e class line ((so_far ++ leaf ∷ []) ++ numbered_leaves (n + 1 + 1) ls) (so_far ++ leaf ∷ numbered_leaves (n + 1 + 1) ls)
    (omega arith) (omega arith) (append_assoc so_far (leaf ∷ []) (numbered_leaves (n + 1 + 1) ls)))
    (leaves_run (n + 1) (c + 1) ps v cs before e class line (so_far ++ leaf ∷ []) ls (omega arith) (second_so (is_leaf l.kind) (list_all (λ (m : Leaf). is_leaf m.kind) ls) good)))

foot_run : (n : ℕ) (b : Behind) (c : ℕ) (ps : Params) (v : ℕ) (cs : List ClassLine) (e : ℕ) (before : List Item) (class : ℕ) (ls : List Leaf) → HasClasses v cs → is_class_among (numbers_of cs) class ≡ true → c + (length ls + 2) ≤ 100000 → list_all (λ (l : Leaf). is_leaf l.kind) ls ≡ true
    → Runs (item_state n (phase_behind b) c ps v cs e before) (kind_lines v (items.Foot class ls)) (item_state (n + (length ls + 2)) among_items (c + (length ls + 2)) ps v cs e (before ++ record { line = n + 1; kind = numbered_kind (n + 1) (items.Foot class ls) } ∷ []))
unfolding kind_lines numbered_kind
foot_run n b c ps v cs e before class ls has known few good =
    let after : List Item = before ++ record { line = n + 1; kind = items.Foot class (numbered_leaves (n + 1 + 1) ls) } ∷ [] in
    let opened : Runs (item_state n (phase_behind b) c ps v cs e before) (foot_line v class ∷ []) (foot_state (n + 1) (c + 1) ps v cs before e class (n + 1) []) =
    goes_runs n (phase_behind b) in_foot c (drafted ps v cs before None e) foot (class_fields (v == 1) class) (λ m. contents.Foot class) (omega arith) refl (foot_back v cs class has.good known (λ first. has.first class first known)) (foot_goes b (asked_place v (class_fields (v == 1) class)) c) in
    let inner : Runs (foot_state (n + 1) (c + 1) ps v cs before e class (n + 1) []) (leaf_texts ls) (foot_state (n + 1 + length ls) (c + 1 + length ls) ps v cs before e class (n + 1) (numbered_leaves (n + 1 + 1) ls)) =
    leaves_run (n + 1) (c + 1) ps v cs before e class (n + 1) [] ls (omega arith) good in
    let closed : Runs (foot_state (n + 1 + length ls) (c + 1 + length ls) ps v cs before e class (n + 1) (numbered_leaves (n + 1 + 1) ls)) (codes "endfoot" ∷ []) (item_state (n + 1 + length ls + 1) among_items (c + 1 + length ls + 1) ps v cs e after) =
    goes_runs (n + 1 + length ls) in_foot among_items (c + 1 + length ls) (drafted ps v cs before (Some (record { line = n + 1; class = class; leaves = numbered_leaves (n + 1 + 1) ls })) e) endfoot [] (λ m. contents.Endfoot) (omega arith) (refl)
    (record { fit = tt; short = omega arith; content = λ m. refl }) (record { place = refl; next = refl; count = refl }) in
    to_state (item_state n (phase_behind b) c ps v cs e before) (item_state (n + 1 + length ls + 1) among_items (c + 1 + length ls + 1) ps v cs e after) (item_state (n + (length ls + 2)) among_items (c + (length ls + 2)) ps v cs e after)
    (foot_line v class ∷ (leaf_texts ls ++ codes "endfoot" ∷ []))
    (same_items (n + 1 + length ls + 1) (n + (length ls + 2)) among_items (c + 1 + length ls + 1) (c + (length ls + 2)) ps v cs e after after (omega arith) (omega arith) refl)
    (then_lines (item_state n (phase_behind b) c ps v cs e before) (foot_state (n + 1) (c + 1) ps v cs before e class (n + 1) []) (item_state (n + 1 + length ls + 1) among_items (c + 1 + length ls + 1) ps v cs e after)
    (foot_line v class ∷ []) (leaf_texts ls ++ codes "endfoot" ∷ []) opened
    (then_lines (foot_state (n + 1) (c + 1) ps v cs before e class (n + 1) []) (foot_state (n + 1 + length ls) (c + 1 + length ls) ps v cs before e class (n + 1) (numbered_leaves (n + 1 + 1) ls)) (item_state (n + 1 + length ls + 1) among_items (c + 1 + length ls + 1) ps v cs e after)
    (leaf_texts ls) (codes "endfoot" ∷ []) inner closed))

-- ---- items

-- what stands before an item that comes after these, and a count of their lines
pub record Stood (b : Behind) (c : ℕ) (before : List Item) : Type 0 where
  pub behind : behind_items behind_nothing before ≡ b
  pub count : is_nothing b ≡ false → 1 ≤ c

pub none_stood : (c : ℕ) → Stood behind_nothing c []
none_stood c = record { behind = refl; count = λ some. cc }

same_behind : (b : Behind) (m : ℕ) (k : ItemKind) → behind_after b (numbered_kind m k) ≡ behind_after b k
unfolding numbered_kind
same_behind b m (items.Hbox name h d) = refl
same_behind b m k = refl

stood_more : (b : Behind) (c m : ℕ) (before : List Item) (k : ItemKind) → Stood b c before → Stood (behind_after b k) (c + weight_of k) (before ++ record { line = m; kind = numbered_kind m k } ∷ [])
stood_more b c m before k stood =
    let some : 1 ≤ weight_of k = some_weight k in
    record {
      behind = behind-append behind_nothing before (record { line = m; kind = numbered_kind m k }) ∙ ap (λ x. behind_after x (numbered_kind m k)) stood.behind ∙ same_behind b m k;
      count = λ nothing. omega arith;
    }

plain_run : (n : ℕ) (b : Behind) (c : ℕ) (ps : Params) (v : ℕ) (cs : List ClassLine) (e : ℕ) (before : List Item) (k : LeafKind) → c + 1 ≤ 100000 → is_leaf k ≡ true
    → Runs (item_state n (phase_behind b) c ps v cs e before) (leaf_line k ∷ []) (item_state (n + 1) among_items (c + 1) ps v cs e (before ++ record { line = n + 1; kind = item_kind k } ∷ []))
unfolding leaf_line
plain_run n b c ps v cs e before k few good =
    goes_runs n (phase_behind b) among_items c (drafted ps v cs before None e) (leaf_word k) (leaf_fields k) (λ m. contents.Plain k) few (leaf_here (known_by v cs) k) (leaf_back (known_by v cs) k good) (leaf_goes b (asked_place v (leaf_fields k)) c k)

single_run : (n : ℕ) (b : Behind) (c : ℕ) (ps : Params) (v : ℕ) (cs : List ClassLine) (e : ℕ) (before : List Item) (line : ℕ) (k : ItemKind) → c + 1 ≤ 100000 → is_single k ≡ true → is_item line k ≡ true → fits_kind v k ≡ true → fits_word v k ≡ true → may_come b k ≡ true
    → Runs (item_state n (phase_behind b) c ps v cs e before) (item_line k ∷ []) (item_state (n + 1) (phase_behind (behind_after b k)) (c + 1) ps v cs e (before ++ record { line = n + 1; kind = on_line_kind (n + 1) k } ∷ []))
single_run n b c ps v cs e before line k few single good kind fit stands =
    goes_runs n (phase_behind b) (phase_behind (behind_after b k)) c (drafted ps v cs before None e) (item_word k) (item_fields k) (λ m. contents.Item (on_line_kind m k)) few (item_here (known_by v cs) k fit) (item_back (known_by v cs) line k single good kind)
    (single_goes b (asked_place v (item_fields k)) c k single stands)

-- a parameter that is set is read back
change_back : (v : ℕ) (cs : List ClassLine) (x : Change) → is_item 0 (items.Set x) ≡ true → (v == 3) ≡ true → ReadsAs (known_by v cs) setting (change_fields x) (λ m. contents.Set x.field x.value)
change_back v cs x good last =
    subst (λ f. ReadsAs (known_by v cs) setting (change_fields x) (λ m. contents.Set f x.value)) (own-row x.field)
    (set_back (known_by v cs) (row_of_field x.field) x.value (row_found x.field) (row_in_last v x.field last) (row_plain x.field) good)

change_run : (n : ℕ) (b : Behind) (c : ℕ) (ps : Params) (v : ℕ) (cs : List ClassLine) (e : ℕ) (before : List Item) (x : Change) → Stood b c before → c + 1 ≤ 100000 → is_item 0 (items.Set x) ≡ true → (v == 3) ≡ true → may_set b (set_place x.field) ≡ true
    → Runs (item_state n (phase_behind b) c ps v cs e before) (change_line x ∷ []) (item_state (n + 1) (phase_behind b) (c + 1) ps v cs e (before ++ record { line = n + 1; kind = items.Set x } ∷ []))
change_run n b c ps v cs e [] x stood few good last may =
    let no : may_set behind_nothing (set_place x.field) ≡ true = subst (λ y. may_set y (set_place x.field) ≡ true) (sym stood.behind) may in cc
change_run n b c ps v cs e (i ∷ before) x stood few good last may =
    goes_runs n (phase_behind b) (phase_behind b) c (drafted ps v cs (i ∷ before) None e) setting (change_fields x) (λ m. contents.Set x.field x.value) few refl (change_back v cs x good last)
    (set_goes b (asked_place v (change_fields x)) (set_place x.field) c (asked_is v x.field (value_fields x.value) last) may (stood.count (comes-after b (items.Set x) may)))

item_run : (n : ℕ) (b : Behind) (c : ℕ) (ps : Params) (v : ℕ) (cs : List ClassLine) (e : ℕ) (before : List Item) (line : ℕ) (k : ItemKind) → HasClasses v cs → Stood b c before → has_known_class (numbers_of cs) k ≡ true → c + weight_of k ≤ 100000 → is_item line k ≡ true → fits_kind v k ≡ true → fits_word v k ≡ true → may_come b k ≡ true
    → Runs (item_state n (phase_behind b) c ps v cs e before) (kind_lines v k) (item_state (n + weight_of k) (phase_behind (behind_after b k)) (c + weight_of k) ps v cs e (before ++ record { line = n + 1; kind = numbered_kind (n + 1) k } ∷ []))
unfolding kind_lines numbered_kind leaf_line
item_run n b c ps v cs e before line (items.Hbox name h d) has stood known few good kind fit stands = plain_run n b c ps v cs e before (leaves.Hbox name h d) few good
item_run n b c ps v cs e before line (items.Rule name h d) has stood known few good kind fit stands = plain_run n b c ps v cs e before (leaves.Rule name h d) few good
item_run n b c ps v cs e before line (items.Skip g) has stood known few good kind fit stands = plain_run n b c ps v cs e before (leaves.Skip g) few good
item_run n b c ps v cs e before line (items.Kern w) has stood known few good kind fit stands = plain_run n b c ps v cs e before (leaves.Kern w) few good
item_run n b c ps v cs e before line (items.Penalty k) has stood known few good kind fit stands = plain_run n b c ps v cs e before (leaves.Penalty k) few good
item_run n b c ps v cs e before line (items.Foot class ls) has stood known few good kind fit stands = foot_run n b c ps v cs e before class ls has known few good
item_run n b c ps v cs e before line (items.Set x) has stood known few good kind fit stands = change_run n b c ps v cs e before x stood few good fit stands
item_run n b c ps v cs e before line k has stood known few good kind fit stands = single_run n b c ps v cs e before line k few refl good kind fit stands

abbrev pub item_texts : ℕ → List Item → List (List ℕ)
item_texts v [] = []
item_texts v (i ∷ is) = kind_lines v i.kind ++ item_texts v is

pub items_run : (n : ℕ) (b : Behind) (c : ℕ) (ps : Params) (v : ℕ) (cs : List ClassLine) (e : ℕ) (before is : List Item) → HasClasses v cs → Stood b c before → c + weight is ≤ 100000
    → list_all (λ (i : Item). is_item i.line i.kind) is ≡ true → list_all (λ (i : Item). has_known_class (numbers_of cs) i.kind) is ≡ true → list_all (λ (i : Item). fits_kind v i.kind) is ≡ true
    → list_all (λ (i : Item). fits_word v i.kind) is ≡ true → do_items_stand b is ≡ true
    → Runs (item_state n (phase_behind b) c ps v cs e before) (item_texts v is) (item_state (n + weight is) (phase_behind (behind_items b is)) (c + weight is) ps v cs e (before ++ numbered_items (n + 1) is))
unfolding numbered_items
items_run n b c ps v cs e before [] has stood few good known kinds fit stands =
    to_state (item_state n (phase_behind b) c ps v cs e before) (item_state n (phase_behind b) c ps v cs e before) (item_state (n + 0) (phase_behind b) (c + 0) ps v cs e (before ++ [])) []
    (same_items n (n + 0) (phase_behind b) c (c + 0) ps v cs e before (before ++ []) (omega arith) (omega arith) (sym (append-nil before)))
    (no_lines (item_state n (phase_behind b) c ps v cs e before))
items_run n b c ps v cs e before (i ∷ is) has stood few good known kinds fit stands =
    let k : ℕ = weight_of i.kind in
    let item : Item = record { line = n + 1; kind = numbered_kind (n + 1) i.kind } in
    then_lines (item_state n (phase_behind b) c ps v cs e before) (item_state (n + weight_of i.kind) (phase_behind (behind_after b i.kind)) (c + weight_of i.kind) ps v cs e (before ++ item ∷ []))
    (item_state (n + weight (i ∷ is)) (phase_behind (behind_items b (i ∷ is))) (c + weight (i ∷ is)) ps v cs e (before ++ item ∷ numbered_items (n + 1 + weight_of i.kind) is)) (kind_lines v i.kind) (item_texts v is)
    (item_run n b c ps v cs e before i.line i.kind has stood (first_so (has_known_class (numbers_of cs) i.kind) (list_all (λ (j : Item). has_known_class (numbers_of cs) j.kind) is) known) (omega arith)
    (first_so (is_item i.line i.kind) (list_all (λ (j : Item). is_item j.line j.kind) is) good) (first_so (fits_kind v i.kind) (list_all (λ (j : Item). fits_kind v j.kind) is) kinds) (first_so (fits_word v i.kind) (list_all (λ (j : Item). fits_word v j.kind) is) fit)
    (first_so (may_come b i.kind) (do_items_stand (behind_after b i.kind) is) stands))
    (to_state (item_state (n + weight_of i.kind) (phase_behind (behind_after b i.kind)) (c + weight_of i.kind) ps v cs e (before ++ item ∷ []))
    (item_state (n + weight_of i.kind + weight is) (phase_behind (behind_items (behind_after b i.kind) is)) (c + weight_of i.kind + weight is) ps v cs e ((before ++ item ∷ []) ++ numbered_items (n + weight_of i.kind + 1) is))
    (item_state (n + weight (i ∷ is)) (phase_behind (behind_items b (i ∷ is))) (c + weight (i ∷ is)) ps v cs e (before ++ item ∷ numbered_items (n + 1 + weight_of i.kind) is)) (item_texts v is)
    (same_items (n + weight_of i.kind + weight is) (n + weight (i ∷ is)) (phase_behind (behind_items (behind_after b i.kind) is)) (c + weight_of i.kind + weight is) (c + weight (i ∷ is)) ps v cs e ((before ++ item ∷ []) ++ numbered_items (n + weight_of i.kind + 1) is) (before ++ item ∷ numbered_items (n + 1 + weight_of i.kind) is)
    (omega arith) (omega arith) (append_assoc before (item ∷ []) (numbered_items (n + weight_of i.kind + 1) is) ∙ ap (λ m. before ++ item ∷ numbered_items m is) (omega arith)))
    (items_run (n + weight_of i.kind) (behind_after b i.kind) (c + weight_of i.kind) ps v cs e (before ++ item ∷ []) is has (stood_more b c (n + 1) before i.kind stood) (omega arith)
    (second_so (is_item i.line i.kind) (list_all (λ (j : Item). is_item j.line j.kind) is) good) (second_so (has_known_class (numbers_of cs) i.kind) (list_all (λ (j : Item). has_known_class (numbers_of cs) j.kind) is) known) (second_so (fits_kind v i.kind) (list_all (λ (j : Item). fits_kind v j.kind) is) kinds)
    (second_so (fits_word v i.kind) (list_all (λ (j : Item). fits_word v j.kind) is) fit)
    (second_so (may_come b i.kind) (do_items_stand (behind_after b i.kind) is) stands)))
