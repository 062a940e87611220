-- Each kind of line of the canonical text is read back.
use Rattle.std.proofs.Common.{◌≡◌, ℕ, ◌<◌, ◌≤◌, ℤ, pos, negsuc, nat_abs, Bool, true, false, not, ◌&&◌, ◌||◌, ◌==◌, nat_le, List, [], ◌∷◌, ◌++◌, length, Some, None, if◌then◌else◌, refl, ap, sym, subst, ◌∙◌, arith, append_assoc}
use Rattle.std.specs.Cmp.{first_so, second_so}
use Rattle.std.specs.Prelude.{codes, decimal, bytes_eq}
use Rattle.std.specs.Fmt.{signed_decimal}
use Rattle.std.specs.List.{list_all}
use Rattle.std.proofs.lemmas.Bool.{eqb-true}
use Rattle.std.proofs.lemmas.Bool.Decides.{nat_tests}
use Rattle.tb_node.specs.Names.{is_name, is_between}
use Rattle.tb_node.specs.declared.Area.{Area}
use Rattle.tb_node.specs.declared.Area.TheVariants as areas
use Rattle.tb_node.specs.declared.Places.{Places}
use Rattle.tb_node.specs.declared.Float.{Float}
use Rattle.tb_node.specs.declared.Margin.{Margin}
use Rattle.tb_text.specs.Numbers.{integer_of, dimension_of}
use Rattle.tb_param.specs.Table.{is_within, is_dimen}
use Rattle.tb_galley.specs.declared.Cause.TheVariants as causes
use Rattle.tb_galley.specs.declared.contents.Content.TheVariants as contents
use Rattle.tb_galley.specs.declared.ItemKind.{ItemKind}
use Rattle.tb_galley.specs.declared.ItemKind.TheVariants as items
use Rattle.tb_galley.specs.declared.LeafKind.{LeafKind}
use Rattle.tb_galley.specs.declared.LeafKind.TheVariants as leaves
use Rattle.tb_galley.specs.Words.{LineWord, setting, Known, hbox, rule, skip, kern, penalty, mark, note, foot, float, margin, newpage, clearpage, pagebreak, nopagebreak, onecolumn, twocolumn, suppressfloats, page_number, title, enlarge}
use Rattle.tb_galley.specs.Fields.{name_slot, least_slot, range_slot, word_slot, word_slots, nobreak_slots, star_slots, are_places}
use Rattle.tb_galley.specs.Faults.{is_printable}
use Rattle.tb_galley.specs.Grammar.{read_or, is_at, content_of, places_at, has_byte}
use Rattle.tb_galley.specs.CanonicalText.{places_text, text_if, sized_text, leaf_text, paragraph_text, ending_text, wide_text, float_text, margin_text, head_text, enlarge_text, item_text}
use Rattle.tb_text.specs.Fields.{and_number, and_text, line, and_count}
use Rattle.tb_galley.specs.Valid.{is_size, is_leaf, is_float, is_margin, is_head, is_top_alone, is_item, is_both, fits_kind}
use Rattle.tb_galley.proofs.FieldTexts.{IsFit, AllFit, tail_text, tail_length, nothing_more}
use Rattle.tb_galley.proofs.SlotTexts.{ReadsAs, within_small, dimen_small, dimension_fit, size_fit, range_fit, name_text, name_fit, spelling, dimension_read, integer_read, size_small, dimen_length, glue_fields, glue_is, word_text, glue_fit, glue_short, glue_back}

-- ---- boxes, rules, glue, kerns and penalties

abbrev pub leaf_word : LeafKind → LineWord
leaf_word (leaves.Hbox name h d) = hbox
leaf_word (leaves.Rule name h d) = rule
leaf_word (leaves.Skip g) = skip
leaf_word (leaves.Kern w) = kern
leaf_word (leaves.Penalty p) = penalty

abbrev pub leaf_fields : LeafKind → List (List ℕ)
leaf_fields (leaves.Hbox name h d) = name ∷ signed_decimal h ∷ signed_decimal d ∷ []
leaf_fields (leaves.Rule name h d) = name ∷ signed_decimal h ∷ signed_decimal d ∷ []
leaf_fields (leaves.Skip g) = glue_fields g
leaf_fields (leaves.Kern w) = signed_decimal w ∷ []
leaf_fields (leaves.Penalty p) = signed_decimal p ∷ []

sized_is : (name : List ℕ) (h d : ℤ) → sized_text name h d ≡ tail_text (name ∷ signed_decimal h ∷ signed_decimal d ∷ [])
sized_is name h d = simp (append_assoc, nothing_more)

number_is : (z : ℤ) → and_number z ≡ tail_text (signed_decimal z ∷ [])
number_is z = ap (λ t. 32 ∷ t) (sym (nothing_more (signed_decimal z)))

pub leaf_is : (k : LeafKind) → leaf_text k ≡ spelling (leaf_word k) ++ tail_text (leaf_fields k)
leaf_is (leaves.Hbox name h d) = ap (λ t. codes "box" ++ t) (sized_is name h d)
leaf_is (leaves.Rule name h d) = ap (λ t. codes "rule" ++ t) (sized_is name h d)
leaf_is (leaves.Skip g) = ap (λ t. codes "glue" ++ t) (glue_is g)
leaf_is (leaves.Kern w) = ap (λ t. codes "kern" ++ t) (number_is w)
leaf_is (leaves.Penalty p) = ap (λ t. codes "penalty" ++ t) (number_is p)

record SizedBack (name : List ℕ) (h d : ℤ) : Type 0 where
  fit : AllFit (name_slot ∷ least_slot (pos 0) causes.Dimension ∷ least_slot (pos 0) causes.Dimension ∷ []) (name ∷ signed_decimal h ∷ signed_decimal d ∷ [])
  short : tail_length (name ∷ signed_decimal h ∷ signed_decimal d ∷ []) ≤ 100
  height : read_or (pos 0) (dimension_of (signed_decimal h)) ≡ h
  depth : read_or (pos 0) (dimension_of (signed_decimal d)) ≡ d

sized_back : (name : List ℕ) (h d : ℤ) → (is_name name && is_size h && is_size d) ≡ true → SizedBack name h d
sized_back name h d good =
    let front : (is_name name && is_size h) ≡ true = first_so (is_name name && is_size h) (is_size d) good in
    let named : is_name name ≡ true = first_so (is_name name) (is_size h) front in
    let high : is_size h ≡ true = second_so (is_name name) (is_size h) front in
    let deep : is_size d ≡ true = second_so (is_name name && is_size h) (is_size d) good in
    let a : length (signed_decimal h) ≤ 11 = dimen_length h (size_small h high) in
    let b : length (signed_decimal d) ≤ 11 = dimen_length d (size_small d deep) in
    record {
      fit = (name_fit name named, (size_fit h high, (size_fit d deep, tt)));
      short = omega (arith, (name_text name named).short);
      height = dimension_read h (size_small h high);
      depth = dimension_read d (size_small d deep);
    }

pub leaf_back : (known : Known) (k : LeafKind) → is_leaf k ≡ true → ReadsAs known (leaf_word k) (leaf_fields k) (λ n. contents.Plain k)
leaf_back known (leaves.Hbox name h d) good =
    let sized : SizedBack name h d = sized_back name h d good in
    record { fit = sized.fit; short = omega (arith, sized.short); content = λ n. (λ i. contents.Plain (leaves.Hbox name (sized.height i) (sized.depth i))) }
leaf_back known (leaves.Rule name h d) good =
    let sized : SizedBack name h d = sized_back name h d good in
    record { fit = sized.fit; short = omega (arith, sized.short); content = λ n. (λ i. contents.Plain (leaves.Rule name (sized.height i) (sized.depth i))) }
leaf_back known (leaves.Skip g) good = record { fit = glue_fit g good; short = omega (arith, glue_short g good); content = λ n. ap (λ x. contents.Plain (leaves.Skip x)) (glue_back g good) }
leaf_back known (leaves.Kern w) good =
    let short : length (signed_decimal w) ≤ 11 = dimen_length w (dimen_small w good) in
    record { fit = (dimension_fit w good, tt); short = omega arith; content = λ n. ap (λ x. contents.Plain (leaves.Kern x)) (dimension_read w (dimen_small w good)) }
leaf_back known (leaves.Penalty p) good =
    let small : nat_abs p ≤ 10000 = within_small (negsuc 9999) (pos 10000) p 10000 (omega arith) (omega arith) good in
    let short : length (signed_decimal p) ≤ 11 = dimen_length p (omega arith) in
    record { fit = (range_fit (negsuc 9999) (pos 10000) causes.Penalty p (omega arith) (omega arith) good, tt); short = omega arith; content = λ n. ap (λ x. contents.Plain (leaves.Penalty x)) (integer_read p (omega arith)) }

-- ---- floats

abbrev places_field : Bool → Places → List ℕ
places_field bang p = text_if bang (codes "!") ++ text_if p.h (codes "h") ++ text_if p.t (codes "t") ++ text_if p.b (codes "b") ++ text_if p.p (codes "p")

abbrev placed : Bool → Bool → Bool → Bool → Places
placed h t b p = record { h = h; t = t; b = b; p = p }

record PlacesBack (bang : Bool) (p : Places) : Type 0 where
  printable : list_all is_printable (places_field bang p) ≡ true
  some : 0 < length (places_field bang p)
  short : length (places_field bang p) ≤ 5
  ok : are_places (places_field bang p) ≡ true
  at : places_at (places_field bang p) ≡ p
  banged : has_byte 33 (places_field bang p) ≡ bang

places_back : (bang h t b p : Bool) → (h || t || b || p) ≡ true → PlacesBack bang (placed h t b p)
places_back true true true true true some = record { printable = refl; some = omega arith; short = omega arith; ok = refl; at = refl; banged = refl }
places_back true true true true false some = record { printable = refl; some = omega arith; short = omega arith; ok = refl; at = refl; banged = refl }
places_back true true true false true some = record { printable = refl; some = omega arith; short = omega arith; ok = refl; at = refl; banged = refl }
places_back true true true false false some = record { printable = refl; some = omega arith; short = omega arith; ok = refl; at = refl; banged = refl }
places_back true true false true true some = record { printable = refl; some = omega arith; short = omega arith; ok = refl; at = refl; banged = refl }
places_back true true false true false some = record { printable = refl; some = omega arith; short = omega arith; ok = refl; at = refl; banged = refl }
places_back true true false false true some = record { printable = refl; some = omega arith; short = omega arith; ok = refl; at = refl; banged = refl }
places_back true true false false false some = record { printable = refl; some = omega arith; short = omega arith; ok = refl; at = refl; banged = refl }
places_back true false true true true some = record { printable = refl; some = omega arith; short = omega arith; ok = refl; at = refl; banged = refl }
places_back true false true true false some = record { printable = refl; some = omega arith; short = omega arith; ok = refl; at = refl; banged = refl }
places_back true false true false true some = record { printable = refl; some = omega arith; short = omega arith; ok = refl; at = refl; banged = refl }
places_back true false true false false some = record { printable = refl; some = omega arith; short = omega arith; ok = refl; at = refl; banged = refl }
places_back true false false true true some = record { printable = refl; some = omega arith; short = omega arith; ok = refl; at = refl; banged = refl }
places_back true false false true false some = record { printable = refl; some = omega arith; short = omega arith; ok = refl; at = refl; banged = refl }
places_back true false false false true some = record { printable = refl; some = omega arith; short = omega arith; ok = refl; at = refl; banged = refl }
places_back true false false false false some = cc
places_back false true true true true some = record { printable = refl; some = omega arith; short = omega arith; ok = refl; at = refl; banged = refl }
places_back false true true true false some = record { printable = refl; some = omega arith; short = omega arith; ok = refl; at = refl; banged = refl }
places_back false true true false true some = record { printable = refl; some = omega arith; short = omega arith; ok = refl; at = refl; banged = refl }
places_back false true true false false some = record { printable = refl; some = omega arith; short = omega arith; ok = refl; at = refl; banged = refl }
places_back false true false true true some = record { printable = refl; some = omega arith; short = omega arith; ok = refl; at = refl; banged = refl }
places_back false true false true false some = record { printable = refl; some = omega arith; short = omega arith; ok = refl; at = refl; banged = refl }
places_back false true false false true some = record { printable = refl; some = omega arith; short = omega arith; ok = refl; at = refl; banged = refl }
places_back false true false false false some = record { printable = refl; some = omega arith; short = omega arith; ok = refl; at = refl; banged = refl }
places_back false false true true true some = record { printable = refl; some = omega arith; short = omega arith; ok = refl; at = refl; banged = refl }
places_back false false true true false some = record { printable = refl; some = omega arith; short = omega arith; ok = refl; at = refl; banged = refl }
places_back false false true false true some = record { printable = refl; some = omega arith; short = omega arith; ok = refl; at = refl; banged = refl }
places_back false false true false false some = record { printable = refl; some = omega arith; short = omega arith; ok = refl; at = refl; banged = refl }
places_back false false false true true some = record { printable = refl; some = omega arith; short = omega arith; ok = refl; at = refl; banged = refl }
places_back false false false true false some = record { printable = refl; some = omega arith; short = omega arith; ok = refl; at = refl; banged = refl }
places_back false false false false true some = record { printable = refl; some = omega arith; short = omega arith; ok = refl; at = refl; banged = refl }
places_back false false false false false some = cc

-- ---- items that may only be outside footnotes

pub wide_field : Bool → List ℕ
wide_field wide = if wide then codes "double" else codes "single"

pub paragraph_field : Bool → List ℕ
paragraph_field vert = if vert then codes "vert" else codes "par"

pub area_fields : Area → List (List ℕ)
area_fields areas.All = []
area_fields areas.Top = codes "t" ∷ []
area_fields areas.Bottom = codes "b" ∷ []

pub nobreak_fields : Bool → List (List ℕ)
nobreak_fields nobreak = if nobreak then codes "nobreak" ∷ [] else []

pub star_fields : Bool → List (List ℕ)
star_fields star = if star then codes "star" ∷ [] else []

abbrev float_fields : Float → Bool → List (List ℕ)
float_fields f vert = f.name ∷ decimal f.class ∷ wide_field f.wide ∷ places_field f.bang f.places ∷ signed_decimal f.height ∷ paragraph_field vert ∷ nobreak_fields f.nobreak

abbrev margin_fields : Margin → Bool → List (List ℕ)
margin_fields m vert = m.name ∷ signed_decimal m.left_height ∷ signed_decimal m.left_depth ∷ signed_decimal m.right_height ∷ signed_decimal m.right_depth ∷ paragraph_field vert ∷ nobreak_fields m.nobreak

-- the kinds of items but boxes, rules, glue, kerns, penalties and footnotes
abbrev pub is_single : ItemKind → Bool
is_single (items.Hbox name h d) = false
is_single (items.Rule name h d) = false
is_single (items.Skip g) = false
is_single (items.Kern w) = false
is_single (items.Penalty p) = false
is_single (items.Mark name) = true
is_single (items.Note name) = true
is_single (items.Foot class ls) = false
is_single (items.Float f vert) = true
is_single (items.Margin m vert) = true
is_single items.NewPage = true
is_single items.ClearPage = true
is_single (items.PageBreak k) = true
is_single (items.NoPageBreak k) = true
is_single items.OneColumn = true
is_single items.TwoColumn = true
is_single (items.Suppress area) = true
is_single (items.Page n) = true
is_single (items.Head f) = true
is_single (items.Enlarge by star) = true
is_single (items.Set c) = false

abbrev pub item_word : ItemKind → LineWord
item_word (items.Hbox name h d) = hbox
item_word (items.Rule name h d) = rule
item_word (items.Skip g) = skip
item_word (items.Kern w) = kern
item_word (items.Penalty p) = penalty
item_word (items.Mark name) = mark
item_word (items.Note name) = note
item_word (items.Foot class ls) = foot
item_word (items.Float f vert) = float
item_word (items.Margin m vert) = margin
item_word items.NewPage = newpage
item_word items.ClearPage = clearpage
item_word (items.PageBreak k) = pagebreak
item_word (items.NoPageBreak k) = nopagebreak
item_word items.OneColumn = onecolumn
item_word items.TwoColumn = twocolumn
item_word (items.Suppress area) = suppressfloats
item_word (items.Page n) = page_number
item_word (items.Head f) = title
item_word (items.Enlarge by star) = enlarge
item_word (items.Set c) = setting

abbrev pub item_fields : ItemKind → List (List ℕ)
item_fields (items.Hbox name h d) = leaf_fields (leaves.Hbox name h d)
item_fields (items.Rule name h d) = leaf_fields (leaves.Rule name h d)
item_fields (items.Skip g) = leaf_fields (leaves.Skip g)
item_fields (items.Kern w) = leaf_fields (leaves.Kern w)
item_fields (items.Penalty p) = leaf_fields (leaves.Penalty p)
item_fields (items.Mark name) = name ∷ []
item_fields (items.Note name) = name ∷ []
item_fields (items.Foot class ls) = []
item_fields (items.Float f vert) = float_fields f vert
item_fields (items.Margin m vert) = margin_fields m vert
item_fields items.NewPage = []
item_fields items.ClearPage = []
item_fields (items.PageBreak k) = decimal k ∷ []
item_fields (items.NoPageBreak k) = decimal k ∷ []
item_fields items.OneColumn = []
item_fields items.TwoColumn = []
item_fields (items.Suppress area) = area_fields area
item_fields (items.Page n) = decimal n ∷ []
item_fields (items.Head f) = f.name ∷ signed_decimal f.height ∷ []
item_fields (items.Enlarge by star) = signed_decimal by ∷ star_fields star
item_fields (items.Set c) = []

-- the line of an item that is no footnote
abbrev pub item_line : ItemKind → List ℕ
item_line k = spelling (item_word k) ++ tail_text (item_fields k)

wide_is : (wide : Bool) → wide_text wide ≡ 32 ∷ wide_field wide
unfolding wide_field
wide_is true = refl
wide_is false = refl

paragraph_is : (vert : Bool) → paragraph_text vert ≡ 32 ∷ paragraph_field vert
unfolding paragraph_field
paragraph_is true = refl
paragraph_is false = refl

joins : (w a : List ℕ) (fs : List (List ℕ)) → (w ++ 32 ∷ a) ++ tail_text fs ≡ w ++ tail_text (a ∷ fs)
joins w a fs = append_assoc w (32 ∷ a) (tail_text fs)

nobreak_is : (nobreak : Bool) → text_if nobreak (codes " nobreak") ≡ tail_text (nobreak_fields nobreak)
unfolding nobreak_fields
nobreak_is true = refl
nobreak_is false = refl

-- six fields, one after the other, and others
six : (w a b c d e f : List ℕ) (fs : List (List ℕ)) → ((((((w ++ 32 ∷ a) ++ 32 ∷ b) ++ 32 ∷ c) ++ 32 ∷ d) ++ 32 ∷ e) ++ 32 ∷ f) ++ tail_text fs ≡ w ++ tail_text (a ∷ b ∷ c ∷ d ∷ e ∷ f ∷ fs)
six w a b c d e f fs =
    joins (((((w ++ 32 ∷ a) ++ 32 ∷ b) ++ 32 ∷ c) ++ 32 ∷ d) ++ 32 ∷ e) f fs
    ∙ joins ((((w ++ 32 ∷ a) ++ 32 ∷ b) ++ 32 ∷ c) ++ 32 ∷ d) e (f ∷ fs)
    ∙ joins (((w ++ 32 ∷ a) ++ 32 ∷ b) ++ 32 ∷ c) d (e ∷ f ∷ fs)
    ∙ joins ((w ++ 32 ∷ a) ++ 32 ∷ b) c (d ∷ e ∷ f ∷ fs)
    ∙ joins (w ++ 32 ∷ a) b (c ∷ d ∷ e ∷ f ∷ fs)
    ∙ joins w a (b ∷ c ∷ d ∷ e ∷ f ∷ fs)

in_turn : (w a b c d e f : List ℕ) → ((w ++ ((a ++ b) ++ c)) ++ (d ++ e)) ++ f ≡ (((((w ++ a) ++ b) ++ c) ++ d) ++ e) ++ f
in_turn w a b c d e f =
    ap (λ t. t ++ f)
    (sym (append_assoc (w ++ ((a ++ b) ++ c)) d e) ∙ ap (λ t. (t ++ d) ++ e) (sym (append_assoc w (a ++ b) c) ∙ ap (λ t. t ++ c) (sym (append_assoc w a b))))

float_is : (f : Float) (vert : Bool) → float_text f ++ ending_text vert f.nobreak ≡ codes "float" ++ tail_text (float_fields f vert)
float_is f vert =
    (λ i. (codes "float" ++ and_text f.name ++ and_count f.class ++ wide_is f.wide i ++ places_text f.bang f.places ++ and_number f.height) ++ (paragraph_is vert i ++ nobreak_is f.nobreak i))
    ∙ sym (append_assoc (codes "float" ++ and_text f.name ++ and_count f.class ++ 32 ∷ wide_field f.wide ++ places_text f.bang f.places ++ and_number f.height) (32 ∷ paragraph_field vert) (tail_text (nobreak_fields f.nobreak)))
    ∙ six (codes "float") f.name (decimal f.class) (wide_field f.wide) (places_field f.bang f.places) (signed_decimal f.height) (paragraph_field vert) (nobreak_fields f.nobreak)

margin_is : (m : Margin) (vert : Bool) → margin_text m ++ ending_text vert m.nobreak ≡ codes "margin" ++ tail_text (margin_fields m vert)
margin_is m vert =
    (λ i. margin_text m ++ (paragraph_is vert i ++ nobreak_is m.nobreak i))
    ∙ sym (append_assoc (margin_text m) (32 ∷ paragraph_field vert) (tail_text (nobreak_fields m.nobreak)))
    ∙ ap (λ t. t ++ tail_text (nobreak_fields m.nobreak)) (in_turn (codes "margin") (and_text m.name) (and_number m.left_height) (and_number m.left_depth) (and_number m.right_height) (and_number m.right_depth) (32 ∷ paragraph_field vert))
    ∙ six (codes "margin") m.name (signed_decimal m.left_height) (signed_decimal m.left_depth) (signed_decimal m.right_height) (signed_decimal m.right_depth) (paragraph_field vert) (nobreak_fields m.nobreak)

head_is : (f : Float) → head_text f ≡ codes "head" ++ tail_text (f.name ∷ signed_decimal f.height ∷ [])
head_is f = ap (λ t. codes "head" ++ and_text f.name ++ t) (number_is f.height) ∙ joins (codes "head") f.name (signed_decimal f.height ∷ [])

star_is : (star : Bool) → text_if star (codes " star") ≡ tail_text (star_fields star)
unfolding star_fields
star_is true = refl
star_is false = refl

enlarge_is : (by : ℤ) (star : Bool) → enlarge_text by star ≡ codes "enlarge" ++ tail_text (signed_decimal by ∷ star_fields star)
enlarge_is by star = ap (λ t. codes "enlarge" ++ and_number by ++ t) (star_is star) ∙ joins (codes "enlarge") (signed_decimal by) (star_fields star)

pub item_is : (version : ℕ) (k : ItemKind) → is_single k ≡ true → item_text version k ≡ line (item_line k)
unfolding area_fields
item_is version (items.Mark name) single = ap (λ t. line (codes "mark " ++ t)) (sym (nothing_more name))
item_is version (items.Note name) single = ap (λ t. line (codes "note " ++ t)) (sym (nothing_more name))
item_is version (items.Float f vert) single = ap line (float_is f vert)
item_is version (items.Margin m vert) single = ap line (margin_is m vert)
item_is version items.NewPage single = refl
item_is version items.ClearPage single = refl
item_is version (items.PageBreak k) single = ap (λ t. line (codes "pagebreak " ++ t)) (sym (nothing_more (decimal k)))
item_is version (items.NoPageBreak k) single = ap (λ t. line (codes "nopagebreak " ++ t)) (sym (nothing_more (decimal k)))
item_is version items.OneColumn single = refl
item_is version items.TwoColumn single = refl
item_is version (items.Suppress areas.All) single = refl
item_is version (items.Suppress a) single = refl
item_is version (items.Page n) single = ap (λ t. line (codes "page " ++ t)) (sym (nothing_more (decimal n)))
item_is version (items.Head f) single = ap line (head_is f)
item_is version (items.Enlarge by star) single = ap line (enlarge_is by star)
item_is version k single = cc

-- an item with this line in it
abbrev pub on_line_kind : ℕ → ItemKind → ItemKind
on_line_kind n (items.Hbox name h d) = items.Hbox name h d
on_line_kind n (items.Rule name h d) = items.Rule name h d
on_line_kind n (items.Skip g) = items.Skip g
on_line_kind n (items.Kern w) = items.Kern w
on_line_kind n (items.Penalty p) = items.Penalty p
on_line_kind n (items.Mark name) = items.Mark name
on_line_kind n (items.Note name) = items.Note name
on_line_kind n (items.Foot class ls) = items.Foot class ls
on_line_kind n (items.Float f vert) = items.Float (record f { line = n }) vert
on_line_kind n (items.Margin m vert) = items.Margin (record m { line = n }) vert
on_line_kind n items.NewPage = items.NewPage
on_line_kind n items.ClearPage = items.ClearPage
on_line_kind n (items.PageBreak k) = items.PageBreak k
on_line_kind n (items.NoPageBreak k) = items.NoPageBreak k
on_line_kind n items.OneColumn = items.OneColumn
on_line_kind n items.TwoColumn = items.TwoColumn
on_line_kind n (items.Suppress area) = items.Suppress area
on_line_kind n (items.Page k) = items.Page k
on_line_kind n (items.Head f) = items.Head (record f { line = n })
on_line_kind n (items.Enlarge by star) = items.Enlarge by star
on_line_kind n (items.Set c) = items.Set c

record ChoiceBack (first second : List ℕ) (choice : Bool) (f : List ℕ) : Type 0 where
  fit : IsFit (word_slot (first ∷ second ∷ []) causes.UnknownWord) f
  short : length f ≤ 6
  read : bytes_eq f second ≡ choice

wide_back : (wide : Bool) → ChoiceBack (codes "single") (codes "double") wide (wide_field wide)
unfolding wide_field
wide_back true = record { fit = record { text = word_text (codes "double") refl (omega arith); slot = refl }; short = omega arith; read = refl }
wide_back false = record { fit = record { text = word_text (codes "single") refl (omega arith); slot = refl }; short = omega arith; read = refl }

paragraph_back : (vert : Bool) → ChoiceBack (codes "par") (codes "vert") vert (paragraph_field vert)
unfolding paragraph_field
paragraph_back true = record { fit = record { text = word_text (codes "vert") refl (omega arith); slot = refl }; short = omega arith; read = refl }
paragraph_back false = record { fit = record { text = word_text (codes "par") refl (omega arith); slot = refl }; short = omega arith; read = refl }

record NobreakBack (version : ℕ) (nobreak : Bool) (fs : List (List ℕ)) : Type 0 where
  fit : AllFit (nobreak_slots version fs) fs
  short : tail_length fs ≤ 8
  read : is_at fs 0 (codes "nobreak") ≡ nobreak

nobreak_back : (version : ℕ) (nobreak : Bool) → (not nobreak || (version == 3)) ≡ true → NobreakBack version nobreak (nobreak_fields nobreak)
unfolding nobreak_fields
nobreak_back version false good = record { fit = tt; short = omega arith; read = refl }
nobreak_back version true good = record {
  fit = subst (λ t. AllFit (if t then word_slot (codes "nobreak" ∷ []) causes.UnknownWord ∷ [] else []) (codes "nobreak" ∷ [])) (sym good) (record { text = word_text (codes "nobreak") refl (omega arith); slot = refl }, tt);
  short = omega arith;
  read = refl;
}

-- a flag that holds if another does, and only then
both_same : (a b : Bool) → is_both a b ≡ true → b ≡ a
both_same true b h = h
both_same false true h = cc
both_same false false h = refl

class_within : (c : ℕ) → is_between 1 26 c ≡ true → is_within (pos 1) (pos 26) (pos c) ≡ true
class_within c h = grind (arith, nat_tests)

degree_within : (k : ℕ) → nat_le k 4 ≡ true → is_within (pos 0) (pos 4) (pos k) ≡ true
degree_within k h = grind (arith, nat_tests)

float_back : (known : Known) (f : Float) (vert : Bool) → is_float f ≡ true → fits_kind known.version (items.Float f vert) ≡ true → ReadsAs known float (float_fields f vert) (λ n. contents.Item (items.Float (record f { line = n }) vert))
float_back known f vert good fits =
    let ending : NobreakBack known.version f.nobreak (nobreak_fields f.nobreak) = nobreak_back known.version f.nobreak (second_so (is_both f.deep (f.wide && (known.version == 3))) (not f.nobreak || (known.version == 3)) fits) in
    let deep : (f.wide && (known.version == 3)) ≡ f.deep = both_same f.deep (f.wide && (known.version == 3)) (first_so (is_both f.deep (f.wide && (known.version == 3))) (not f.nobreak || (known.version == 3)) fits) in
    let placing : (f.places.h || f.places.t || f.places.b || f.places.p) ≡ true = second_so (is_name f.name && is_between 1 26 f.class) (f.places.h || f.places.t || f.places.b || f.places.p) (first_so (is_name f.name && is_between 1 26 f.class && (f.places.h || f.places.t || f.places.b || f.places.p)) (is_size f.height) good) in
    let front : (is_name f.name && is_between 1 26 f.class) ≡ true = first_so (is_name f.name && is_between 1 26 f.class) (f.places.h || f.places.t || f.places.b || f.places.p) (first_so (is_name f.name && is_between 1 26 f.class && (f.places.h || f.places.t || f.places.b || f.places.p)) (is_size f.height) good) in
    let named : is_name f.name ≡ true = first_so (is_name f.name) (is_between 1 26 f.class) front in
    let classed : is_within (pos 1) (pos 26) (pos f.class) ≡ true = class_within f.class (second_so (is_name f.name) (is_between 1 26 f.class) front) in
    let high : is_size f.height ≡ true = second_so (is_name f.name && is_between 1 26 f.class && (f.places.h || f.places.t || f.places.b || f.places.p)) (is_size f.height) good in
    let places : PlacesBack f.bang f.places = places_back f.bang f.places.h f.places.t f.places.b f.places.p placing in
    let wide : ChoiceBack (codes "single") (codes "double") f.wide (wide_field f.wide) = wide_back f.wide in
    let paragraph : ChoiceBack (codes "par") (codes "vert") vert (paragraph_field vert) = paragraph_back vert in
    let small : nat_abs (pos f.class) ≤ 26 = within_small (pos 1) (pos 26) (pos f.class) 26 (omega arith) (omega arith) classed in
    let a : length (signed_decimal (pos f.class)) ≤ 11 = dimen_length (pos f.class) (omega arith) in
    let b : length (signed_decimal f.height) ≤ 11 = dimen_length f.height (size_small f.height high) in
    record {
      fit = (
        name_fit f.name named,
        (
          range_fit (pos 1) (pos 26) causes.Class (pos f.class) (omega arith) (omega arith) classed,
          (
            wide.fit,
            (
              record { text = record { printable = places.printable; some = places.some }; slot = ap (λ t. if t then None else Some causes.BadPlace) places.ok },
              (
                size_fit f.height high,
                (paragraph.fit, ending.fit),
              ),
            ),
          ),
        ),
      );
      short = omega (arith, (name_text f.name named).short, wide.short, places.short, paragraph.short, ending.short);
      content = λ n. (λ i. contents.Item (items.Float (record {
        line = n;
        name = f.name;
        class = nat_abs (integer_read (pos f.class) (omega arith) i);
        wide = wide.read i;
        places = places.at i;
        bang = places.banged i;
        height = dimension_read f.height (size_small f.height high) i;
        deep = (ap (λ t. t && (known.version == 3)) wide.read ∙ deep) i;
        nobreak = ending.read i;
      }) (paragraph.read i)));
    }

margin_back : (known : Known) (m : Margin) (vert : Bool) → is_margin m ≡ true → fits_kind known.version (items.Margin m vert) ≡ true → ReadsAs known margin (margin_fields m vert) (λ n. contents.Item (items.Margin (record m { line = n }) vert))
margin_back known m vert good fits =
    let ending : NobreakBack known.version m.nobreak (nobreak_fields m.nobreak) = nobreak_back known.version m.nobreak fits in
    let front : (is_name m.name && is_size m.left_height && is_size m.left_depth && is_size m.right_height) ≡ true = first_so (is_name m.name && is_size m.left_height && is_size m.left_depth && is_size m.right_height) (is_size m.right_depth) good in
    let fourth : is_size m.right_depth ≡ true = second_so (is_name m.name && is_size m.left_height && is_size m.left_depth && is_size m.right_height) (is_size m.right_depth) good in
    let third : is_size m.right_height ≡ true = second_so (is_name m.name && is_size m.left_height && is_size m.left_depth) (is_size m.right_height) front in
    let named : is_name m.name ≡ true =
    first_so (is_name m.name) (is_size m.left_height)
    (first_so (is_name m.name && is_size m.left_height) (is_size m.left_depth) (first_so (is_name m.name && is_size m.left_height && is_size m.left_depth) (is_size m.right_height) front)) in
    let sized : SizedBack m.name m.left_height m.left_depth =
    sized_back m.name m.left_height m.left_depth (first_so (is_name m.name && is_size m.left_height && is_size m.left_depth) (is_size m.right_height) front) in
    let paragraph : ChoiceBack (codes "par") (codes "vert") vert (paragraph_field vert) = paragraph_back vert in
    let a : length (signed_decimal m.right_height) ≤ 11 = dimen_length m.right_height (size_small m.right_height third) in
    let b : length (signed_decimal m.right_depth) ≤ 11 = dimen_length m.right_depth (size_small m.right_depth fourth) in
    record {
      fit = (sized.fit.0, (sized.fit.1.0, (sized.fit.1.1.0, (size_fit m.right_height third, (size_fit m.right_depth fourth, (paragraph.fit, ending.fit))))));
      short = omega (arith, sized.short, paragraph.short, ending.short);
      content = λ n. (λ i. contents.Item (items.Margin (record {
        line = n;
        name = m.name;
        left_height = sized.height i;
        left_depth = sized.depth i;
        right_height = dimension_read m.right_height (size_small m.right_height third) i;
        right_depth = dimension_read m.right_depth (size_small m.right_depth fourth) i;
        nobreak = ending.read i;
      }) (paragraph.read i)));
    }

-- a title: what it must have but for its name and height
pub record HeadFlags (class_is_0 wide h t b p bang deep nobreak : Bool) : Type 0 where
  class : class_is_0 ≡ true
  across : wide ≡ true
  here : h ≡ false
  top : t ≡ true
  bottom : b ≡ false
  page : p ≡ false
  all : bang ≡ true
  flat : deep ≡ false
  free : nobreak ≡ false

none_of_two : (a b : Bool) → not (a || b) ≡ true → (a ≡ false) × (b ≡ false)
none_of_two false false h = (refl, refl)
none_of_two true b h = cc
none_of_two false true h = cc

none_of_three : (a b c : Bool) → not (a || b || c) ≡ true → (a ≡ false) × ((b ≡ false) × (c ≡ false))
none_of_three false false false h = (refl, (refl, refl))
none_of_three true b c h = cc
none_of_three false true c h = cc
none_of_three false false true h = cc

head_flags : (zero_class wide h t b p bang deep nobreak : Bool) → (zero_class && wide && (t && not (h || b || p)) && bang && not (deep || nobreak)) ≡ true → HeadFlags zero_class wide h t b p bang deep nobreak
head_flags zero_class wide h t b p bang deep nobreak good =
    let front : (zero_class && wide && (t && not (h || b || p)) && bang) ≡ true = first_so (zero_class && wide && (t && not (h || b || p)) && bang) (not (deep || nobreak)) good in
    let placing : (zero_class && wide && (t && not (h || b || p))) ≡ true = first_so (zero_class && wide && (t && not (h || b || p))) bang front in
    let first : (zero_class && wide) ≡ true = first_so (zero_class && wide) (t && not (h || b || p)) placing in
    let at : (t && not (h || b || p)) ≡ true = second_so (zero_class && wide) (t && not (h || b || p)) placing in
    let others : (h ≡ false) × ((b ≡ false) × (p ≡ false)) = none_of_three h b p (second_so t (not (h || b || p)) at) in
    let last : (deep ≡ false) × (nobreak ≡ false) = none_of_two deep nobreak (second_so (zero_class && wide && (t && not (h || b || p)) && bang) (not (deep || nobreak)) good) in
    record {
      class = first_so zero_class wide first;
      across = second_so zero_class wide first;
      here = others.0;
      top = first_so t (not (h || b || p)) at;
      bottom = others.1.0;
      page = others.1.1;
      all = second_so (zero_class && wide && (t && not (h || b || p))) bang front;
      flat = last.0;
      free = last.1;
    }

head_back : (known : Known) (f : Float) → is_head f ≡ true → ReadsAs known title (f.name ∷ signed_decimal f.height ∷ []) (λ n. contents.Item (items.Head (record f { line = n })))
head_back known f good =
    let sized : (is_name f.name && is_size f.height) ≡ true = first_so (is_name f.name && is_size f.height) ((f.class == 0) && f.wide && is_top_alone f.places && f.bang && not (f.deep || f.nobreak)) good in
    let named : is_name f.name ≡ true = first_so (is_name f.name) (is_size f.height) sized in
    let high : is_size f.height ≡ true = second_so (is_name f.name) (is_size f.height) sized in
    let flags : HeadFlags (f.class == 0) f.wide f.places.h f.places.t f.places.b f.places.p f.bang f.deep f.nobreak =
    head_flags (f.class == 0) f.wide f.places.h f.places.t f.places.b f.places.p f.bang f.deep f.nobreak (second_so (is_name f.name && is_size f.height) ((f.class == 0) && f.wide && is_top_alone f.places && f.bang && not (f.deep || f.nobreak)) good) in
    let short : length (signed_decimal f.height) ≤ 11 = dimen_length f.height (size_small f.height high) in
    record {
      fit = (name_fit f.name named, (size_fit f.height high, tt));
      short = omega (arith, (name_text f.name named).short);
      content = λ n. (λ i. contents.Item (items.Head (record {
        line = n;
        name = f.name;
        class = sym (eqb-true f.class 0 flags.class) i;
        wide = sym flags.across i;
        places = record { h = sym flags.here i; t = sym flags.top i; b = sym flags.bottom i; p = sym flags.page i };
        bang = sym flags.all i;
        height = dimension_read f.height (size_small f.height high) i;
        deep = sym flags.flat i;
        nobreak = sym flags.free i;
      })));
    }

record StarBack (star : Bool) (fs : List (List ℕ)) : Type 0 where
  fit : AllFit (star_slots fs) fs
  short : tail_length fs ≤ 5
  read : is_at fs 0 (codes "star") ≡ star

star_back : (star : Bool) → StarBack star (star_fields star)
unfolding star_fields
star_back false = record { fit = tt; short = omega arith; read = refl }
star_back true = record { fit = (record { text = word_text (codes "star") refl (omega arith); slot = refl }, tt); short = omega arith; read = refl }

enlarge_back : (known : Known) (by : ℤ) (star : Bool) → is_dimen by ≡ true → ReadsAs known enlarge (signed_decimal by ∷ star_fields star) (λ n. contents.Item (items.Enlarge by star))
enlarge_back known by star good =
    let ending : StarBack star (star_fields star) = star_back star in
    let short : length (signed_decimal by) ≤ 11 = dimen_length by (dimen_small by good) in
    record {
      fit = (dimension_fit by good, ending.fit);
      short = omega (arith, ending.short);
      content = λ n. (λ i. contents.Item (items.Enlarge (dimension_read by (dimen_small by good) i) (ending.read i)));
    }

degree_back : (known : Known) (w : LineWord) (make : ℕ → ItemKind) (k : ℕ) → nat_le k 4 ≡ true → AllFit (word_slots known (decimal k ∷ []) w) (decimal k ∷ [])
    → ((n : ℕ) → content_of known.version n (decimal k ∷ []) w ≡ contents.Item (make (nat_abs (read_or (pos 0) (integer_of (decimal k)))))) → ReadsAs known w (decimal k ∷ []) (λ n. contents.Item (make k))
degree_back known w make k good fit content =
    let small : nat_abs (pos k) ≤ 4 = within_small (pos 0) (pos 4) (pos k) 4 (omega arith) (omega arith) (degree_within k good) in
    let a : length (signed_decimal (pos k)) ≤ 11 = dimen_length (pos k) (omega arith) in
    record { fit = fit; short = omega arith; content = λ n. content n ∙ ap (λ z. contents.Item (make (nat_abs z))) (integer_read (pos k) (omega arith)) }

degree_fit : (k : ℕ) → nat_le k 4 ≡ true → AllFit (range_slot (pos 0) (pos 4) causes.Penalty ∷ []) (decimal k ∷ [])
degree_fit k good = (range_fit (pos 0) (pos 4) causes.Penalty (pos k) (omega arith) (omega arith) (degree_within k good), tt)

-- a page number
number_within : (k : ℕ) → nat_le k 1000000 ≡ true → is_within (pos 0) (pos 1000000) (pos k) ≡ true
number_within k h = grind (arith, nat_tests)

number_back : (known : Known) (k : ℕ) → nat_le k 1000000 ≡ true → ReadsAs known page_number (decimal k ∷ []) (λ n. contents.Item (items.Page k))
number_back known k good =
    let small : nat_abs (pos k) ≤ 1000000 = within_small (pos 0) (pos 1000000) (pos k) 1000000 (omega arith) (omega arith) (number_within k good) in
    let a : length (signed_decimal (pos k)) ≤ 11 = dimen_length (pos k) (omega arith) in
    record {
      fit = (range_fit (pos 0) (pos 1000000) causes.Parameter (pos k) (omega arith) (omega arith) (number_within k good), tt);
      short = omega arith;
      content = λ n. ap (λ z. contents.Item (items.Page (nat_abs z))) (integer_read (pos k) (omega arith));
    }

named_back : (known : Known) (w : LineWord) (make : List ℕ → ItemKind) (name : List ℕ) → is_name name ≡ true → AllFit (word_slots known (name ∷ []) w) (name ∷ [])
    → ((n : ℕ) → content_of known.version n (name ∷ []) w ≡ contents.Item (make name)) → ReadsAs known w (name ∷ []) (λ n. contents.Item (make name))
named_back known w make name good fit content = record { fit = fit; short = omega (arith, (name_text name good).short); content = content }

pub item_back : (known : Known) (m : ℕ) (k : ItemKind) → is_single k ≡ true → is_item m k ≡ true → fits_kind known.version k ≡ true → ReadsAs known (item_word k) (item_fields k) (λ n. contents.Item (on_line_kind n k))
unfolding area_fields
item_back known m (items.Mark name) single good fits = named_back known mark (λ t. items.Mark t) name good (name_fit name good, tt) (λ n. refl)
item_back known m (items.Note name) single good fits = named_back known note (λ t. items.Note t) name good (name_fit name good, tt) (λ n. refl)
item_back known m (items.Float f vert) single good fits = float_back known f vert (second_so (f.line == m) (is_float f) good) fits
item_back known m (items.Margin a vert) single good fits = margin_back known a vert (second_so (a.line == m) (is_margin a) good) fits
item_back known m items.NewPage single good fits = record { fit = tt; short = omega arith; content = λ n. refl }
item_back known m items.ClearPage single good fits = record { fit = tt; short = omega arith; content = λ n. refl }
item_back known m (items.PageBreak k) single good fits = degree_back known pagebreak (λ d. items.PageBreak d) k good (degree_fit k good) (λ n. refl)
item_back known m (items.NoPageBreak k) single good fits = degree_back known nopagebreak (λ d. items.NoPageBreak d) k good (degree_fit k good) (λ n. refl)
item_back known m items.OneColumn single good fits = record { fit = tt; short = omega arith; content = λ n. refl }
item_back known m items.TwoColumn single good fits = record { fit = tt; short = omega arith; content = λ n. refl }
item_back known m (items.Suppress areas.All) single good fits = record { fit = tt; short = omega arith; content = λ n. refl }
item_back known m (items.Suppress areas.Top) single good fits = record { fit = (record { text = word_text (codes "t") refl (omega arith); slot = refl }, tt); short = omega arith; content = λ n. refl }
item_back known m (items.Suppress areas.Bottom) single good fits = record { fit = (record { text = word_text (codes "b") refl (omega arith); slot = refl }, tt); short = omega arith; content = λ n. refl }
item_back known m (items.Page k) single good fits = number_back known k good
item_back known m (items.Head f) single good fits = head_back known f (second_so (f.line == m) (is_head f) good)
item_back known m (items.Enlarge by star) single good fits = enlarge_back known by star good
item_back known m k single good fits = cc
