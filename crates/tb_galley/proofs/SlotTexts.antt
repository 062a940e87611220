-- What is written of numbers, names and glue fits its slots and is read back.
use Rattle.std.proofs.Common.{◌≡◌, ℕ, suc, ◌<◌, ◌≤◌, ℤ, pos, negsuc, nat_abs, Bool, true, false, not, ◌&&◌, ◌||◌, nat_le, List, [], ◌∷◌, ◌++◌, length, Some, None, Result, Ok, if◌then◌else◌, refl, ap, sym, ◌∙◌, arith, append_assoc, length-append}
use Rattle.std.specs.Cmp.{first_so, second_so}
use Rattle.std.specs.Prelude.{codes, int_lt}
use Rattle.std.specs.Fmt.{signed_decimal}
use Rattle.std.specs.List.{list_all}
use Rattle.std.proofs.lemmas.Bool.Decides.{nat_tests}
use Rattle.tb_scaled.specs.declared.Order.{Order}
use Rattle.tb_scaled.specs.declared.Order.TheVariants as orders
use Rattle.tb_scaled.specs.declared.Glue.{Glue}
use Rattle.tb_node.specs.Names.{is_name, is_name_byte, is_alphanumeric}
use Rattle.tb_text.specs.declared.TextFault.{TextFault}
use Rattle.tb_text.specs.Numbers.{integer_of, dimension_of, stretch_of}
use Rattle.tb_text.proofs.NumberTexts.{integer_back, dimension_back, stretch_back, unit_of, number_passes, number_some, number_short}
use Rattle.tb_param.specs.Table.{is_within, is_dimen, is_glue}
use Rattle.tb_galley.specs.declared.Cause.{Cause}
use Rattle.tb_galley.specs.declared.Cause.TheVariants as causes
use Rattle.tb_galley.specs.declared.contents.Content.{Content}
use Rattle.tb_galley.specs.Words.{LineWord, Known, header, setting, class_line, hbox, rule, skip, kern, penalty, mark, note, foot, endfoot, float, margin, newpage, clearpage, pagebreak, nopagebreak, onecolumn, twocolumn, suppressfloats, page_number, title, enlarge, end}
use Rattle.tb_galley.specs.Fields.{name_slot, dimension_slot, least_slot, range_slot, stretch_slot, seen_slot, cause_of_read, word_slots}
use Rattle.tb_galley.specs.Faults.{is_printable}
use Rattle.tb_galley.specs.Grammar.{read_or, content_of, glue_from}
use Rattle.tb_galley.specs.CanonicalText.{unit_text, minus_text, glue_text}
use Rattle.tb_text.specs.Fields.{and_number}
use Rattle.tb_galley.specs.Valid.{is_size}
use Rattle.tb_galley.proofs.VisibleFields.{digit_visible}
use Rattle.tb_galley.proofs.FieldTexts.{IsText, IsFit, AllFit, tail_text, tail_length, nothing_more}

-- ---- numbers in their slots

number_text : (z : ℤ) → nat_abs z ≤ 4611686018427387904 → IsText (signed_decimal z)
number_text z h = record { printable = number_passes is_printable digit_visible refl z (omega arith); some = number_some z (omega arith) }

-- between two numbers of which neither is greater than this
pub within_small : (low high z : ℤ) (m : ℕ) → nat_abs low ≤ m → nat_abs high ≤ m → is_within low high z ≡ true → nat_abs z ≤ m
within_small (pos a) (pos b) (pos n) m k l h = grind (arith, nat_tests)
within_small (pos a) (pos b) (negsuc n) m k l h = grind (arith, nat_tests)
within_small (pos a) (negsuc b) (pos n) m k l h = grind (arith, nat_tests)
within_small (pos a) (negsuc b) (negsuc n) m k l h = grind (arith, nat_tests)
within_small (negsuc a) (pos b) (pos n) m k l h = grind (arith, nat_tests)
within_small (negsuc a) (pos b) (negsuc n) m k l h = grind (arith, nat_tests)
within_small (negsuc a) (negsuc b) (pos n) m k l h = grind (arith, nat_tests)
within_small (negsuc a) (negsuc b) (negsuc n) m k l h = grind (arith, nat_tests)

pub dimen_small : (z : ℤ) → is_dimen z ≡ true → nat_abs z ≤ 1073741823
dimen_small z h = within_small (negsuc 1073741822) (pos 1073741823) z 1073741823 (omega arith) (omega arith) h

not_below : (low high z : ℤ) → is_within low high z ≡ true → not (int_lt z low) ≡ true
not_below low high z h = below (int_lt z low) (int_lt high z) h
  where
    below : (a b : Bool) → not (a || b) ≡ true → not a ≡ true
    below true b h = h
    below false b h = refl

pub read_none : {X : Type 0} (test : X → Bool) (c : Cause) (r : Result X TextFault) (v : X) → r ≡ Ok v → test v ≡ true → cause_of_read test c r ≡ None
read_none test c r v h k = ap (λ a. cause_of_read test c a) h ∙ ap (λ t. if t then None else Some c) k

pub read_back : {X : Type 0} (d : X) (r : Result X TextFault) (v : X) → r ≡ Ok v → read_or d r ≡ v
read_back d r v h = ap (λ a. read_or d a) h

pub dimension_fit : (z : ℤ) → is_dimen z ≡ true → IsFit dimension_slot (signed_decimal z)
dimension_fit z h = record {
  text = number_text z (let small : nat_abs z ≤ 1073741823 = dimen_small z h in omega arith);
  slot = read_none (λ v. true) causes.Dimension (dimension_of (signed_decimal z)) z (dimension_back z (dimen_small z h)) refl;
}

pub least_fit : (low : ℤ) (c : Cause) (z : ℤ) → nat_abs low ≤ 1073741823 → is_within low (pos 1073741823) z ≡ true → IsFit (least_slot low c) (signed_decimal z)
least_fit low c z k h =
    let small : nat_abs z ≤ 1073741823 = within_small low (pos 1073741823) z 1073741823 k (omega arith) h in
    record {
      text = number_text z (omega arith);
      slot = read_none (λ v. not (int_lt v low)) c (dimension_of (signed_decimal z)) z (dimension_back z small) (not_below low (pos 1073741823) z h);
    }

pub size_fit : (z : ℤ) → is_size z ≡ true → IsFit (least_slot (pos 0) causes.Dimension) (signed_decimal z)
size_fit z h = least_fit (pos 0) causes.Dimension z (omega arith) h

pub range_fit : (low high : ℤ) (c : Cause) (z : ℤ) → nat_abs low ≤ 1073741823 → nat_abs high ≤ 1073741823 → is_within low high z ≡ true → IsFit (range_slot low high c) (signed_decimal z)
range_fit low high c z k l h =
    let small : nat_abs z ≤ 1073741823 = within_small low high z 1073741823 k l h in
    record {
      text = number_text z (omega arith);
      slot = read_none (λ v. not (int_lt v low || int_lt high v)) c (integer_of (signed_decimal z)) z (integer_back z (omega arith)) h;
    }

-- ---- texts in their slots

all_append : (xs ys : List ℕ) → list_all is_printable xs ≡ true → list_all is_printable ys ≡ true → list_all is_printable (xs ++ ys) ≡ true
all_append [] ys h k = k
all_append (x ∷ xs) ys h k =
    ap (λ t. t && list_all is_printable (xs ++ ys)) (first_so (is_printable x) (list_all is_printable xs) h)
    ∙ all_append xs ys (second_so (is_printable x) (list_all is_printable xs) h) k

pub joined_text : (z : ℤ) (unit : List ℕ) → nat_abs z ≤ 4611686018427387904 → list_all is_printable unit ≡ true → IsText (signed_decimal z ++ unit)
joined_text z unit h k =
    let number : IsText (signed_decimal z) = number_text z h in
    record {
      printable = all_append (signed_decimal z) unit number.printable k;
      some = let more : 0 < length (signed_decimal z) = number.some in omega (arith, length-append (signed_decimal z) unit);
    }

unit_printable : (o : Order) → list_all is_printable (unit_of o) ≡ true
unit_printable orders.Normal = refl
unit_printable o = refl

stretch_fit : (z : ℤ) (o : Order) → is_dimen z ≡ true → IsFit stretch_slot (signed_decimal z ++ unit_of o)
stretch_fit z o h =
    let small : nat_abs z ≤ 1073741823 = dimen_small z h in
    record {
      text = joined_text z (unit_of o) (omega arith) (unit_printable o);
      slot = read_none (λ v. true) causes.Dimension (stretch_of (signed_decimal z ++ unit_of o)) (z, o) (stretch_back z o small) refl;
    }

name_byte_printable : (b : ℕ) → is_name_byte b ≡ true → is_printable b ≡ true
name_byte_printable b h = grind (arith, nat_tests)

names_printable : (bs : List ℕ) → list_all is_name_byte bs ≡ true → list_all is_printable bs ≡ true
names_printable [] h = refl
names_printable (b ∷ bs) h =
    ap (λ t. t && list_all is_printable bs) (name_byte_printable b (first_so (is_name_byte b) (list_all is_name_byte bs) h))
    ∙ names_printable bs (second_so (is_name_byte b) (list_all is_name_byte bs) h)

first_printable : (b : ℕ) → is_alphanumeric b ≡ true → is_printable b ≡ true
first_printable b h = grind (arith, nat_tests)

pub record IsNameText (f : List ℕ) : Type 0 where
  pub text : IsText f
  pub short : length f ≤ 63

pub name_text : (f : List ℕ) → is_name f ≡ true → IsNameText f
name_text [] h = cc
name_text (b ∷ bs) h =
    let front : (is_alphanumeric b && list_all is_name_byte bs) ≡ true = first_so (is_alphanumeric b && list_all is_name_byte bs) (nat_le (length bs) 62) h in
    let few : nat_le (length bs) 62 ≡ true = second_so (is_alphanumeric b && list_all is_name_byte bs) (nat_le (length bs) 62) h in
    record {
      text = record {
        printable =
            ap (λ t. t && list_all is_printable bs) (first_printable b (first_so (is_alphanumeric b) (list_all is_name_byte bs) front))
            ∙ names_printable bs (second_so (is_alphanumeric b) (list_all is_name_byte bs) front);
        some = omega arith;
      };
      short = short_name (length bs) few;
    }
  where
    short_name : (k : ℕ) → nat_le k 62 ≡ true → suc k ≤ 63
    short_name k h = grind (arith, nat_tests)

pub name_fit : (f : List ℕ) → is_name f ≡ true → IsFit name_slot f
name_fit f h = record { text = (name_text f h).text; slot = ap (λ t. if t then None else Some causes.BadName) h }

-- ---- lines

abbrev pub spelling : LineWord → List ℕ
spelling header = codes "galley"
spelling setting = codes "set"
spelling hbox = codes "box"
spelling rule = codes "rule"
spelling skip = codes "glue"
spelling kern = codes "kern"
spelling penalty = codes "penalty"
spelling mark = codes "mark"
spelling note = codes "note"
spelling foot = codes "foot"
spelling endfoot = codes "endfoot"
spelling float = codes "float"
spelling margin = codes "margin"
spelling newpage = codes "newpage"
spelling clearpage = codes "clearpage"
spelling pagebreak = codes "pagebreak"
spelling nopagebreak = codes "nopagebreak"
spelling onecolumn = codes "onecolumn"
spelling twocolumn = codes "twocolumn"
spelling suppressfloats = codes "suppressfloats"
spelling page_number = codes "page"
spelling title = codes "head"
spelling enlarge = codes "enlarge"
spelling end = codes "end"
spelling class_line = codes "class"

-- the fields after a word are read as this content
pub record ReadsAs (k : Known) (w : LineWord) (fs : List (List ℕ)) (says : ℕ → Content) : Type 0 where
  pub fit : AllFit (word_slots k fs w) fs
  pub short : tail_length fs ≤ 200
  pub content : (n : ℕ) → content_of k.version n fs w ≡ says n

pub dimension_read : (z : ℤ) → nat_abs z ≤ 1073741823 → read_or (pos 0) (dimension_of (signed_decimal z)) ≡ z
dimension_read z h = read_back (pos 0) (dimension_of (signed_decimal z)) z (dimension_back z h)

pub integer_read : (z : ℤ) → nat_abs z ≤ 1073741823 → read_or (pos 0) (integer_of (signed_decimal z)) ≡ z
integer_read z h = read_back (pos 0) (integer_of (signed_decimal z)) z (integer_back z (omega arith))

pub size_small : (z : ℤ) → is_size z ≡ true → nat_abs z ≤ 1073741823
size_small z h = within_small (pos 0) (pos 1073741823) z 1073741823 (omega arith) (omega arith) h

pub dimen_length : (z : ℤ) → nat_abs z ≤ 1073741823 → length (signed_decimal z) ≤ 11
dimen_length z h = number_short z (omega arith)

-- ---- glue

same_unit : (o : Order) → unit_text o ≡ unit_of o
same_unit orders.Normal = refl
same_unit o = refl

unit_length : (o : Order) → length (unit_of o) ≤ 6
unit_length orders.Normal = omega arith
unit_length o = omega arith

abbrev pub glue_fields : Glue → List (List ℕ)
glue_fields g = signed_decimal g.width ∷ codes "plus" ∷ (signed_decimal g.stretch ++ unit_of g.order) ∷ codes "minus" ∷ signed_decimal g.shrink ∷ []

pub glue_is : (g : Glue) → glue_text g ≡ tail_text (glue_fields g)
glue_is g =
    ap (λ u. and_number g.width ++ (codes " plus" ++ and_number g.stretch ++ u) ++ minus_text g.shrink) (same_unit g.order)
    ∙ ap (λ t. 32 ∷ t) (append_assoc (signed_decimal g.width) (codes " plus" ++ and_number g.stretch ++ unit_of g.order) (minus_text g.shrink))
    ∙ ap (λ z. 32 ∷ (signed_decimal g.width ++ 32 ∷ (codes "plus" ++ 32 ∷ ((signed_decimal g.stretch ++ unit_of g.order) ++ 32 ∷ (codes "minus" ++ 32 ∷ z)))))
    (sym (nothing_more (signed_decimal g.shrink)))

pub word_text : (f : List ℕ) → list_all is_printable f ≡ true → 0 < length f → IsText f
word_text f h k = record { printable = h; some = k }

pub glue_fit : (g : Glue) → is_glue g ≡ true → AllFit (dimension_slot ∷ seen_slot ∷ stretch_slot ∷ seen_slot ∷ dimension_slot ∷ []) (glue_fields g)
glue_fit g h =
    let front : (is_dimen g.width && is_dimen g.stretch) ≡ true = first_so (is_dimen g.width && is_dimen g.stretch) (is_dimen g.shrink) h in (
      dimension_fit g.width (first_so (is_dimen g.width) (is_dimen g.stretch) front),
      (
        record { text = word_text (codes "plus") refl (omega arith); slot = refl },
        (
          stretch_fit g.stretch g.order (second_so (is_dimen g.width) (is_dimen g.stretch) front),
          (
            record { text = word_text (codes "minus") refl (omega arith); slot = refl },
            (dimension_fit g.shrink (second_so (is_dimen g.width && is_dimen g.stretch) (is_dimen g.shrink) h), tt),
          ),
        ),
      ),
    )

pub glue_short : (g : Glue) → is_glue g ≡ true → tail_length (glue_fields g) ≤ 60
glue_short g h =
    let front : (is_dimen g.width && is_dimen g.stretch) ≡ true = first_so (is_dimen g.width && is_dimen g.stretch) (is_dimen g.shrink) h in
    let w : length (signed_decimal g.width) ≤ 11 = dimen_length g.width (dimen_small g.width (first_so (is_dimen g.width) (is_dimen g.stretch) front)) in
    let s : length (signed_decimal g.stretch) ≤ 11 = dimen_length g.stretch (dimen_small g.stretch (second_so (is_dimen g.width) (is_dimen g.stretch) front)) in
    let z : length (signed_decimal g.shrink) ≤ 11 = dimen_length g.shrink (dimen_small g.shrink (second_so (is_dimen g.width && is_dimen g.stretch) (is_dimen g.shrink) h)) in
    omega (arith, length-append (signed_decimal g.stretch) (unit_of g.order), unit_length g.order)

pub glue_back : (g : Glue) → is_glue g ≡ true
    → glue_from (read_or (pos 0) (dimension_of (signed_decimal g.width))) (read_or (pos 0, orders.Normal) (stretch_of (signed_decimal g.stretch ++ unit_of g.order))) (read_or (pos 0) (dimension_of (signed_decimal g.shrink))) ≡ g
glue_back g h =
    let front : (is_dimen g.width && is_dimen g.stretch) ≡ true = first_so (is_dimen g.width && is_dimen g.stretch) (is_dimen g.shrink) h in
    let w : read_or (pos 0) (dimension_of (signed_decimal g.width)) ≡ g.width = dimension_read g.width (dimen_small g.width (first_so (is_dimen g.width) (is_dimen g.stretch) front)) in
    let s : read_or (pos 0, orders.Normal) (stretch_of (signed_decimal g.stretch ++ unit_of g.order)) ≡ (g.stretch, g.order) =
    read_back (pos 0, orders.Normal) (stretch_of (signed_decimal g.stretch ++ unit_of g.order)) (g.stretch, g.order) (stretch_back g.stretch g.order (dimen_small g.stretch (second_so (is_dimen g.width) (is_dimen g.stretch) front))) in
    let z : read_or (pos 0) (dimension_of (signed_decimal g.shrink)) ≡ g.shrink = dimension_read g.shrink (dimen_small g.shrink (second_so (is_dimen g.width && is_dimen g.stretch) (is_dimen g.shrink) h)) in
    (λ i. glue_from (w i) (s i) (z i))
