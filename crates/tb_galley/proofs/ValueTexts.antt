-- The value of a parameter is read back.
use Rattle.std.proofs.Common.{◌≡◌, ℕ, ◌<◌, ◌≤◌, ℤ, pos, negsuc, nat_abs, Bool, true, false, not, ◌&&◌, ◌||◌, ◌==◌, nat_lt, nat_le, List, [], ◌∷◌, ◌++◌, length, Some, Ok, refl, ap, sym, subst, ◌∙◌, arith, length-append, if◌then◌else◌, None, Option, append_assoc, bytes_eq}
use Rattle.std.specs.Cmp.{first_so, second_so}
use Rattle.std.specs.Prelude.{codes, int_lt}
use Rattle.std.specs.Fmt.{signed_decimal}
use Rattle.std.specs.List.{list_all}
use Rattle.std.proofs.lemmas.Bool.Decides.{nat_tests}
use Rattle.tb_text.specs.Numbers.{is_digit, fraction_of_field}
use Rattle.tb_text.proofs.NumberTexts.{fraction_back, number_passes}
use Rattle.tb_param.specs.declared.Choice.{Choice}
use Rattle.tb_param.specs.declared.Choice.TheVariants as choices
use Rattle.tb_param.specs.declared.Value.{Value}
use Rattle.tb_param.specs.declared.Value.TheVariants as values
use Rattle.tb_param.specs.declared.table.Form.{Form}
use Rattle.tb_param.specs.declared.table.Form.TheVariants as forms
use Rattle.tb_param.specs.Table.{Row, row_of, row_known, row_for, is_known_in, is_within, is_glue, out_of_range, is_rule, is_dimen}
use Rattle.tb_param.specs.Ranges.{is_no_fault}
use Rattle.tb_param.proofs.RangeLemmas.{fits}
use Rattle.tb_galley.specs.declared.Cause.TheVariants as causes
use Rattle.tb_galley.specs.declared.contents.Content.TheVariants as contents
use Rattle.tb_galley.specs.Words.{setting, Known}
use Rattle.tb_galley.specs.Fields.{parameter_slot, row_cause, form_slots, row_slots, seen_slot, drawn_slots}
use Rattle.tb_galley.specs.Faults.{is_printable}
use Rattle.tb_galley.specs.Grammar.{value_by, set_content}
use Rattle.tb_galley.specs.CanonicalText.{value_text}
use Rattle.tb_galley.specs.FieldReader.{dimension_in}
use Rattle.tb_galley.specs.Valid.{is_size}
use Rattle.tb_galley.proofs.FieldTexts.{IsText, AllFit, tail_text, tail_length, nothing_more}
use Rattle.tb_galley.proofs.SlotTexts.{ReadsAs, glue_fields, glue_is, glue_fit, glue_short, glue_back, least_fit, range_fit, joined_text, dimension_read, integer_read, dimen_length, within_small, read_none, read_back, dimen_small, size_small, dimension_fit}
use Rattle.tb_param.specs.declared.Rule.{Rule}

choice_field : Choice → List ℕ
choice_field choices.Flush = codes "flush"
choice_field choices.Ragged = codes "ragged"
choice_field choices.On = codes "on"
choice_field choices.Off = codes "off"
choice_field choices.R2014 = codes "2014"
choice_field choices.R2015 = codes "2015"
choice_field choices.Keep = codes "keep"
choice_field choices.Drop = codes "drop"
choice_field choices.Above = codes "above"
choice_field choices.Below = codes "below"

abbrev pub rule_fields : Option Rule → List (List ℕ)
rule_fields None = codes "none" ∷ []
rule_fields (Some r) = signed_decimal r.above ∷ signed_decimal r.height ∷ signed_decimal r.below ∷ []

pub value_fields : Value → List (List ℕ)
value_fields (values.Int n) = signed_decimal n ∷ []
value_fields (values.Dim n) = signed_decimal n ∷ []
value_fields (values.Skip g) = glue_fields g
value_fields (values.Frac n) = (signed_decimal n ++ codes "/65536") ∷ []
value_fields (values.Word c) = choice_field c ∷ []
value_fields (values.Rule r) = rule_fields r

pub value_is : (v : Value) → value_text v ≡ tail_text (value_fields v)
unfolding value_fields choice_field
value_is (values.Int n) = ap (λ t. 32 ∷ t) (sym (nothing_more (signed_decimal n)))
value_is (values.Dim n) = ap (λ t. 32 ∷ t) (sym (nothing_more (signed_decimal n)))
value_is (values.Skip g) = glue_is g
value_is (values.Frac n) = ap (λ t. 32 ∷ t) (sym (nothing_more (signed_decimal n ++ codes "/65536")))
value_is (values.Word choices.Flush) = refl
value_is (values.Word c) = refl
value_is (values.Rule None) = refl
value_is (values.Rule (Some r)) =
    append_assoc (32 ∷ signed_decimal r.above) (32 ∷ signed_decimal r.height) (32 ∷ signed_decimal r.below)
    ∙ ap (λ t. 32 ∷ (signed_decimal r.above ++ 32 ∷ (signed_decimal r.height ++ 32 ∷ t))) (sym (nothing_more (signed_decimal r.below)))

-- a form whose ranges are dimensions at most
abbrev pub is_plain_form : Form → Bool
is_plain_form (forms.Int low high) = nat_le (nat_abs low) 1073741823 && nat_le (nat_abs high) 1073741823
is_plain_form (forms.Dim low) = nat_le (nat_abs low) 1073741823
is_plain_form forms.Frac = true
is_plain_form forms.Skip = true
is_plain_form forms.Bottom = true
is_plain_form forms.Switch = true
is_plain_form forms.Release = true
is_plain_form forms.Rule = true
is_plain_form forms.FootDepth = true
is_plain_form forms.FootPlace = true

in_range : (t : Bool) → is_no_fault (out_of_range t) ≡ true → t ≡ true
in_range true h = refl
in_range false h = cc

at_most : (a b : ℕ) → nat_le a b ≡ true → a ≤ b
at_most a b h = grind (arith, nat_tests)

pub record FormBack (form : Form) (v : Value) : Type 0 where
  pub fit : AllFit (form_slots (value_fields v) form) (value_fields v)
  pub short : tail_length (value_fields v) ≤ 60
  pub read : (name : List ℕ) → value_by (name ∷ value_fields v) form ≡ v

int_back : (low high n : ℤ) → is_plain_form (forms.Int low high) ≡ true → is_within low high n ≡ true → FormBack (forms.Int low high) (values.Int n)
unfolding value_fields
int_back low high n plain good =
    let k : nat_abs low ≤ 1073741823 = at_most (nat_abs low) 1073741823 (first_so (nat_le (nat_abs low) 1073741823) (nat_le (nat_abs high) 1073741823) plain) in
    let l : nat_abs high ≤ 1073741823 = at_most (nat_abs high) 1073741823 (second_so (nat_le (nat_abs low) 1073741823) (nat_le (nat_abs high) 1073741823) plain) in
    let small : nat_abs n ≤ 1073741823 = within_small low high n 1073741823 k l good in
    let a : length (signed_decimal n) ≤ 11 = dimen_length n small in
    record { fit = (range_fit low high causes.Parameter n k l good, tt); short = omega arith; read = λ name. ap (λ z. values.Int z) (integer_read n small) }

dim_back : (low n : ℤ) → is_plain_form (forms.Dim low) ≡ true → is_within low (pos 1073741823) n ≡ true → FormBack (forms.Dim low) (values.Dim n)
unfolding value_fields
dim_back low n plain good =
    let k : nat_abs low ≤ 1073741823 = at_most (nat_abs low) 1073741823 plain in
    let small : nat_abs n ≤ 1073741823 = within_small low (pos 1073741823) n 1073741823 k (omega arith) good in
    let a : length (signed_decimal n) ≤ 11 = dimen_length n small in
    record { fit = (least_fit low causes.Parameter n k good, tt); short = omega arith; read = λ name. ap (λ z. values.Dim z) (dimension_read n small) }

frac_back : (n : ℤ) → is_within (pos 0) (pos 65536) n ≡ true → FormBack forms.Frac (values.Frac n)
unfolding value_fields
frac_back (negsuc n) good = cc
frac_back (pos n) good =
    let small : nat_abs (pos n) ≤ 65536 = within_small (pos 0) (pos 65536) (pos n) 65536 (omega arith) (omega arith) good in
    let a : length (signed_decimal (pos n)) ≤ 11 = dimen_length (pos n) (omega arith) in
    let back : fraction_of_field (signed_decimal (pos n) ++ codes "/65536") ≡ Ok (pos n) = fraction_back n (omega arith) in
    record {
      fit = (
        record {
          text = joined_text (pos n) (codes "/65536") (omega arith) refl;
          slot = read_none (λ v. not (int_lt v (pos 0) || int_lt (pos 65536) v)) causes.Parameter (fraction_of_field (signed_decimal (pos n) ++ codes "/65536")) (pos n) back good;
        },
        tt,
      );
      short = omega (arith, length-append (signed_decimal (pos n)) (codes "/65536"));
      read = λ name. ap (λ z. values.Frac z) (read_back (pos 0) (fraction_of_field (signed_decimal (pos n) ++ codes "/65536")) (pos n) back);
    }

-- a number is no word whose first byte is that of a letter
other_first : (w : ℕ) (word bs : List ℕ) → list_all (λ b. not (b == w)) bs ≡ true → bytes_eq bs (w ∷ word) ≡ false
other_first w word [] h = refl
other_first w word (b ∷ bs) h = by_first (b == w) (first_so (not (b == w)) (list_all (λ c. not (c == w)) bs) h)
  where
    by_first : (t : Bool) → not t ≡ true → (t && bytes_eq bs word) ≡ false
    by_first true k = cc
    by_first false k = refl

pub number_no_word : (w : ℕ) (word : List ℕ) → 57 < w → (z : ℤ) → nat_abs z ≤ 1073741823 → bytes_eq (signed_decimal z) (w ∷ word) ≡ false
number_no_word w word letter z small = other_first w word (signed_decimal z) (number_passes (λ b. not (b == w)) (λ d h. no_digit w d letter h) (no_sign w letter) z (omega arith))
  where
    no_digit : (w d : ℕ) → 57 < w → is_digit d ≡ true → not (d == w) ≡ true
    no_digit w d letter h = grind (arith, nat_tests)

    no_sign : (w : ℕ) → 57 < w → not (45 == w) ≡ true
    no_sign w letter = grind (arith, nat_tests)

rule_back : (r : Option Rule) → is_rule r ≡ true → FormBack forms.Rule (values.Rule r)
unfolding value_fields
rule_back None good = record { fit = (record { text = record { printable = refl; some = omega arith }; slot = refl }, tt); short = omega arith; read = λ name. refl }
rule_back (Some r) good =
    let front : (is_dimen r.above && is_size r.height) ≡ true = first_so (is_dimen r.above && is_size r.height) (is_dimen r.below) good in
    let above : is_dimen r.above ≡ true = first_so (is_dimen r.above) (is_size r.height) front in
    let height : is_size r.height ≡ true = second_so (is_dimen r.above) (is_size r.height) front in
    let below : is_dimen r.below ≡ true = second_so (is_dimen r.above && is_size r.height) (is_dimen r.below) good in
    let a : length (signed_decimal r.above) ≤ 11 = dimen_length r.above (dimen_small r.above above) in
    let h : length (signed_decimal r.height) ≤ 11 = dimen_length r.height (size_small r.height height) in
    let b : length (signed_decimal r.below) ≤ 11 = dimen_length r.below (dimen_small r.below below) in
    let drawn : bytes_eq (signed_decimal r.above) (codes "none") ≡ false = number_no_word 110 (codes "one") (omega arith) r.above (dimen_small r.above above) in
    record {
      fit =
          subst (λ t. AllFit (if t then seen_slot ∷ [] else drawn_slots) (rule_fields (Some r))) (sym drawn)
          (dimension_fit r.above above, (least_fit (pos 0) causes.Parameter r.height (omega arith) height, (dimension_fit r.below below, tt)));
      short = omega arith;
      read = λ name.
          ap (λ t. values.Rule (if t then None else Some (record { above = dimension_in (signed_decimal r.above); height = dimension_in (signed_decimal r.height); below = dimension_in (signed_decimal r.below) }))) drawn
          ∙ (λ i. values.Rule (Some (record { above = dimension_read r.above (dimen_small r.above above) i; height = dimension_read r.height (size_small r.height height) i; below = dimension_read r.below (dimen_small r.below below) i })));
    }

pub value_back : (form : Form) (v : Value) → is_plain_form form ≡ true → fits form v ≡ true → FormBack form v
unfolding value_fields choice_field
value_back (forms.Int low high) (values.Int n) plain good = int_back low high n plain (in_range (is_within low high n) good)
value_back (forms.Dim low) (values.Dim n) plain good = dim_back low n plain (in_range (is_within low (pos 1073741823) n) good)
value_back forms.Frac (values.Frac n) plain good = frac_back n (in_range (is_within (pos 0) (pos 65536) n) good)
value_back forms.Skip (values.Skip g) plain good =
    let glue : is_glue g ≡ true = in_range (is_glue g) good in
    record { fit = glue_fit g glue; short = glue_short g glue; read = λ name. ap (λ x. values.Skip x) (glue_back g glue) }
value_back forms.Bottom (values.Word choices.Flush) plain good = record { fit = (record { text = record { printable = refl; some = omega arith }; slot = refl }, tt); short = omega arith; read = λ name. refl }
value_back forms.Bottom (values.Word choices.Ragged) plain good = record { fit = (record { text = record { printable = refl; some = omega arith }; slot = refl }, tt); short = omega arith; read = λ name. refl }
value_back forms.Switch (values.Word choices.On) plain good = record { fit = (record { text = record { printable = refl; some = omega arith }; slot = refl }, tt); short = omega arith; read = λ name. refl }
value_back forms.Switch (values.Word choices.Off) plain good = record { fit = (record { text = record { printable = refl; some = omega arith }; slot = refl }, tt); short = omega arith; read = λ name. refl }
value_back forms.Release (values.Word choices.R2014) plain good = record { fit = (record { text = record { printable = refl; some = omega arith }; slot = refl }, tt); short = omega arith; read = λ name. refl }
value_back forms.Release (values.Word choices.R2015) plain good = record { fit = (record { text = record { printable = refl; some = omega arith }; slot = refl }, tt); short = omega arith; read = λ name. refl }
value_back forms.Rule (values.Rule r) plain good = rule_back r (in_range (is_rule r) good)
value_back forms.FootDepth (values.Word choices.Keep) plain good = record { fit = (record { text = record { printable = refl; some = omega arith }; slot = refl }, tt); short = omega arith; read = λ name. refl }
value_back forms.FootDepth (values.Word choices.Drop) plain good = record { fit = (record { text = record { printable = refl; some = omega arith }; slot = refl }, tt); short = omega arith; read = λ name. refl }
value_back forms.FootPlace (values.Word choices.Above) plain good = record { fit = (record { text = record { printable = refl; some = omega arith }; slot = refl }, tt); short = omega arith; read = λ name. refl }
value_back forms.FootPlace (values.Word choices.Below) plain good = record { fit = (record { text = record { printable = refl; some = omega arith }; slot = refl }, tt); short = omega arith; read = λ name. refl }
value_back form v plain good = cc

-- ---- a whole row

abbrev pub is_plain_row : Row → Bool
is_plain_row r = (list_all is_printable r.name && nat_lt 0 (length r.name)) && (nat_le (length r.name) 30 && is_plain_form r.form)

some_bytes : (k : ℕ) → nat_lt 0 k ≡ true → 0 < k
some_bytes k h = grind (arith, nat_tests)

pub set_back : (k : Known) (r : Row) (v : Value) → row_of r.name ≡ Some r → is_known_in k.version r.field ≡ true → is_plain_row r ≡ true → fits r.form v ≡ true → ReadsAs k setting (r.name ∷ value_fields v) (λ n. contents.Set r.field v)
set_back k r v found known plain good =
    let found_here : row_for k.version r.name ≡ Some r = ap (λ o. row_known k.version o) found ∙ ap (λ t. if t then Some r else None) known in
    let named : (list_all is_printable r.name && nat_lt 0 (length r.name)) ≡ true = first_so (list_all is_printable r.name && nat_lt 0 (length r.name)) (nat_le (length r.name) 30 && is_plain_form r.form) plain in
    let formed : (nat_le (length r.name) 30 && is_plain_form r.form) ≡ true = second_so (list_all is_printable r.name && nat_lt 0 (length r.name)) (nat_le (length r.name) 30 && is_plain_form r.form) plain in
    let short : length r.name ≤ 30 = at_most (length r.name) 30 (first_so (nat_le (length r.name) 30) (is_plain_form r.form) formed) in
    let back : FormBack r.form v = value_back r.form v (second_so (nat_le (length r.name) 30) (is_plain_form r.form) formed) good in
    let text : IsText r.name = record {
      printable = first_so (list_all is_printable r.name) (nat_lt 0 (length r.name)) named;
      some = some_bytes (length r.name) (second_so (list_all is_printable r.name) (nat_lt 0 (length r.name)) named);
    } in
    record {
      fit = subst (λ o. AllFit (parameter_slot k.version ∷ row_slots (value_fields v) o) (r.name ∷ value_fields v)) (sym found_here) (record { text = text; slot = ap row_cause found_here }, back.fit);
      short = omega (arith, back.short);
      content = λ n. ap (λ o. set_content (r.name ∷ value_fields v) o) found ∙ ap (λ x. contents.Set r.field x) (back.read r.name);
    }
