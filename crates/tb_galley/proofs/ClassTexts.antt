-- The line of a class, and the class that a footnote names, are read back.
use Rattle.std.proofs.Common.{◌≡◌, ℕ, ◌≤◌, pos, nat_abs, Bool, true, false, not, ◌&&◌, ◌||◌, ◌==◌, nat_le, List, [], ◌∷◌, ◌++◌, length, map, Option, Some, None, Ok, if◌then◌else◌, refl, ap, sym, subst, ◌∙◌, arith, append_assoc}
use Rattle.std.specs.Cmp.{first_so, second_so}
use Rattle.std.specs.Prelude.{codes, decimal, int_lt, bytes_eq}
use Rattle.std.specs.Fmt.{signed_decimal}
use Rattle.std.specs.List.{list_all, list_any}
use Rattle.std.proofs.lemmas.Bool.{eqb-true, and_from}
use Rattle.std.proofs.lemmas.Bool.Decides.{nat_tests}
use Rattle.tb_text.specs.Numbers.{integer_of}
use Rattle.tb_text.proofs.NumberTexts.{integer_back}
use Rattle.tb_scaled.specs.declared.Glue.{Glue}
use Rattle.tb_param.specs.declared.Rule.{Rule}
use Rattle.tb_param.specs.Table.{is_within, is_dimen, is_glue, is_rule}
use Rattle.tb_galley.specs.declared.Cause.TheVariants as causes
use Rattle.tb_galley.specs.declared.contents.Content.TheVariants as contents
use Rattle.tb_galley.specs.declared.classes.ClassLine.{ClassLine}
use Rattle.tb_galley.specs.Words.{class_line, foot, Known, number_or}
use Rattle.tb_galley.specs.Fields.{range_slot, dimension_slot, least_slot, seen_slot, wrong_slot, glue_slots, ruled_glue_slots, below_slot, standing_slots, past_one, class_slot, is_class_among, is_foot_class}
use Rattle.tb_galley.specs.Grammar.{rule_at, glue_at, below_at, past_rule, past_below}
use Rattle.tb_galley.specs.FieldReader.{dimension_in}
use Rattle.tb_galley.specs.CanonicalText.{class_text, below_text, glue_text}
use Rattle.tb_text.specs.Fields.{and_number, and_count}
use Rattle.tb_galley.specs.Valid.{is_size, is_class, may_stand}
use Rattle.tb_galley.proofs.FieldTexts.{IsFit, AllFit, tail_text, tail_length}
use Rattle.tb_galley.proofs.SlotTexts.{ReadsAs, range_fit, dimension_fit, least_fit, word_text, dimen_small, size_fit, glue_fields, glue_is, glue_fit, glue_short, glue_back, dimension_read, integer_read, size_small, dimen_length, within_small, read_none}
use Rattle.tb_galley.proofs.ValueTexts.{rule_fields, number_no_word}

-- ---- the line of a class

-- the fields after the limit of a class
abbrev pub standing_fields : Option (Option Rule) → Glue → List (List ℕ)
standing_fields None g = glue_fields g
standing_fields (Some r) g = codes "below" ∷ (rule_fields r ++ glue_fields g)

abbrev pub line_fields : ClassLine → List (List ℕ)
line_fields c = decimal c.number ∷ signed_decimal c.factor ∷ signed_decimal c.limit ∷ standing_fields c.below c.skip

standing_is : (b : Option (Option Rule)) (g : Glue) → below_text b ++ glue_text g ≡ tail_text (standing_fields b g)
standing_is None g = glue_is g
standing_is (Some None) g = ap (λ t. codes " below" ++ (codes " none" ++ t)) (glue_is g)
standing_is (Some (Some r)) g =
    ap (λ t. codes " below" ++ t) (append_assoc (and_number r.above ++ and_number r.height) (and_number r.below) (glue_text g) ∙ append_assoc (and_number r.above) (and_number r.height) (and_number r.below ++ glue_text g))
    ∙ ap (λ t. codes " below" ++ (and_number r.above ++ (and_number r.height ++ (and_number r.below ++ t)))) (glue_is g)

pub class_is : (c : ClassLine) → class_text c ≡ codes "class" ++ tail_text (line_fields c)
class_is c =
    append_assoc (codes "class" ++ and_count c.number ++ and_number c.factor ++ and_number c.limit) (below_text c.below) (glue_text c.skip)
    ∙ ap (λ t. codes "class" ++ and_count c.number ++ and_number c.factor ++ and_number c.limit ++ t) (standing_is c.below c.skip)
    ∙ four (codes "class") (decimal c.number) (signed_decimal c.factor) (signed_decimal c.limit) (standing_fields c.below c.skip)
  where
    four : (w a b d : List ℕ) (fs : List (List ℕ)) → (((w ++ 32 ∷ a) ++ 32 ∷ b) ++ 32 ∷ d) ++ tail_text fs ≡ w ++ tail_text (a ∷ b ∷ d ∷ fs)
    four w a b d fs =
        append_assoc ((w ++ 32 ∷ a) ++ 32 ∷ b) (32 ∷ d) (tail_text fs)
        ∙ append_assoc (w ++ 32 ∷ a) (32 ∷ b) (32 ∷ (d ++ tail_text fs))
        ∙ append_assoc w (32 ∷ a) (32 ∷ (b ++ 32 ∷ (d ++ tail_text fs)))

number_within : (n : ℕ) → nat_le n 253 ≡ true → is_within (pos 0) (pos 253) (pos n) ≡ true
number_within n h = grind (arith, nat_tests)

-- what stands after the limit of a class is read back
record StandsBack (version : ℕ) (b : Option (Option Rule)) (g : Glue) : Type 0 where
  pub fit : AllFit (standing_slots version (standing_fields b g)) (standing_fields b g)
  pub short : tail_length (standing_fields b g) ≤ 110
  pub below : below_at (standing_fields b g) ≡ b
  pub skip : glue_at (past_below (standing_fields b g)) 0 ≡ g

-- a rule and the glue after it are read back
record RuleBack (r : Option Rule) (g : Glue) : Type 0 where
  pub fit : AllFit (ruled_glue_slots (rule_fields r ++ glue_fields g)) (rule_fields r ++ glue_fields g)
  pub short : tail_length (rule_fields r ++ glue_fields g) ≤ 100
  pub rule : rule_at (rule_fields r ++ glue_fields g) 0 ≡ r
  pub skip : glue_at (past_rule (rule_fields r ++ glue_fields g)) 0 ≡ g

rule_glue_back : (r : Option Rule) (g : Glue) → is_rule r ≡ true → is_glue g ≡ true → RuleBack r g
rule_glue_back None g good glue = record {
  fit = (record { text = word_text (codes "none") refl (omega arith); slot = refl }, glue_fit g glue);
  short = omega (arith, glue_short g glue);
  rule = refl;
  skip = glue_back g glue;
}
rule_glue_back (Some r) g good glue =
    let front : (is_dimen r.above && is_size r.height) ≡ true = first_so (is_dimen r.above && is_size r.height) (is_dimen r.below) good in
    let above : is_dimen r.above ≡ true = first_so (is_dimen r.above) (is_size r.height) front in
    let height : is_size r.height ≡ true = second_so (is_dimen r.above) (is_size r.height) front in
    let below : is_dimen r.below ≡ true = second_so (is_dimen r.above && is_size r.height) (is_dimen r.below) good in
    let a : length (signed_decimal r.above) ≤ 11 = dimen_length r.above (dimen_small r.above above) in
    let h : length (signed_decimal r.height) ≤ 11 = dimen_length r.height (size_small r.height height) in
    let b : length (signed_decimal r.below) ≤ 11 = dimen_length r.below (dimen_small r.below below) in
    let drawn : bytes_eq (signed_decimal r.above) (codes "none") ≡ false = number_no_word 110 (codes "one") (omega arith) r.above (dimen_small r.above above) in
    let rest : List (List ℕ) = signed_decimal r.height ∷ signed_decimal r.below ∷ glue_fields g in
    record {
      fit =
          subst (λ t. AllFit (if t then seen_slot ∷ glue_slots causes.UnknownWord rest else dimension_slot ∷ least_slot (pos 0) causes.Parameter ∷ dimension_slot ∷ glue_slots causes.UnknownWord (glue_fields g)) (signed_decimal r.above ∷ rest)) (sym drawn)
          (dimension_fit r.above above, (least_fit (pos 0) causes.Parameter r.height (omega arith) height, (dimension_fit r.below below, glue_fit g glue)));
      short = omega (arith, glue_short g glue);
      rule =
          ap (λ t. if t then None else Some (record { above = dimension_in (signed_decimal r.above); height = dimension_in (signed_decimal r.height); below = dimension_in (signed_decimal r.below) })) drawn
          ∙ (λ i. Some (record { above = dimension_read r.above (dimen_small r.above above) i; height = dimension_read r.height (size_small r.height height) i; below = dimension_read r.below (dimen_small r.below below) i }));
      skip = ap (λ t. glue_at (if t then rest else glue_fields g) 0) drawn ∙ glue_back g glue;
    }

stands_back : (version : ℕ) (b : Option (Option Rule)) (g : Glue) → may_stand version b ≡ true → is_glue g ≡ true → StandsBack version b g
stands_back version None g may glue =
    let width : is_dimen g.width ≡ true = first_so (is_dimen g.width) (is_dimen g.stretch) (first_so (is_dimen g.width && is_dimen g.stretch) (is_dimen g.shrink) glue) in
    let no : bytes_eq (signed_decimal g.width) (codes "below") ≡ false = number_no_word 98 (codes "elow") (omega arith) g.width (dimen_small g.width width) in
    let rest : List (List ℕ) = past_one (glue_fields g) in
    record {
      fit =
          subst (λ t. AllFit (if t then below_slot version ∷ ruled_glue_slots rest else glue_slots causes.UnknownWord (glue_fields g)) (glue_fields g)) (sym no)
          (glue_fit g glue);
      short = omega (arith, glue_short g glue);
      below = ap (λ t. if t then Some (rule_at rest 0) else None) no;
      skip = ap (λ t. glue_at (if t then past_rule rest else glue_fields g) 0) no ∙ glue_back g glue;
    }
stands_back version (Some r) g may glue =
    let later : nat_le 3 version ≡ true = first_so (nat_le 3 version) (is_rule r) may in
    let back : RuleBack r g = rule_glue_back r g (second_so (nat_le 3 version) (is_rule r) may) glue in
    record {
      fit = (
        subst (λ t. IsFit (if t then seen_slot else wrong_slot causes.BadNumber) (codes "below")) (sym later) (record { text = word_text (codes "below") refl (omega arith); slot = refl }),
        back.fit,
      );
      short = omega (arith, back.short);
      below = ap (λ q. Some q) back.rule;
      skip = back.skip;
    }

pub class_back : (k : Known) (c : ClassLine) → is_class c ≡ true → may_stand k.version c.below ≡ true → ReadsAs k class_line (line_fields c) (λ n. contents.Class (record c { line = n }))
class_back k c good may =
    let front : (nat_le c.number 253 && is_within (pos 0) (pos 10000) c.factor && is_size c.limit) ≡ true = first_so (nat_le c.number 253 && is_within (pos 0) (pos 10000) c.factor && is_size c.limit) (is_glue c.skip) good in
    let glue : is_glue c.skip ≡ true = second_so (nat_le c.number 253 && is_within (pos 0) (pos 10000) c.factor && is_size c.limit) (is_glue c.skip) good in
    let first : (nat_le c.number 253 && is_within (pos 0) (pos 10000) c.factor) ≡ true = first_so (nat_le c.number 253 && is_within (pos 0) (pos 10000) c.factor) (is_size c.limit) front in
    let high : is_size c.limit ≡ true = second_so (nat_le c.number 253 && is_within (pos 0) (pos 10000) c.factor) (is_size c.limit) front in
    let numbered : is_within (pos 0) (pos 253) (pos c.number) ≡ true = number_within c.number (first_so (nat_le c.number 253) (is_within (pos 0) (pos 10000) c.factor) first) in
    let factored : is_within (pos 0) (pos 10000) c.factor ≡ true = second_so (nat_le c.number 253) (is_within (pos 0) (pos 10000) c.factor) first in
    let small : nat_abs (pos c.number) ≤ 253 = within_small (pos 0) (pos 253) (pos c.number) 253 (omega arith) (omega arith) numbered in
    let few : nat_abs c.factor ≤ 10000 = within_small (pos 0) (pos 10000) c.factor 10000 (omega arith) (omega arith) factored in
    let a : length (signed_decimal (pos c.number)) ≤ 11 = dimen_length (pos c.number) (omega arith) in
    let b : length (signed_decimal c.factor) ≤ 11 = dimen_length c.factor (omega arith) in
    let d : length (signed_decimal c.limit) ≤ 11 = dimen_length c.limit (size_small c.limit high) in
    let standing : StandsBack k.version c.below c.skip = stands_back k.version c.below c.skip may glue in
    record {
      fit = (
        range_fit (pos 0) (pos 253) causes.Class (pos c.number) (omega arith) (omega arith) numbered,
        (
          range_fit (pos 0) (pos 10000) causes.Parameter c.factor (omega arith) (omega arith) factored,
          (size_fit c.limit high, standing.fit),
        ),
      );
      short = omega (arith, standing.short);
      content = λ n. (λ i. contents.Class (record {
        line = n;
        number = nat_abs (integer_read (pos c.number) (omega arith) i);
        factor = integer_read c.factor (omega arith) i;
        limit = dimension_read c.limit (size_small c.limit high) i;
        below = standing.below i;
        skip = standing.skip i;
      }));
    }

-- ---- the class of a footnote

-- the numbers of classes
abbrev pub numbers_of : List ClassLine → List ℕ
numbers_of cs = map (λ (c : ClassLine). c.number) cs

-- what is known if a galley of the version has declared these classes
abbrev pub known_by : ℕ → List ClassLine → Known
known_by v cs = record { version = v; classes = numbers_of cs }

-- the class is named in version 2
abbrev pub class_fields : Bool → ℕ → List (List ℕ)
class_fields true class = []
class_fields false class = decimal class ∷ []

any_small : (cs : List ClassLine) (n : ℕ) → list_all is_class cs ≡ true → list_any (λ (k : ℕ). k == n) (numbers_of cs) ≡ true → n ≤ 253
any_small [] n good h = cc
any_small (c ∷ cs) n good h =
    by_test (c.number == n) (list_any (λ (k : ℕ). k == n) (numbers_of cs)) (λ e. small_number c.number n (eqb-true c.number n e) (number_of c (first_so (is_class c) (list_all is_class cs) good)))
    (λ e. any_small cs n (second_so (is_class c) (list_all is_class cs) good) e) h
  where
    by_test : (a b : Bool) → (a ≡ true → n ≤ 253) → (b ≡ true → n ≤ 253) → (a || b) ≡ true → n ≤ 253
    by_test true b f g h = f refl
    by_test false b f g h = g h

    small_number : (a n : ℕ) → a ≡ n → nat_le a 253 ≡ true → n ≤ 253
    small_number a n e h = grind (arith, nat_tests)

    number_of : (c : ClassLine) → is_class c ≡ true → nat_le c.number 253 ≡ true
    number_of c h =
        first_so (nat_le c.number 253) (is_within (pos 0) (pos 10000) c.factor)
        (first_so (nat_le c.number 253 && is_within (pos 0) (pos 10000) c.factor) (is_size c.limit) (first_so (nat_le c.number 253 && is_within (pos 0) (pos 10000) c.factor && is_size c.limit) (is_glue c.skip) h))

-- the number of a class is at most 254
among_small : (cs : List ClassLine) (n : ℕ) → list_all is_class cs ≡ true → is_class_among (numbers_of cs) n ≡ true → n ≤ 254
among_small cs n good h = by_test (n == 254) (list_any (λ (k : ℕ). k == n) (numbers_of cs)) (λ e. last_number n (eqb-true n 254 e)) (λ e. let small : n ≤ 253 = any_small cs n good e in omega arith) h
  where
    by_test : (a b : Bool) → (a ≡ true → n ≤ 254) → (b ≡ true → n ≤ 254) → (a || b) ≡ true → n ≤ 254
    by_test true b f g h = f refl
    by_test false b f g h = g h

    last_number : (n : ℕ) → n ≡ 254 → n ≤ 254
    last_number n e = omega arith

pub foot_back : (v : ℕ) (cs : List ClassLine) (class : ℕ) → list_all is_class cs ≡ true → is_class_among (numbers_of cs) class ≡ true → ((v == 1) ≡ true → class ≡ 254) → ReadsAs (known_by v cs) foot (class_fields (v == 1) class) (λ n. contents.Foot class)
foot_back v cs class good known first = by_version (v == 1) refl first
  where
    small : class ≤ 254
    small = among_small cs class good known

    number : integer_of (decimal class) ≡ Ok (pos class)
    number = integer_back (pos class) (omega (arith, small))

    within : (n : ℕ) → n ≤ 254 → is_within (pos 0) (pos 1000) (pos n) ≡ true
    within n h = grind (arith, nat_tests)

    text : IsFit (range_slot (pos 0) (pos 1000) causes.Class) (decimal class)
    text = range_fit (pos 0) (pos 1000) causes.Class (pos class) (omega arith) (omega arith) (within class small)

    not_below : (n : ℕ) → not (int_lt (pos n) (pos 0)) ≡ true
    not_below n = grind (arith, nat_tests)

    by_version : (t : Bool) → (v == 1) ≡ t → (t ≡ true → class ≡ 254) → ReadsAs (known_by v cs) foot (class_fields t class) (λ n. contents.Foot class)
    by_version true e is = record { fit = tt; short = omega arith; content = λ n. ap (λ k. contents.Foot k) (sym (is refl)) }
    by_version false e is =
        let short : length (signed_decimal (pos class)) ≤ 11 = dimen_length (pos class) (omega (arith, small)) in
        record {
          fit = subst (λ t. AllFit (if t then [] else class_slot (numbers_of cs) ∷ []) (decimal class ∷ [])) (sym e)
              (record { text = text.text; slot = read_none (is_foot_class (numbers_of cs)) causes.Class (integer_of (decimal class)) (pos class) number (and_from (not (int_lt (pos class) (pos 0))) (is_class_among (numbers_of cs) class) (not_below class) known) }, tt);
          short = omega arith;
          content = λ n. ap (λ r. contents.Foot (number_or r)) number;
        }
