-- What a line says is in its ranges: the test of each field implies its range.
use Rattle.std.proofs.Common.{◌≡◌, ℕ, ◌≤◌, ℤ, pos, negsuc, Bool, true, false, not, ◌||◌, ◌&&◌, ◌==◌, nat_lt, nat_le, nat_abs, List, [], ◌∷◌, Option, Some, None, Result, Ok, Err, IfOk, if◌then◌else◌, refl, arith, bytes_eq}
use Rattle.std.specs.Cmp.{first_so, second_so}
use Rattle.std.specs.Prelude.{int_lt, codes}
use Rattle.std.specs.List.{list_all, list_any}
use Rattle.std.proofs.lemmas.Bool.Decides.{nat_tests}
use Rattle.std.proofs.lemmas.Int.{ints}
use Rattle.std.proofs.lemmas.Bool.{or_left, or_right, and_from}
use Rattle.tb_scaled.specs.declared.Order.{Order}
use Rattle.tb_scaled.specs.declared.Order.TheVariants.{Normal}
use Rattle.tb_node.specs.Names.{is_name, is_between}
use Rattle.tb_node.specs.declared.Places.{Places}
use Rattle.tb_node.specs.declared.Float.{Float}
use Rattle.tb_node.specs.declared.Margin.{Margin}
use Rattle.tb_text.specs.declared.TextFault.{TextFault}
use Rattle.tb_text.specs.declared.TextFault.TheVariants.{BadNumber, BadUnit, Dimension}
use Rattle.tb_text.specs.Numbers.{has_no_digit, has_unit, in_points, whole_of, is_scaled, NumberPart, number_part, integer_of, dimension_of, dimension_by, stretch_by_order, points_order, scaled_order, with_order, within_dimen, signed, fraction_of_field}
use Rattle.tb_param.specs.Table.{is_within, is_dimen, is_glue, is_rule}
use Rattle.tb_galley.specs.declared.Cause.{Cause}
use Rattle.tb_galley.specs.declared.Cause.TheVariants as causes
use Rattle.tb_galley.specs.declared.ItemKind.TheVariants as items
use Rattle.tb_galley.specs.declared.classes.ClassLine.{ClassLine}
use Rattle.tb_galley.specs.declared.fields.At.{At}
use Rattle.tb_galley.specs.Fields.{Slot, name_slot, dimension_slot, least_slot, range_slot, stretch_slot, fraction_slot, places_slot, class_slot, is_class_among, is_foot_class, slot_cause, cause_of_read, cause_unless, are_places, is_place_byte, word_slot}
use Rattle.tb_galley.specs.Grammar.{read_or, places_at, has_byte}
use Rattle.tb_galley.specs.FieldReader.{Left, ◌>>=◌, at_fault, settled, next_left, field_read, dimension_in, integer_in, stretch_in, fraction_in, name_left, dimension_left, stretch_left, least_left, range_left, choice_left, places_left, sized_left, word_left, nobreak_by, nobreak_left, float_left, margin_left, glue_left, stretch_part, plus_part, shrink_part, minus_part, minus_next, next_is_by, is_end, mapped, fraction_left, value_left, class_left, named_class, foot_left, version_left, drawn_left, rule_left, rule_by, below_known, below_by, below_left, head_left, star_left, enlarge_left}
use Rattle.tb_galley.specs.Words.{Known, number_in, number_or, version_named}
use Rattle.tb_galley.specs.Valid.{is_size, is_float, is_margin, is_both, fits_kind, is_class, may_stand, is_version, is_head}
use Rattle.tb_param.specs.declared.table.Form.{Form}
use Rattle.tb_param.specs.declared.table.Form.TheVariants as forms
use Rattle.tb_param.specs.declared.Value.TheVariants as values
use Rattle.tb_param.specs.declared.Choice.TheVariants.{Flush, Ragged, On, Off, R2014, R2015, Keep, Drop, Above, Below}
use Rattle.tb_param.specs.Table.{out_of_range}
use Rattle.tb_param.specs.Ranges.{is_no_fault}
use Rattle.tb_param.proofs.RangeLemmas.{fits}

-- ---- what holds of each value that is read

pub bind_has : {A B : Type 0} (P : B → Type 0) (r : Result A At) (k : A → Result B At) → ((x : A) → IfOk (k x) P) → IfOk (r >>= k) P
bind_has P (Ok x) k h = h x
bind_has P (Err e) k h = tt

pub then_has : {A B : Type 0} (P : A → Type 0) (Q : B → Type 0) (r : Result A At) (k : A → Result B At) → IfOk r P → ((x : A) → P x → IfOk (k x) Q) → IfOk (r >>= k) Q
then_has P Q (Ok x) k h f = f x h
then_has P Q (Err e) k h f = tt

pub mapped_has : {X Y : Type 0} (P : Y → Type 0) (f : X → Y) (r : Result (X × Left) At) → IfOk r (λ x. P (f x.0)) → IfOk (mapped f r) (λ y. P y.0)
mapped_has P f (Ok x) h = h
mapped_has P f (Err e) h = tt

pub has_more : {X : Type 0} (P Q : X → Type 0) (r : Result X At) → ((x : X) → P x → Q x) → IfOk r P → IfOk r Q
has_more P Q (Ok x) f h = f x h
has_more P Q (Err e) f h = tt

pub settled_has : {X : Type 0} (P : X → Type 0) (n : ℕ) (o : Option Cause) (x : X) → (o ≡ None → P x) → IfOk (settled n o x) P
settled_has P n None x h = h refl
settled_has P n (Some c) x h = tt

-- what holds of each field that has no fault in its slot holds of what is read there
field_has : {X : Type 0} (P : X → Type 0) (s : Slot) (value : List ℕ → X) → ((f : List ℕ) → slot_cause s f ≡ None → P (value f)) → (l : Left) → IfOk (field_read s value l) (λ x. P x.0)
field_has P s value good l =
    bind_has (λ y. P y.0) (next_left l) (λ x. settled l.number (slot_cause s x.0) (value x.0, x.1))
    (λ x. settled_has (λ y. P y.0) l.number (slot_cause s x.0) (value x.0, x.1) (good x.0))

-- ---- the tests of slots

unless_none : (ok : Bool) (c : Cause) → cause_unless ok c ≡ None → ok ≡ true
unless_none true c h = refl
unless_none false c h = cc

passes : (ok : Bool) (c : Cause) → (if ok then None else Some c) ≡ None → ok ≡ true
passes true c h = refl
passes false c h = cc

read_none : {X : Type 0} (d : X) (test : X → Bool) (c : Cause) (r : Result X TextFault) → cause_of_read test c r ≡ None → test (read_or d r) ≡ true
read_none d test c (Ok v) h = passes (test v) c h
read_none d test c (Err e) h = cc

-- ---- amounts within the greatest dimension

signed_dimen : (negative : Bool) (n : ℕ) → n ≤ 1073741823 → is_dimen (signed negative n) ≡ true
signed_dimen negative n h = grind (arith, ints, nat_tests)

if_read : {X : Type 0} (test : X → Bool) (d : X) (t : Bool) (a b : Result X TextFault) → test (read_or d a) ≡ true → test (read_or d b) ≡ true → test (read_or d (if t then a else b)) ≡ true
if_read test d true a b h k = h
if_read test d false a b h k = k

within_by : (negative : Bool) (n : ℕ) (t : Bool) → t ≡ nat_lt 1073741823 n → is_dimen (read_or (pos 0) (if t then Err Dimension else Ok (signed negative n))) ≡ true
within_by negative n true h = refl
within_by negative n false h = let small : n ≤ 1073741823 = grind (arith, nat_tests) in signed_dimen negative n small

within_read : (negative : Bool) (n : ℕ) → is_dimen (read_or (pos 0) (within_dimen negative n)) ≡ true
within_read negative n = within_by negative n (nat_lt 1073741823 n) refl

part_read : (n : NumberPart) → is_dimen (read_or (pos 0) (dimension_by n)) ≡ true
part_read n =
    if_read is_dimen (pos 0) (has_no_digit n) (Err BadNumber) _ refl
    (if_read is_dimen (pos 0) (has_unit n (codes "pt")) _ _ (within_read n.negative (in_points n))
    (if_read is_dimen (pos 0) (is_scaled n) _ (Err BadUnit) (within_read n.negative (whole_of n)) refl))

dimension_dimen : (f : List ℕ) → is_dimen (dimension_in f) ≡ true
dimension_dimen f = part_read (number_part f)

abbrev is_dimen_pair : ℤ × Order → Bool
is_dimen_pair s = is_dimen s.0

ordered_read : (o : Order) (r : Result ℤ TextFault) → is_dimen (read_or (pos 0) r) ≡ true → is_dimen_pair (read_or (pos 0, Normal) (with_order o r)) ≡ true
ordered_read o (Ok v) h = h
ordered_read o (Err e) h = refl

by_order : (n : NumberPart) (o p : Option Order) → is_dimen_pair (read_or (pos 0, Normal) (stretch_by_order n o p)) ≡ true
by_order n (Some o) p = ordered_read o (within_dimen n.negative (in_points n)) (within_read n.negative (in_points n))
by_order n None (Some o) = ordered_read o (within_dimen n.negative (whole_of n)) (within_read n.negative (whole_of n))
by_order n None None = ordered_read Normal (dimension_by n) (part_read n)

stretch_dimen : (f : List ℕ) → is_dimen_pair (stretch_in f) ≡ true
stretch_dimen f =
    if_read is_dimen_pair (pos 0, Normal) (has_no_digit (number_part f)) (Err BadNumber) _ refl
    (by_order (number_part f) (points_order (number_part f)) (scaled_order (number_part f)))

-- ---- fields, from the left

pub always : {X : Type 0} {P : X → Type 0} → ((x : X) → P x) → (r : Result X At) → IfOk r P
always h (Ok x) = h x
always h (Err e) = tt

pub name_has : (l : Left) → IfOk (name_left l) (λ x. is_name x.0 ≡ true)
unfolding name_left
name_has l = field_has (λ f. is_name f ≡ true) name_slot (λ f. f) (λ f h. unless_none (is_name f) causes.BadName h) l

pub dimension_has : (l : Left) → IfOk (dimension_left l) (λ x. is_dimen x.0 ≡ true)
unfolding dimension_left
dimension_has l = field_has (λ v. is_dimen v ≡ true) dimension_slot dimension_in (λ f h. dimension_dimen f) l

stretch_has : (l : Left) → IfOk (stretch_left l) (λ x. is_dimen x.0.0 ≡ true)
unfolding stretch_left
stretch_has l = field_has (λ v. is_dimen v.0 ≡ true) stretch_slot stretch_in (λ f h. stretch_dimen f) l

least_dimen : (low v : ℤ) → not (int_lt v low) ≡ true → is_dimen v ≡ true → is_within low (pos 1073741823) v ≡ true
least_dimen low v h k = grind arith

pub least_has : (low : ℤ) (c : Cause) (l : Left) → IfOk (least_left low c l) (λ x. is_within low (pos 1073741823) x.0 ≡ true)
unfolding least_left
least_has low c l =
    field_has (λ v. is_within low (pos 1073741823) v ≡ true) (least_slot low c) dimension_in
    (λ f h. least_dimen low (dimension_in f) (read_none (pos 0) (λ v. not (int_lt v low)) c (dimension_of f) h) (dimension_dimen f)) l

pub range_has : (low high : ℤ) (c : Cause) (l : Left) → IfOk (range_left low high c l) (λ x. is_within low high x.0 ≡ true)
unfolding range_left
range_has low high c l =
    field_has (λ v. is_within low high v ≡ true) (range_slot low high c) integer_in
    (λ f h. read_none (pos 0) (is_within low high) c (integer_of f) h) l

fraction_has : (l : Left) → IfOk (fraction_left l) (λ x. is_within (pos 0) (pos 65536) x.0 ≡ true)
unfolding fraction_left
fraction_has l =
    field_has (λ v. is_within (pos 0) (pos 65536) v ≡ true) fraction_slot fraction_in
    (λ f h. read_none (pos 0) (is_within (pos 0) (pos 65536)) causes.Parameter (fraction_of_field f) h) l

-- ---- places

abbrev has_place : Places → Bool
has_place p = p.h || p.t || p.b || p.p

some_place : (a t b p e h1 t1 b1 p1 some : Bool) → (a || t || b || p || e) ≡ true → (not e || some) ≡ true → (some ≡ true → (h1 || t1 || b1 || p1) ≡ true)
    → ((a || h1) || (t || t1) || (b || b1) || (p || p1)) ≡ true
some_place true t b p e h1 t1 b1 p1 some h k more = refl
some_place false true b p e h1 t1 b1 p1 some h k more = or_left (h1 || true || (b || b1)) (p || p1) (or_left (h1 || true) (b || b1) (or_right h1 true refl))
some_place false false true p e h1 t1 b1 p1 some h k more = or_left (h1 || t1 || true) (p || p1) (or_right (h1 || t1) true refl)
some_place false false false true e h1 t1 b1 p1 some h k more = or_right (h1 || t1 || b1) true refl
some_place false false false false true h1 t1 b1 p1 some h k more = more k
some_place false false false false false h1 t1 b1 p1 some h k more = cc

places_some : (bs : List ℕ) → list_all is_place_byte bs ≡ true → list_any (λ b. not (b == 33)) bs ≡ true → has_place (places_at bs) ≡ true
places_some [] h k = cc
places_some (b ∷ bs) h k =
    some_place (b == 104) (b == 116) (b == 98) (b == 112) (b == 33) (has_byte 104 bs) (has_byte 116 bs) (has_byte 98 bs) (has_byte 112 bs) (list_any (λ c. not (c == 33)) bs)
    (first_so (is_place_byte b) (list_all is_place_byte bs) h) k (λ (m : list_any (λ c. not (c == 33)) bs ≡ true). places_some bs (second_so (is_place_byte b) (list_all is_place_byte bs) h) m)

places_has : (l : Left) → IfOk (places_left l) (λ x. has_place x.0.0 ≡ true)
unfolding places_left
places_has l = field_has (λ v. has_place v.0 ≡ true) places_slot (λ f. (places_at f, has_byte 33 f))
    (λ f h. places_some f (first_so (list_all is_place_byte f) _ (unless_none (are_places f) causes.BadPlace h)) (second_so (list_all is_place_byte f) _ (unless_none (are_places f) causes.BadPlace h))) l

-- ---- versions

pub version_has : (l : Left) → IfOk (version_left l) (λ x. is_version x.0 ≡ true)
unfolding version_left
version_has l =
    field_has (λ v. is_version v ≡ true) (word_slot (codes "1" ∷ codes "2" ∷ codes "3" ∷ []) causes.NoHeader) version_named
    (λ f h. some_version (bytes_eq f (codes "3")) (bytes_eq f (codes "2"))) l
  where
    some_version : (third second : Bool) → is_version (if third then 3 else (if second then 2 else 1)) ≡ true
    some_version true second = refl
    some_version false true = refl
    some_version false false = refl

-- ---- glue and boxes

glue_dimens : (w s z : ℤ) → is_dimen w ≡ true → is_dimen s ≡ true → is_dimen z ≡ true → (is_dimen w && is_dimen s && is_dimen z) ≡ true
glue_dimens w s z h k m = and_from (is_dimen w && is_dimen s) (is_dimen z) (and_from (is_dimen w) (is_dimen s) h k) m

plus_has : (l : Left) (t : Bool) → IfOk (plus_part l t) (λ x. is_dimen x.0.0 ≡ true)
plus_has l true = bind_has (λ x. is_dimen x.0.0 ≡ true) (next_left l) (λ x. stretch_left x.1) (λ x. stretch_has x.1)
plus_has l false = refl

minus_next_has : (c : Cause) (l : Left) (t : Bool) → IfOk (minus_next c l t) (λ x. is_dimen x.0 ≡ true)
minus_next_has c l true = bind_has (λ x. is_dimen x.0 ≡ true) (next_left l) (λ x. dimension_left x.1) (λ x. dimension_has x.1)
minus_next_has c l false = bind_has (λ x. is_dimen x.0 ≡ true) (next_left l) (λ x. at_fault l.number c) (λ x. tt)

minus_has : (c : Cause) (l : Left) (t : Bool) → IfOk (minus_part c l t) (λ x. is_dimen x.0 ≡ true)
minus_has c l true = refl
minus_has c l false = minus_next_has c l (next_is_by (codes "minus") l.fields)

pub glue_has : (c : Cause) (l : Left) → IfOk (glue_left c l) (λ x. is_glue x.0 ≡ true)
unfolding glue_left stretch_part shrink_part
glue_has c l =
    then_has (λ w. is_dimen w.0 ≡ true) (λ x. is_glue x.0 ≡ true) (dimension_left l) _ (dimension_has l)
    (λ w in_w. then_has (λ s. is_dimen s.0.0 ≡ true) (λ x. is_glue x.0 ≡ true) (plus_part w.1 (next_is_by (codes "plus") w.1.fields)) _ (plus_has w.1 (next_is_by (codes "plus") w.1.fields))
    (λ s in_s. then_has (λ z. is_dimen z.0 ≡ true) (λ x. is_glue x.0 ≡ true) (minus_part c s.1 (is_end s.1.fields)) _ (minus_has c s.1 (is_end s.1.fields))
    (λ z in_z. glue_dimens w.0 s.0.0 z.0 in_w in_s in_z)))

abbrev pub is_sized : List ℕ × ℤ × ℤ → Bool
is_sized s = is_name s.0 && is_size s.1 && is_size s.2

pub sized_has : (l : Left) → IfOk (sized_left l) (λ x. is_sized x.0 ≡ true)
unfolding sized_left
sized_has l =
    then_has (λ n. is_name n.0 ≡ true) (λ x. is_sized x.0 ≡ true) (name_left l) _ (name_has l)
    (λ n in_n. then_has (λ h. is_size h.0 ≡ true) (λ x. is_sized x.0 ≡ true) (least_left (pos 0) causes.Dimension n.1) _ (least_has (pos 0) causes.Dimension n.1)
    (λ h in_h. then_has (λ d. is_size d.0 ≡ true) (λ x. is_sized x.0 ≡ true) (least_left (pos 0) causes.Dimension h.1) _ (least_has (pos 0) causes.Dimension h.1)
    (λ d in_d. and_from (is_name n.0 && is_size h.0) (is_size d.0) (and_from (is_name n.0) (is_size h.0) in_n in_h) in_d)))

-- ---- floats and marginal notes

class_between : (v : ℤ) → is_within (pos 1) (pos 26) v ≡ true → is_between 1 26 (nat_abs v) ≡ true
class_between (pos n) h = grind (arith, nat_tests)
class_between (negsuc n) h = cc

pub degree_at_most : (v : ℤ) → is_within (pos 0) (pos 4) v ≡ true → nat_le (nat_abs v) 4 ≡ true
degree_at_most (pos n) h = grind (arith, nat_tests)
degree_at_most (negsuc n) h = cc

pub page_at_most : (v : ℤ) → is_within (pos 0) (pos 1000000) v ≡ true → nat_le (nat_abs v) 1000000 ≡ true
page_at_most (pos n) h = grind (arith, nat_tests)
page_at_most (negsuc n) h = cc

same_number : (n : ℕ) → (n == n) ≡ true
same_number n = grind (arith, nat_tests)

abbrev pub is_float_at : ℕ → Float × Bool → Bool
is_float_at line f = (f.0.line == line) && is_float f.0

or-true : (b : Bool) → (b || true) ≡ true
or-true true = refl
or-true false = refl

both_self : (b : Bool) → is_both b b ≡ true
both_self true = refl
both_self false = refl

nobreak_has : (version : ℕ) (l : Left) → IfOk (nobreak_left version l) (λ x. (not x.0 || (version == 3)) ≡ true)
unfolding nobreak_left
nobreak_has version l = by_test (version == 3) (is_end l.fields)
  where
    by_test : (t e : Bool) → IfOk (nobreak_by l (not t || e)) (λ x. (not x.0 || t) ≡ true)
    by_test true true = refl
    by_test true false = always (λ x. or-true (not x.0)) (word_left (codes "nobreak") causes.UnknownWord l)
    by_test false e = refl

-- a float of a line is in its ranges, and the version has what it has
abbrev pub IsFloatOf : ℕ → ℕ → Float × Bool → Type 0
IsFloatOf version line f = (is_float_at line f ≡ true) × (fits_kind version (items.Float f.0 f.1) ≡ true)

pub float_has : (version line : ℕ) (l : Left) → IfOk (float_left version line l) (λ x. IsFloatOf version line x.0)
unfolding float_left
float_has version line l =
    then_has (λ n. is_name n.0 ≡ true) (λ x. IsFloatOf version line x.0) (name_left l) _ (name_has l)
    (λ n in_n. then_has (λ c. is_within (pos 1) (pos 26) c.0 ≡ true) (λ x. IsFloatOf version line x.0) (range_left (pos 1) (pos 26) causes.Class n.1) _ (range_has (pos 1) (pos 26) causes.Class n.1)
    (λ c in_c. bind_has (λ x. IsFloatOf version line x.0) (choice_left (codes "single") (codes "double") causes.UnknownWord c.1) _
    (λ w. then_has (λ p. has_place p.0.0 ≡ true) (λ x. IsFloatOf version line x.0) (places_left w.1) _ (places_has w.1)
    (λ p in_p. then_has (λ h. is_size h.0 ≡ true) (λ x. IsFloatOf version line x.0) (least_left (pos 0) causes.Dimension p.1) _ (least_has (pos 0) causes.Dimension p.1)
    (λ h in_h. bind_has (λ x. IsFloatOf version line x.0) (choice_left (codes "par") (codes "vert") causes.UnknownWord h.1) _
    (λ v. then_has (λ y. (not y.0 || (version == 3)) ≡ true) (λ x. IsFloatOf version line x.0) (nobreak_left version v.1) _ (nobreak_has version v.1)
    (λ y in_y. (
      and_from (line == line) _ (same_number line)
          (and_from (is_name n.0 && is_between 1 26 (nat_abs c.0) && has_place p.0.0) (is_size h.0)
          (and_from (is_name n.0 && is_between 1 26 (nat_abs c.0)) (has_place p.0.0) (and_from (is_name n.0) (is_between 1 26 (nat_abs c.0)) in_n (class_between c.0 in_c)) in_p) in_h),
      and_from (is_both (w.0 && (version == 3)) (w.0 && (version == 3))) (not y.0 || (version == 3)) (both_self (w.0 && (version == 3))) in_y,
    ))))))))

abbrev pub is_margin_at : ℕ → Margin × Bool → Bool
is_margin_at line m = (m.0.line == line) && is_margin m.0

-- a marginal note of a line is in its ranges, and the version has what it has
abbrev pub IsMarginOf : ℕ → ℕ → Margin × Bool → Type 0
IsMarginOf version line m = (is_margin_at line m ≡ true) × (fits_kind version (items.Margin m.0 m.1) ≡ true)

pub margin_has : (version line : ℕ) (l : Left) → IfOk (margin_left version line l) (λ x. IsMarginOf version line x.0)
unfolding margin_left
margin_has version line l =
    then_has (λ s. is_sized s.0 ≡ true) (λ x. IsMarginOf version line x.0) (sized_left l) _ (sized_has l)
    (λ s in_s. then_has (λ h. is_size h.0 ≡ true) (λ x. IsMarginOf version line x.0) (least_left (pos 0) causes.Dimension s.1) _ (least_has (pos 0) causes.Dimension s.1)
    (λ h in_h. then_has (λ d. is_size d.0 ≡ true) (λ x. IsMarginOf version line x.0) (least_left (pos 0) causes.Dimension h.1) _ (least_has (pos 0) causes.Dimension h.1)
    (λ d in_d. bind_has (λ x. IsMarginOf version line x.0) (choice_left (codes "par") (codes "vert") causes.UnknownWord d.1) _
    (λ v. then_has (λ y. (not y.0 || (version == 3)) ≡ true) (λ x. IsMarginOf version line x.0) (nobreak_left version v.1) _ (nobreak_has version v.1)
    (λ y in_y. (and_from (line == line) _ (same_number line) (and_from (is_sized s.0 && is_size h.0) (is_size d.0) (and_from (is_sized s.0) (is_size h.0) in_s in_h) in_d), in_y))))))

-- ---- a title, and a page that is made higher

abbrev pub is_head_at : ℕ → Float → Bool
is_head_at line f = (f.line == line) && is_head f

pub head_has : (line : ℕ) (l : Left) → IfOk (head_left line l) (λ x. is_head_at line x.0 ≡ true)
unfolding head_left
head_has line l =
    then_has (λ n. is_name n.0 ≡ true) (λ x. is_head_at line x.0 ≡ true) (name_left l) _ (name_has l)
    (λ n in_n. then_has (λ h. is_size h.0 ≡ true) (λ x. is_head_at line x.0 ≡ true) (least_left (pos 0) causes.Dimension n.1) _ (least_has (pos 0) causes.Dimension n.1)
    (λ h in_h. and_from (line == line) _ (same_number line) (and_from (is_name n.0 && is_size h.0) true (and_from (is_name n.0) (is_size h.0) in_n in_h) refl)))

pub enlarge_has : (l : Left) → IfOk (enlarge_left l) (λ x. is_dimen x.0.0 ≡ true)
unfolding enlarge_left
enlarge_has l =
    then_has (λ w. is_dimen w.0 ≡ true) (λ x. is_dimen x.0.0 ≡ true) (dimension_left l) _ (dimension_has l)
    (λ w in_w. bind_has (λ x. is_dimen x.0.0 ≡ true) (star_left w.1) _ (λ s. in_w))

-- ---- values of parameters

if_fits : (o : Bool) → o ≡ true → is_no_fault (out_of_range o) ≡ true
if_fits true h = refl
if_fits false h = cc

bottom_word : (b : Bool) → fits forms.Bottom (values.Word (if b then Flush else Ragged)) ≡ true
bottom_word true = refl
bottom_word false = refl

switch_word : (b : Bool) → fits forms.Switch (values.Word (if b then On else Off)) ≡ true
switch_word true = refl
switch_word false = refl

release_word : (b : Bool) → fits forms.Release (values.Word (if b then R2015 else R2014)) ≡ true
release_word true = refl
release_word false = refl

foot_depth_word : (b : Bool) → fits forms.FootDepth (values.Word (if b then Drop else Keep)) ≡ true
foot_depth_word true = refl
foot_depth_word false = refl

foot_place_word : (b : Bool) → fits forms.FootPlace (values.Word (if b then Below else Above)) ≡ true
foot_place_word true = refl
foot_place_word false = refl

drawn_has : (l : Left) → IfOk (drawn_left l) (λ x. is_rule x.0 ≡ true)
unfolding drawn_left
drawn_has l =
    then_has (λ a. is_dimen a.0 ≡ true) (λ x. is_rule x.0 ≡ true) (dimension_left l) _ (dimension_has l)
    (λ a in_a. then_has (λ h. is_size h.0 ≡ true) (λ x. is_rule x.0 ≡ true) (least_left (pos 0) causes.Parameter a.1) _ (least_has (pos 0) causes.Parameter a.1)
    (λ h in_h. then_has (λ b. is_dimen b.0 ≡ true) (λ x. is_rule x.0 ≡ true) (dimension_left h.1) _ (dimension_has h.1)
    (λ b in_b. and_from (is_dimen a.0 && is_size h.0) (is_dimen b.0) (and_from (is_dimen a.0) (is_size h.0) in_a in_h) in_b)))

rule_has : (l : Left) → IfOk (rule_left l) (λ x. is_rule x.0 ≡ true)
unfolding rule_left
rule_has l = by_word (next_is_by (codes "none") l.fields)
  where
    by_word : (t : Bool) → IfOk (rule_by l t) (λ x. is_rule x.0 ≡ true)
    by_word true = bind_has (λ x. is_rule x.0 ≡ true) (next_left l) (λ x. Ok (None, x.1)) (λ x. refl)
    by_word false = drawn_has l

pub value_has : (form : Form) (l : Left) → IfOk (value_left form l) (λ x. fits form x.0 ≡ true)
unfolding value_left
value_has (forms.Int low high) l =
    mapped_has (λ v. fits (forms.Int low high) v ≡ true) (λ n. values.Int n) (range_left low high causes.Parameter l)
    (has_more (λ x. is_within low high x.0 ≡ true) (λ x. fits (forms.Int low high) (values.Int x.0) ≡ true) (range_left low high causes.Parameter l) (λ x h. if_fits (is_within low high x.0) h) (range_has low high causes.Parameter l))
value_has (forms.Dim low) l =
    mapped_has (λ v. fits (forms.Dim low) v ≡ true) (λ n. values.Dim n) (least_left low causes.Parameter l)
    (has_more (λ x. is_within low (pos 1073741823) x.0 ≡ true) (λ x. fits (forms.Dim low) (values.Dim x.0) ≡ true) (least_left low causes.Parameter l) (λ x h. if_fits (is_within low (pos 1073741823) x.0) h) (least_has low causes.Parameter l))
value_has forms.Frac l =
    mapped_has (λ v. fits forms.Frac v ≡ true) (λ n. values.Frac n) (fraction_left l)
    (has_more (λ x. is_within (pos 0) (pos 65536) x.0 ≡ true) (λ x. fits forms.Frac (values.Frac x.0) ≡ true) (fraction_left l) (λ x h. if_fits (is_within (pos 0) (pos 65536) x.0) h) (fraction_has l))
value_has forms.Skip l =
    mapped_has (λ v. fits forms.Skip v ≡ true) (λ g. values.Skip g) (glue_left causes.WrongForm l)
    (has_more (λ x. is_glue x.0 ≡ true) (λ x. fits forms.Skip (values.Skip x.0) ≡ true) (glue_left causes.WrongForm l) (λ x h. if_fits (is_glue x.0) h) (glue_has causes.WrongForm l))
value_has forms.Bottom l =
    mapped_has (λ v. fits forms.Bottom v ≡ true) (λ b. values.Word (if b then Flush else Ragged)) (choice_left (codes "ragged") (codes "flush") causes.WrongForm l)
    (always (λ x. bottom_word x.0) (choice_left (codes "ragged") (codes "flush") causes.WrongForm l))
value_has forms.Switch l =
    mapped_has (λ v. fits forms.Switch v ≡ true) (λ b. values.Word (if b then On else Off)) (choice_left (codes "off") (codes "on") causes.WrongForm l)
    (always (λ x. switch_word x.0) (choice_left (codes "off") (codes "on") causes.WrongForm l))
value_has forms.Release l =
    mapped_has (λ v. fits forms.Release v ≡ true) (λ b. values.Word (if b then R2015 else R2014)) (choice_left (codes "2014") (codes "2015") causes.WrongForm l)
    (always (λ x. release_word x.0) (choice_left (codes "2014") (codes "2015") causes.WrongForm l))
value_has forms.Rule l =
    mapped_has (λ v. fits forms.Rule v ≡ true) (λ r. values.Rule r) (rule_left l)
    (has_more (λ x. is_rule x.0 ≡ true) (λ x. fits forms.Rule (values.Rule x.0) ≡ true) (rule_left l) (λ x h. if_fits (is_rule x.0) h) (rule_has l))
value_has forms.FootDepth l =
    mapped_has (λ v. fits forms.FootDepth v ≡ true) (λ b. values.Word (if b then Drop else Keep)) (choice_left (codes "keep") (codes "drop") causes.WrongForm l)
    (always (λ x. foot_depth_word x.0) (choice_left (codes "keep") (codes "drop") causes.WrongForm l))
value_has forms.FootPlace l =
    mapped_has (λ v. fits forms.FootPlace v ≡ true) (λ b. values.Word (if b then Below else Above)) (choice_left (codes "above") (codes "below") causes.WrongForm l)
    (always (λ x. foot_place_word x.0) (choice_left (codes "above") (codes "below") causes.WrongForm l))

-- ---- classes

number_at_most : (v : ℤ) → is_within (pos 0) (pos 253) v ≡ true → nat_le (nat_abs v) 253 ≡ true
number_at_most (pos n) h = grind (arith, nat_tests)
number_at_most (negsuc n) h = cc

below_has : (version : ℕ) (l : Left) → IfOk (below_left version l) (λ x. may_stand version x.0 ≡ true)
unfolding below_left
below_has version l = by_word (next_is_by (codes "below") l.fields)
  where
    by_version : (t : Bool) → nat_le 3 version ≡ t → IfOk (below_known l t) (λ x. may_stand version x.0 ≡ true)
    by_version true e =
        bind_has (λ x. may_stand version x.0 ≡ true) (next_left l) (λ x. mapped (λ r. Some r) (rule_left x.1))
        (λ x. mapped_has (λ b. may_stand version b ≡ true) (λ r. Some r) (rule_left x.1)
        (has_more (λ y. is_rule y.0 ≡ true) (λ y. may_stand version (Some y.0) ≡ true) (rule_left x.1) (λ y h. and_from (nat_le 3 version) (is_rule y.0) e h) (rule_has x.1)))
    by_version false e = bind_has (λ x. may_stand version x.0 ≡ true) (next_left l) (λ x. at_fault l.number causes.BadNumber) (λ x. tt)

    by_word : (t : Bool) → IfOk (below_by version l t) (λ x. may_stand version x.0 ≡ true)
    by_word true = by_version (nat_le 3 version) refl
    by_word false = refl

-- a class in its ranges that may stand where it does in a galley of the version
abbrev pub IsClassIn : ℕ → ClassLine → Type 0
IsClassIn version c = (is_class c ≡ true) × (may_stand version c.below ≡ true)

pub class_has : (version line : ℕ) (l : Left) → IfOk (class_left version line l) (λ x. IsClassIn version x.0)
unfolding class_left
class_has version line l =
    then_has (λ n. is_within (pos 0) (pos 253) n.0 ≡ true) (λ x. IsClassIn version x.0) (range_left (pos 0) (pos 253) causes.Class l) _ (range_has (pos 0) (pos 253) causes.Class l)
    (λ n in_n. then_has (λ f. is_within (pos 0) (pos 10000) f.0 ≡ true) (λ x. IsClassIn version x.0) (range_left (pos 0) (pos 10000) causes.Parameter n.1) _ (range_has (pos 0) (pos 10000) causes.Parameter n.1)
    (λ f in_f. then_has (λ m. is_size m.0 ≡ true) (λ x. IsClassIn version x.0) (least_left (pos 0) causes.Dimension f.1) _ (least_has (pos 0) causes.Dimension f.1)
    (λ m in_m. then_has (λ b. may_stand version b.0 ≡ true) (λ x. IsClassIn version x.0) (below_left version m.1) _ (below_has version m.1)
    (λ b in_b. then_has (λ g. is_glue g.0 ≡ true) (λ x. IsClassIn version x.0) (glue_left causes.UnknownWord b.1) _ (glue_has causes.UnknownWord b.1)
    (λ g in_g. (
      and_from (nat_le (nat_abs n.0) 253 && is_within (pos 0) (pos 10000) f.0 && is_size m.0) (is_glue g.0)
          (and_from (nat_le (nat_abs n.0) 253 && is_within (pos 0) (pos 10000) f.0) (is_size m.0) (and_from (nat_le (nat_abs n.0) 253) (is_within (pos 0) (pos 10000) f.0) (number_at_most n.0 in_n) in_f) in_m) in_g,
      in_b,
    ))))))

number_among : (ks : List ℕ) (r : Result ℤ TextFault) → is_foot_class ks (read_or (pos 0) r) ≡ true → is_class_among ks (number_or r) ≡ true
number_among ks (Ok v) h = second_so (not (int_lt v (pos 0))) (is_class_among ks (nat_abs v)) h
number_among ks (Err e) h = second_so (not (int_lt (pos 0) (pos 0))) (is_class_among ks 0) h

named_has : (ks : List ℕ) (l : Left) (t : Bool) → IfOk (named_class ks l t) (λ x. is_class_among ks x.0 ≡ true)
named_has ks l true = refl
named_has ks l false =
    field_has (λ n. is_class_among ks n ≡ true) (class_slot ks) number_in
    (λ f h. number_among ks (integer_of f) (read_none (pos 0) (is_foot_class ks) causes.Class (integer_of f) h)) l

pub foot_has : (k : Known) (l : Left) → IfOk (foot_left k l) (λ x. is_class_among k.classes x.0 ≡ true)
unfolding foot_left
foot_has k l = named_has k.classes l ((k.version == 1) || is_end l.fields)
