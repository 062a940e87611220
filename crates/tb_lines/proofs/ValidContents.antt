-- What is read from a line without a fault has its values in their ranges.
use Rattle.std.proofs.Common.{◌≡◌, refl, sym, ◌∙◌, ap, subst, ℕ, ◌+◌, ◌≤◌, ℤ, pos, negsuc, nat_abs, Bool, true, false, ◌&&◌, ◌||◌, nat_lt, nat_le, List, [], ◌∷◌, length, Option, Some, None, Result, Ok, Err, IfOk, if◌then◌else◌, arith}
use Rattle.std.specs.Prelude.{◌≤ℤ◌}
use Rattle.std.specs.List.{list_all}
use Rattle.std.proofs.lemmas.Int.{ints}
use Rattle.std.proofs.lemmas.Bool.{true≢false}
use Rattle.std.proofs.lemmas.Bool.Decides.{nat_tests}
use Rattle.tb_text.specs.Lines.{fields_of, is_skipped}
use Rattle.tb_param.specs.Table.{is_within}
use Rattle.tb_galley.specs.declared.Cause.{Cause}
use Rattle.tb_galley.specs.declared.Cause.TheVariants as causes
use Rattle.tb_galley.specs.declared.fields.At.{At}
use Rattle.tb_galley.specs.Faults.{is_printable, cause_if}
use Rattle.tb_galley.specs.Fields.{Slot, cause_unless, slot_cause}
use Rattle.tb_galley.specs.Line.{first_of}
use Rattle.tb_galley.specs.FieldReader.{Left, ◌>>=◌, at_fault, next_left, settled, field_read, least_left, range_left, end_left, finished, mapped}
use Rattle.tb_galley.proofs.InRange.{least_has, range_has}
use Rattle.tb_lines.specs.declared.text.Item.{Item}
use Rattle.tb_lines.specs.declared.text.Item.TheVariants as items
use Rattle.tb_lines.specs.declared.words.Form.TheVariants as forms
use Rattle.tb_lines.specs.declared.words.Parameter.TheVariants as parameters
use Rattle.tb_lines.specs.declared.contents.Content.TheVariants as contents
use Rattle.tb_lines.specs.Words.{LineWord, header, setting, par, word, space, pen, endpar, end, Phase, Line, line_at, content_at, counts_word, is_inner_word, is_full}
use Rattle.tb_lines.specs.Fields.{Parameter, Form, form_of, parameter_of, name_slot, is_par_name, missing_cause}
use Rattle.tb_lines.specs.Faults.{place_causes, item_causes}
use Rattle.tb_lines.specs.Grammar.{Content, holds_item}
use Rattle.tb_lines.specs.FieldReader.{name_left, size_left, header_left, value_left, set_by, set_left, sizes_left, word_left, space_left, pen_left, content_left}
use Rattle.tb_lines.specs.Line.{Said, said, worded_left, content_line, content_lines, line_left}
use Rattle.tb_lines.specs.ValidText.{IsSize, IsValidItem}

-- ---- readings that have no fault

bind_ok : {A B : Type 0} (r : Result A At) (f : A → Result B At) (y : B) → (r >>= f) ≡ Ok y → (x : A) × (r ≡ Ok x) × (f x ≡ Ok y)
bind_ok (Ok x) f y h = (x, refl, h)
bind_ok (Err e) f y h = absurd (cc)

settled_ok : {X : Type 0} (n : ℕ) (o : Option Cause) (x y : X) → settled n o x ≡ Ok y → (o ≡ None) × (x ≡ y)
settled_ok n None x y h = (refl, cc)
settled_ok n (Some c) x y h = absurd (cc)

mapped_ok : {X Y : Type 0} (f : X → Y) (r : Result (X × Left) At) (y : Y × Left) → mapped f r ≡ Ok y → (x : X × Left) × (r ≡ Ok x) × (f x.0 ≡ y.0)
mapped_ok f (Ok x) y h = (x, refl, let e : (f x.0, x.1) ≡ y = cc in ap (λ p. p.0) e)
mapped_ok f (Err e) y h = absurd (cc)

field_ok : {X : Type 0} (s : Slot) (value : List ℕ → X) (l : Left) (y : X × Left) → field_read s value l ≡ Ok y → (f : List ℕ) × (slot_cause s f ≡ None) × (value f ≡ y.0)
field_ok s value l y h =
    let b = bind_ok (next_left l) (λ x. settled l.number (slot_cause s x.0) (value x.0, x.1)) y h in
    let e = settled_ok l.number (slot_cause s b.0.0) (value b.0.0, b.0.1) y b.2 in
    (b.0.0, e.0, ap (λ p. p.0) e.1)

-- what holds of each value that is read holds of this one
has : {X : Type 0} (P : X → Type 0) (r : Result X At) (x : X) → r ≡ Ok x → IfOk r P → P x
has P (Ok y) x is h = let same : y ≡ x = cc in subst P same h
has P (Err e) x is h = absurd (cc)

within_range : (low high v : ℤ) → is_within low high v ≡ true → (low ≤ℤ v) × (v ≤ℤ high)
within_range low high v h = (grind (arith, ints), grind (arith, ints))

pub least_ok : (low : ℤ) (c : Cause) (l : Left) (y : ℤ × Left) → least_left low c l ≡ Ok y → (low ≤ℤ y.0) × (y.0 ≤ℤ pos 1073741823)
least_ok low c l y h = within_range low (pos 1073741823) y.0 (has (λ x. is_within low (pos 1073741823) x.0 ≡ true) (least_left low c l) y h (least_has low c l))

size_of_dimension : (low v : ℤ) → pos 0 ≤ℤ low → low ≤ℤ v → v ≤ℤ pos 1073741823 → (nat_abs low ≤ nat_abs v) × (nat_abs v ≤ 1073741823)
size_of_dimension (pos a) (pos n) h t s = (omega (arith, ints), omega (arith, ints))
size_of_dimension (pos a) (negsuc n) h t s = absurd (omega (arith, ints))
size_of_dimension (negsuc a) v h t s = absurd (omega (arith, ints))

size_ok : (low : ℤ) (c : Cause) (l : Left) (y : ℕ × Left) → pos 0 ≤ℤ low → size_left low c l ≡ Ok y → (nat_abs low ≤ y.0) × (y.0 ≤ 1073741823)
unfolding size_left
size_ok low c l y at_least h =
    let m = mapped_ok nat_abs (least_left low c l) y h in
    let r = least_ok low c l m.0 m.1 in
    subst (λ n. (nat_abs low ≤ n) × (n ≤ 1073741823)) m.2 (size_of_dimension low m.0.0 at_least r.0 r.1)

range_ok : (low high : ℤ) (c : Cause) (l : Left) (y : ℤ × Left) → range_left low high c l ≡ Ok y → (low ≤ℤ y.0) × (y.0 ≤ℤ high)
range_ok low high c l y h = within_range low high y.0 (has (λ x. is_within low high x.0 ≡ true) (range_left low high c l) y h (range_has low high c l))

name_ok : (l : Left) (y : List ℕ × Left) → name_left l ≡ Ok y → is_par_name y.0 ≡ true
unfolding name_left
name_ok l y h =
    let r = field_ok name_slot (λ f. f) l y h in
    ap is_par_name (sym r.2) ∙ tested (is_par_name r.0) r.1
  where
    tested : (t : Bool) → cause_unless t causes.BadName ≡ None → t ≡ true
    tested true e = refl
    tested false e = absurd (cc)

-- ---- what a line says

-- a value in the range of its form
abbrev pub IsFormValue : Form → ℕ → Type 0
IsFormValue (forms.Dimension low) v = (nat_abs low ≤ v) × (v ≤ 1073741823)
IsFormValue (forms.Integer high) v = v ≤ nat_abs high

abbrev pub IsValidContent : Content → Type 0
IsValidContent contents.Header = Unit {0}
IsValidContent (contents.Set p v) = IsFormValue (form_of p) v
IsValidContent (contents.Par name) = is_par_name name ≡ true
IsValidContent (contents.Item i) = IsValidItem i
IsValidContent contents.Endpar = Unit {0}
IsValidContent contents.End = Unit {0}

-- the content of a line that counts
abbrev pub adds_weight : Content → Bool
adds_weight (contents.Par name) = true
adds_weight (contents.Item i) = true
adds_weight _ = false

-- a least dimension is at least 0
abbrev IsLow : Form → Type 0
IsLow (forms.Dimension low) = pos 0 ≤ℤ low
IsLow (forms.Integer high) = Unit {0}

low_is : (p : Parameter) → IsLow (form_of p)
low_is parameters.Tolerance = tt
low_is parameters.LinePenalty = tt
low_is parameters.ClubPenalty = tt
low_is parameters.WidowPenalty = tt
low_is p = omega (arith, ints)

value_ok : (form : Form) (l : Left) (y : ℕ × Left) → IsLow form → value_left form l ≡ Ok y → IsFormValue form y.0
unfolding value_left
value_ok (forms.Dimension low) l y is h = size_ok low causes.Parameter l y is h
value_ok (forms.Integer high) l y is h =
    let m = mapped_ok nat_abs (range_left (pos 0) high causes.Parameter l) y h in
    let r = range_ok (pos 0) high causes.Parameter l m.0 m.1 in
    subst (λ n. n ≤ nat_abs high) m.2 (at_most m.0.0 high r.0 r.1)
  where
    at_most : (v high : ℤ) → pos 0 ≤ℤ v → v ≤ℤ high → nat_abs v ≤ nat_abs high
    at_most (pos n) (pos m) a b = omega (arith, ints)
    at_most (pos n) (negsuc m) a b = absurd (omega (arith, ints))
    at_most (negsuc n) high a b = absurd (omega (arith, ints))

set_ok : (l : Left) (y : Content × Left) → set_left l ≡ Ok y → IsValidContent y.0 × (adds_weight y.0 ≡ false) × (holds_item y.0 ≡ false)
unfolding set_left
set_ok l y h =
    let b = bind_ok (next_left l) (λ x. set_by l.number x.1 (parameter_of x.0)) y h in
    by_parameter b.0.1 (parameter_of b.0.0) b.2
  where
    by_parameter : (m : Left) (o : Option Parameter) → set_by l.number m o ≡ Ok y → IsValidContent y.0 × (adds_weight y.0 ≡ false) × (holds_item y.0 ≡ false)
    by_parameter m None e = absurd (cc)
    by_parameter m (Some p) e =
        let r = mapped_ok (λ v. contents.Set p v) (value_left (form_of p) m) y e in
        subst (λ k. IsValidContent k × (adds_weight k ≡ false) × (holds_item k ≡ false)) r.2 (value_ok (form_of p) m r.0 (low_is p) r.1, refl, refl)

sizes_ok : (l : Left) (y : (ℕ × ℕ × ℕ) × Left) → sizes_left l ≡ Ok y → IsSize y.0.0 × IsSize y.0.1 × IsSize y.0.2
sizes_ok l y h =
    let a = bind_ok (size_left (pos 0) causes.Dimension l) (λ a. size_left (pos 0) causes.Dimension a.1 >>= λ b. size_left (pos 0) causes.Dimension b.1 >>= λ c. Ok ((a.0, b.0, c.0), c.1)) y h in
    let b = bind_ok (size_left (pos 0) causes.Dimension a.0.1) (λ b. size_left (pos 0) causes.Dimension b.1 >>= λ c. Ok ((a.0.0, b.0, c.0), c.1)) y a.2 in
    let c = bind_ok (size_left (pos 0) causes.Dimension b.0.1) (λ c. Ok ((a.0.0, b.0.0, c.0), c.1)) y b.2 in
    let same : ((a.0.0, b.0.0, c.0.0), c.0.1) ≡ y = cc in
    let zero_is : pos 0 ≤ℤ pos 0 = omega (arith, ints) in
    subst (λ p. IsSize p.0.0 × IsSize p.0.1 × IsSize p.0.2) same
    ((size_ok (pos 0) causes.Dimension l a.0 zero_is a.1).1, (size_ok (pos 0) causes.Dimension a.0.1 b.0 zero_is b.1).1, (size_ok (pos 0) causes.Dimension b.0.1 c.0 zero_is c.1).1)

word_ok : (l : Left) (y : Item × Left) → word_left l ≡ Ok y → IsValidItem y.0
unfolding word_left
word_ok l y h = let r = mapped_ok (λ s. items.Word s.0 s.1 s.2) (sizes_left l) y h in subst IsValidItem r.2 (sizes_ok l r.0 r.1)

space_ok : (l : Left) (y : Item × Left) → space_left l ≡ Ok y → IsValidItem y.0
unfolding space_left
space_ok l y h = let r = mapped_ok (λ s. items.Space s.0 s.1 s.2) (sizes_left l) y h in subst IsValidItem r.2 (sizes_ok l r.0 r.1)

pen_ok : (l : Left) (y : Item × Left) → pen_left l ≡ Ok y → IsValidItem y.0
unfolding pen_left
pen_ok l y h =
    let r = mapped_ok (λ p. items.Penalty p) (range_left (negsuc 9999) (pos 10000) causes.Penalty l) y h in
    subst IsValidItem r.2 (range_ok (negsuc 9999) (pos 10000) causes.Penalty l r.0 r.1)

-- what the word of a line says of its content
abbrev IsSaid : LineWord → Content → Type 0
IsSaid w k = IsValidContent k × (adds_weight k ≡ true → counts_word w ≡ true) × (holds_item k ≡ true → is_inner_word w ≡ true)

no_truth : {P : Type 0} → false ≡ true → P
no_truth e = absurd (true≢false (sym e))

content_ok : (w : LineWord) (l : Left) (y : Content × Left) → content_left w l ≡ Ok y → IsSaid w y.0
unfolding content_left
content_ok header l y h = let r = mapped_ok (λ x. contents.Header) (header_left l) y h in subst (IsSaid header) r.2 (tt, λ e. no_truth e, λ e. no_truth e)
content_ok setting l y h = let r = set_ok l y h in (r.0, λ e. absurd (true≢false (sym e ∙ r.1)), λ e. absurd (true≢false (sym e ∙ r.2)))
content_ok par l y h = let r = mapped_ok (λ n. contents.Par n) (name_left l) y h in subst (IsSaid par) r.2 (name_ok l r.0 r.1, λ e. refl, λ e. no_truth e)
content_ok word l y h = let r = mapped_ok (λ i. contents.Item i) (word_left l) y h in subst (IsSaid word) r.2 (word_ok l r.0 r.1, λ e. refl, λ e. refl)
content_ok space l y h = let r = mapped_ok (λ i. contents.Item i) (space_left l) y h in subst (IsSaid space) r.2 (space_ok l r.0 r.1, λ e. refl, λ e. refl)
content_ok pen l y h = let r = mapped_ok (λ i. contents.Item i) (pen_left l) y h in subst (IsSaid pen) r.2 (pen_ok l r.0 r.1, λ e. refl, λ e. refl)
content_ok endpar l y h = let e : (contents.Endpar, l) ≡ y = cc in subst (λ p. IsSaid endpar p.0) e (tt, λ e. no_truth e, λ e. no_truth e)
content_ok end l y h = let e : (contents.End, l) ≡ y = cc in subst (λ p. IsSaid end p.0) e (tt, λ e. no_truth e, λ e. no_truth e)

-- ---- a line

-- a word with what its line says, after this many lines that count and this many items of the open paragraph
pub record IsValidSaid (count : ℕ) (inside : Option ℕ) (w : Said) : Type 0 where
  pub content : IsValidContent w.1
  pub counts : adds_weight w.1 ≡ true → counts_word w.0 ≡ true
  pub few : counts_word w.0 ≡ true → count + 1 ≤ 25000
  pub room : holds_item w.1 ≡ true → is_full inside ≡ false

finished_ok : {X : Type 0} (r : Result (X × Left) At) (x : X) → finished r ≡ Ok x → (y : X × Left) × (r ≡ Ok y) × (y.0 ≡ x)
finished_ok r x h =
    let a = bind_ok r (λ y. end_left y.1 >>= λ u. Ok y.0) x h in
    let b = bind_ok (end_left a.0.1) (λ u. Ok a.0.0) x a.2 in
    (a.0, a.1, cc)

few_items : (v : LineWord) (count : ℕ) (inside : Option ℕ) → first_of (item_causes count inside (Some v)) ≡ None → counts_word v ≡ true → count + 1 ≤ 25000
few_items v count inside h counts = by_tests (counts_word v) (nat_le 25000 count) (is_inner_word v && is_full inside) refl counts h
  where
    by_tests : (a b c : Bool) → nat_le 25000 count ≡ b → a ≡ true → first_of (cause_if ((a && b) || c) causes.Items) ≡ None → count + 1 ≤ 25000
    by_tests a false c e t h = grind (arith, nat_tests)
    by_tests true true c e t h = absurd (cc)
    by_tests false true c e t h = absurd (true≢false (sym t))

room_left : (v : LineWord) (count : ℕ) (inside : Option ℕ) → first_of (item_causes count inside (Some v)) ≡ None → is_inner_word v ≡ true → is_full inside ≡ false
room_left v count inside h inner = by_tests (counts_word v && nat_le 25000 count) (is_inner_word v) (is_full inside) inner h
  where
    by_tests : (a b c : Bool) → b ≡ true → first_of (cause_if (a || (b && c)) causes.Items) ≡ None → c ≡ false
    by_tests a b false t h = refl
    by_tests true b true t h = absurd (cc)
    by_tests false true true t h = absurd (cc)
    by_tests false false true t h = no_truth t

worded_ok : (v : LineWord) (l : Line) (count : ℕ) (inside : Option ℕ) (w : Said) → first_of (item_causes count inside (Some v)) ≡ None → worded_left l (Some v) ≡ Ok (Some w) → IsValidSaid count inside w
worded_ok v l count inside w few h = by_content (finished (content_left v left)) refl h
  where
    left : Left
    left = record { number = 2; missing = missing_cause v; fields = l.fields }

    by_content : (r : Result Content At) → finished (content_left v left) ≡ r → said v r ≡ Ok (Some w) → IsValidSaid count inside w
    by_content (Err e) is h = absurd (cc)
    by_content (Ok k) is h =
        let y = finished_ok (content_left v left) k is in
        let same : (v, k) ≡ w = cc in
        let c = subst (IsSaid v) y.2 (content_ok v left y.0 y.1) in
        subst (λ (x : Said). IsValidSaid count inside x) same (record { content = c.0; counts = c.1; few = λ e. few_items v count inside few e; room = λ e. room_left v count inside few (c.2 e) })

content_line_ok : (p : Phase) (count : ℕ) (inside : Option ℕ) (o : Option LineWord) (head : List ℕ) (fs : List (List ℕ)) (w : Said)
    → content_line p count inside (record { word = o; head = head; fields = fs }) ≡ Ok (Some w) → IsValidSaid count inside w
unfolding content_line
content_line_ok p count inside o head fs w h =
    let l : Line = record { word = o; head = head; fields = fs } in
    let a = bind_ok (if list_all is_printable head then Ok (tt {0}) else at_fault 1 causes.NotAscii) (λ x. settled 1 (first_of (place_causes p o)) (tt {0}) >>= λ y. settled 1 (first_of (item_causes count inside o)) (tt {0}) >>= λ z. worded_left l o) (Some w) h in
    let b = bind_ok (settled 1 (first_of (place_causes p o)) (tt {0})) (λ y. settled 1 (first_of (item_causes count inside o)) (tt {0}) >>= λ z. worded_left l o) (Some w) a.2 in
    let c = bind_ok (settled 1 (first_of (item_causes count inside o)) (tt {0})) (λ z. worded_left l o) (Some w) b.2 in
    by_word o (settled_ok 1 (first_of (item_causes count inside o)) (tt {0}) c.0 c.1).0 c.2
  where
    by_word : (o : Option LineWord) → first_of (item_causes count inside o) ≡ None → worded_left (record { word = o; head = head; fields = fs }) o ≡ Ok (Some w) → IsValidSaid count inside w
    by_word None few h = absurd (cc)
    by_word (Some v) few h = worded_ok v (record { word = Some v; head = head; fields = fs }) count inside w few h

pub line_ok : (p : Phase) (count : ℕ) (inside : Option ℕ) (bytes : List ℕ) (w : Said) → line_left p count inside bytes ≡ Ok (Some w) → IsValidSaid count inside w
unfolding line_left
line_ok p count inside bytes w h = by_length (nat_lt 255 (length bytes)) h
  where
    by_skip : (t : Bool) → content_lines p count inside (if t then [] else line_at (fields_of bytes) ∷ []) ≡ Ok (Some w) → IsValidSaid count inside w
    by_skip true h = absurd (cc)
    by_skip false h = content_line_ok p count inside (line_at (fields_of bytes)).word (line_at (fields_of bytes)).head (line_at (fields_of bytes)).fields w h

    by_length : (t : Bool) → (if t then at_fault 0 causes.LineLength else content_lines p count inside (content_at bytes)) ≡ Ok (Some w) → IsValidSaid count inside w
    by_length true h = absurd (cc)
    by_length false h = by_skip (is_skipped (fields_of bytes)) h
