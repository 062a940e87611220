-- Reading fields from the left gives the first cause of the slots, or what the line says.
use Rattle.std.proofs.Common.{◌≡◌, ℕ, ℤ, pos, negsuc, ◌+◌, Bool, true, false, not, nat_abs, ◌&&◌, List, [], ◌∷◌, ◌++◌, map, ◌==◌, ◌||◌, Option, Some, None, Result, Ok, Err, if◌then◌else◌, bytes_eq, nat_le, codes, refl, ap, ◌∙◌}
use Rattle.std.specs.List.{list_all}
use Rattle.tb_scaled.specs.declared.Order.{Order}
use Rattle.tb_scaled.specs.declared.Order.TheVariants.{Normal}
use Rattle.tb_scaled.specs.declared.Glue.{Glue}
use Rattle.tb_node.specs.declared.Places.{Places}
use Rattle.tb_node.specs.declared.Float.{Float}
use Rattle.tb_node.specs.declared.Margin.{Margin}
use Rattle.tb_node.specs.declared.Area.TheVariants as areas
use Rattle.tb_param.specs.declared.fields.Field.{Field}
use Rattle.tb_param.specs.declared.table.Form.{Form}
use Rattle.tb_param.specs.declared.table.Form.TheVariants as forms
use Rattle.tb_param.specs.declared.Value.{Value}
use Rattle.tb_param.specs.declared.Value.TheVariants as values
use Rattle.tb_param.specs.declared.Choice.TheVariants.{Flush, Ragged, On, Off, R2014, R2015, Keep, Drop, Above, Below}
use Rattle.tb_param.specs.declared.Rule.{Rule}
use Rattle.tb_param.specs.Table.{Row, row_of, row_for, row_known, is_known_in}
use Rattle.tb_galley.specs.declared.Cause.{Cause}
use Rattle.tb_galley.specs.declared.Cause.TheVariants as causes
use Rattle.tb_galley.specs.declared.classes.ClassLine.{ClassLine}
use Rattle.tb_galley.specs.declared.contents.Content.{Content}
use Rattle.tb_galley.specs.declared.contents.Content.TheVariants as contents
use Rattle.tb_galley.specs.declared.ItemKind.TheVariants as items
use Rattle.tb_galley.specs.declared.LeafKind.TheVariants as leaves
use Rattle.tb_galley.specs.declared.fields.At.{At}
use Rattle.tb_galley.specs.Words.{LineWord, header, setting, class_line, hbox, rule, skip, kern, penalty, mark, note, foot, endfoot, float, margin, newpage, clearpage, pagebreak, nopagebreak, onecolumn, twocolumn, suppressfloats, page_number, title, enlarge, end, Known, number_in, version_named, first_field}
use Rattle.tb_galley.specs.Fields.{Slot, name_slot, dimension_slot, least_slot, range_slot, stretch_slot, fraction_slot, word_slot, places_slot, seen_slot, wrong_slot, slot_cause, word_slots, size_slot, glue_slots, stretch_slots, shrink_slots, past_one, paragraph_slot, form_slots, row_slots, row_cause, class_slot, class_slots, foot_slots, drawn_slots, rule_slots, nobreak_slots, star_slots, ruled_glue_slots, below_slot, standing_slots}
use Rattle.tb_galley.specs.Faults.{is_printable, cause_if, causes_in, ascii_causes, value_causes, missing_cause}
use Rattle.tb_galley.specs.Grammar.{content_of, field_at, is_at, dimension_at, stretch_at, glue_at, glue_from, places_at, has_byte, value_by, set_content, class_at, foot_class_at, rule_at, below_at, past_rule, past_below, head_float}
use Rattle.tb_galley.specs.FieldReader.{Left, ◌>>=◌, at_fault, printed, extra_by, minus_next, settled, field_read, dimension_in, integer_in, stretch_in, name_left, dimension_left, stretch_left, least_left, range_left, choice_left, word_left, nobreak_by, nobreak_left, head_left, star_left, enlarge_left, version_left, places_left, sized_left, float_left, margin_left, glue_left, stretch_part, plus_part, shrink_part, end_left, finished, mapped, content_left, area_left, value_left, set_by, set_left, fraction_left, fraction_in, class_left, named_class, foot_left, drawn_left, rule_by, rule_left, below_known, below_by, below_left}

abbrev pub left : ℕ → Cause → List (List ℕ) → Left
left n m fs = record { number = n; missing = m; fields = fs }

-- the first cause from this field on, with its field
abbrev pub first_at : ℕ → List (List Cause) → Option At
first_at n [] = None
first_at n ([] ∷ later) = first_at (n + 1) later
first_at n ((c ∷ cs) ∷ later) = Some (record { field = n; cause = c })

abbrev pub settle : {X : Type 0} → Option At → X → Result X At
settle None x = Ok x
settle (Some e) x = Err e

-- a fault passes through
abbrev pub Strict : {X Z : Type 0} → (Result X At → Result Z At) → Type 0
Strict F = (e : At) → F (Err e) ≡ Err e

settled_slot : {X Z : Type 0} (F : Result (X × Left) At → Result Z At) → Strict F → (n : ℕ) (o : Option Cause) (x : X × Left) (later : List (List Cause)) (z : Z)
    → F (Ok x) ≡ settle (first_at (n + 1) later) z → F (settled n o x) ≡ settle (first_at n (causes_in o ∷ later)) z
settled_slot F strict n None x later z h = h
settled_slot F strict n (Some c) x later z h = strict (record { field = n; cause = c })

printed_slot : {X Z : Type 0} (F : Result (X × Left) At → Result Z At) → Strict F → (p : Bool) (s : Slot) (value : List ℕ → X) (n : ℕ) (m : Cause) (f : List ℕ) (fs : List (List ℕ)) (later : List (List Cause)) (z : Z)
    → F (Ok (value f, left (n + 1) m fs)) ≡ settle (first_at (n + 1) later) z
    → F (printed p n f (left (n + 1) m fs) >>= λ x. settled n (slot_cause s x.0) (value x.0, x.1))
    ≡ settle (first_at n ((cause_if (not p) causes.NotAscii ++ causes_in (slot_cause s f)) ∷ later)) z
printed_slot F strict true s value n m f fs later z h = settled_slot F strict n (slot_cause s f) (value f, left (n + 1) m fs) later z h
printed_slot F strict false s value n m f fs later z h = strict (record { field = n; cause = causes.NotAscii })

-- a field in its slot, with what follows
cons_slot : {X Z : Type 0} (F : Result (X × Left) At → Result Z At) → Strict F → (s : Slot) (value : List ℕ → X) (n : ℕ) (m : Cause) (f : List ℕ) (fs : List (List ℕ)) (later : List (List Cause)) (z : Z)
    → F (Ok (value f, left (n + 1) m fs)) ≡ settle (first_at (n + 1) later) z
    → F (field_read s value (left n m (f ∷ fs))) ≡ settle (first_at n ((ascii_causes f ++ causes_in (slot_cause s f)) ∷ later)) z
cons_slot F strict s value n m f fs later z h = printed_slot F strict (list_all is_printable f) s value n m f fs later z h

pub then_slot : {X Z : Type 0} (F : Result (X × Left) At → Result Z At) → Strict F → (s : Slot) (value : List ℕ → X) (n : ℕ) (m : Cause) (ss : List Slot) (z : List (List ℕ) → Z)
    → ((f : List ℕ) (fs : List (List ℕ)) → F (Ok (value f, left (n + 1) m fs)) ≡ settle (first_at (n + 1) (value_causes m ss fs)) (z (f ∷ fs)))
    → (fs : List (List ℕ)) → F (field_read s value (left n m fs)) ≡ settle (first_at n (value_causes m (s ∷ ss) fs)) (z fs)
then_slot F strict s value n m ss z next [] = strict (record { field = n; cause = m })
then_slot F strict s value n m ss z next (f ∷ fs) = cons_slot F strict s value n m f fs (value_causes m ss fs) (z (f ∷ fs)) (next f fs)

-- the same where the slots that follow depend on the fields that follow
pub then_more : {X Z : Type 0} (F : Result (X × Left) At → Result Z At) → Strict F → (s : Slot) (value : List ℕ → X) (n : ℕ) (m : Cause) (ss : List (List ℕ) → List Slot) (z : List (List ℕ) → Z)
    → ((f : List ℕ) (fs : List (List ℕ)) → F (Ok (value f, left (n + 1) m fs)) ≡ settle (first_at (n + 1) (value_causes m (ss fs) fs)) (z (f ∷ fs)))
    → (fs : List (List ℕ)) → F (field_read s value (left n m fs)) ≡ settle (first_at n (value_causes m (s ∷ ss (past_one fs)) fs)) (z fs)
then_more F strict s value n m ss z next [] = strict (record { field = n; cause = m })
then_more F strict s value n m ss z next (f ∷ fs) = cons_slot F strict s value n m f fs (value_causes m (ss fs) fs) (z (f ∷ fs)) (next f fs)

ended_by : {Z : Type 0} (p : Bool) (n : ℕ) (later : List (List Cause)) (z : Z)
    → (extra_by p n >>= λ x. Ok z) ≡ settle (first_at n ((cause_if (not p) causes.NotAscii ++ causes.ExtraField ∷ []) ∷ later)) z
ended_by true n later z = refl
ended_by false n later z = refl

pub end_here : {Z : Type 0} (n : ℕ) (m : Cause) (fs : List (List ℕ)) (z : Z) → (end_left (left n m fs) >>= λ x. Ok z) ≡ settle (first_at n (value_causes m [] fs)) z
end_here n m [] z = refl
end_here n m (f ∷ fs) z = ended_by (list_all is_printable f) n (map ascii_causes fs) z

-- ---- one field

abbrev pub one : {X K : Type 0} → (X → K) → Result (X × Left) At → Result K At
one k r = finished (mapped k r)

pub one_slot : {X K : Type 0} (k : X → K) (s : Slot) (value : List ℕ → X) (m : Cause) (fs : List (List ℕ))
    → one k (field_read s value (left 2 m fs)) ≡ settle (first_at 2 (value_causes m (s ∷ []) fs)) (k (value (field_at fs 0)))
one_slot k s value m fs = then_slot (one k) (λ e. refl) s value 2 m [] (λ fs. k (value (field_at fs 0))) (λ f fs. end_here 3 m fs (k (value f))) fs

-- ---- a box

sized_slots : {Z : Type 0} (F : Result ((List ℕ × ℤ × ℤ) × Left) At → Result Z At) → Strict F → (n : ℕ) (m : Cause) (ss : List (List ℕ) → List Slot) (z : List (List ℕ) → Z)
    → ((f g h : List ℕ) (fs : List (List ℕ)) → F (Ok ((f, dimension_in g, dimension_in h), left (n + 1 + 1 + 1) m fs)) ≡ settle (first_at (n + 1 + 1 + 1) (value_causes m (ss fs) fs)) (z (f ∷ g ∷ h ∷ fs)))
    → (fs : List (List ℕ)) → F (sized_left (left n m fs)) ≡ settle (first_at n (value_causes m (name_slot ∷ size_slot ∷ size_slot ∷ ss (past_one (past_one (past_one fs)))) fs)) (z fs)
unfolding sized_left name_left least_left
sized_slots F strict n m ss z next =
    then_more (λ r. F (r >>= λ a. least_left (pos 0) causes.Dimension a.1 >>= λ b. least_left (pos 0) causes.Dimension b.1 >>= λ c. Ok ((a.0, b.0, c.0), c.1)))
    (λ e. strict e) name_slot (λ f. f) n m (λ gs. size_slot ∷ size_slot ∷ ss (past_one (past_one gs))) z
    (λ f. then_more (λ r. F (r >>= λ b. least_left (pos 0) causes.Dimension b.1 >>= λ c. Ok ((f, b.0, c.0), c.1)))
    (λ e. strict e) size_slot dimension_in (n + 1) m (λ gs. size_slot ∷ ss (past_one gs)) (λ fs. z (f ∷ fs))
    (λ g. then_more (λ r. F (r >>= λ c. Ok ((f, dimension_in g, c.0), c.1)))
    (λ e. strict e) size_slot dimension_in (n + 1 + 1) m ss (λ fs. z (f ∷ g ∷ fs))
    (λ h fs. next f g h fs)))

-- ---- `nobreak`

-- a field too many is a fault whatever the others say
extra_any : {Z : Type 0} (p : Bool) (n : ℕ) (later : List (List Cause)) (y z : Z)
    → settle (first_at n ((cause_if (not p) causes.NotAscii ++ causes.ExtraField ∷ []) ∷ later)) y ≡ settle (first_at n ((cause_if (not p) causes.NotAscii ++ causes.ExtraField ∷ []) ∷ later)) z
extra_any true n later y z = refl
extra_any false n later y z = refl

nobreak_none : {Z : Type 0} (F : Result (Bool × Left) At → Result Z At) (t : Bool) (n : ℕ) (m : Cause) (z : Z) → F (Ok (false, left n m [])) ≡ Ok z → F (nobreak_by (left n m []) (not t || true)) ≡ Ok z
nobreak_none F true n m z h = h
nobreak_none F false n m z h = h

nobreak_some : {Z : Type 0} (F : Result (Bool × Left) At → Result Z At) → Strict F → (t : Bool) (n : ℕ) (m : Cause) (f : List ℕ) (fs : List (List ℕ)) (z : Bool → Z)
    → ((b : Bool) (k : ℕ) (hs : List (List ℕ)) → F (Ok (b, left k m hs)) ≡ settle (first_at k (value_causes m [] hs)) (z b))
    → F (nobreak_by (left n m (f ∷ fs)) (not t || false)) ≡ settle (first_at n (value_causes m (if t then word_slot (codes "nobreak" ∷ []) causes.UnknownWord ∷ [] else []) (f ∷ fs))) (z (bytes_eq f (codes "nobreak")))
unfolding word_left
nobreak_some F strict true n m f fs z next =
    cons_slot F strict (word_slot (codes "nobreak" ∷ []) causes.UnknownWord) (λ g. bytes_eq g (codes "nobreak")) n m f fs (value_causes m [] fs) (z (bytes_eq f (codes "nobreak"))) (next (bytes_eq f (codes "nobreak")) (n + 1) fs)
nobreak_some F strict false n m f fs z next = next false n (f ∷ fs) ∙ extra_any (list_all is_printable f) n (map ascii_causes fs) (z false) (z (bytes_eq f (codes "nobreak")))

nobreak_read : {Z : Type 0} (F : Result (Bool × Left) At → Result Z At) → Strict F → (version n : ℕ) (m : Cause) (fs : List (List ℕ)) (z : Bool → Z)
    → ((b : Bool) (k : ℕ) (hs : List (List ℕ)) → F (Ok (b, left k m hs)) ≡ settle (first_at k (value_causes m [] hs)) (z b))
    → F (nobreak_left version (left n m fs)) ≡ settle (first_at n (value_causes m (nobreak_slots version fs) fs)) (z (is_at fs 0 (codes "nobreak")))
unfolding nobreak_left
nobreak_read F strict version n m [] z next = nobreak_none F (version == 3) n m (z false) (next false n [])
nobreak_read F strict version n m (f ∷ fs) z next = nobreak_some F strict (version == 3) n m f fs z next

-- ---- a float

abbrev item : Result ((Float × Bool) × Left) At → Result Content At
item r = one (λ f. contents.Item (items.Float f.0 f.1)) r

abbrev made : ℕ → ℕ → List ℕ → ℤ → Bool → Places × Bool → ℤ → Bool → Float
made version line n c w p h b = record { line = line; name = n; class = nat_abs c; wide = w; places = p.0; bang = p.1; height = h; deep = w && (version == 3); nobreak = b }

float_slots : (k : Known) (line : ℕ) (m : Cause) (fs : List (List ℕ))
    → one (λ f. contents.Item (items.Float f.0 f.1)) (float_left k.version line (left 2 m fs)) ≡ settle (first_at 2 (value_causes m (word_slots k fs float) fs)) (content_of k.version line fs float)
unfolding float_left name_left range_left choice_left places_left least_left
float_slots k line m fs =
    then_more (λ r. item (r >>= λ n. range_left (pos 1) (pos 26) causes.Class n.1 >>= λ c. choice_left (codes "single") (codes "double") causes.UnknownWord c.1 >>= λ w. places_left w.1 >>= λ p. least_left (pos 0) causes.Dimension p.1 >>= λ h. choice_left (codes "par") (codes "vert") causes.UnknownWord h.1 >>= λ v. nobreak_left k.version v.1 >>= λ b. Ok ((made k.version line n.0 c.0 w.0 p.0 h.0 b.0, v.0), b.1)))
    (λ e. refl) name_slot (λ f. f) 2 m (λ gs. range_slot (pos 1) (pos 26) causes.Class ∷ word_slot (codes "single" ∷ codes "double" ∷ []) causes.UnknownWord ∷ places_slot ∷ size_slot ∷ paragraph_slot ∷ nobreak_slots k.version (past_one (past_one (past_one (past_one (past_one gs)))))) (λ gs. content_of k.version line gs float)
    (λ f1. then_more (λ r. item (r >>= λ c. choice_left (codes "single") (codes "double") causes.UnknownWord c.1 >>= λ w. places_left w.1 >>= λ p. least_left (pos 0) causes.Dimension p.1 >>= λ h. choice_left (codes "par") (codes "vert") causes.UnknownWord h.1 >>= λ v. nobreak_left k.version v.1 >>= λ b. Ok ((made k.version line f1 c.0 w.0 p.0 h.0 b.0, v.0), b.1)))
    (λ e. refl) (range_slot (pos 1) (pos 26) causes.Class) integer_in 3 m (λ gs. word_slot (codes "single" ∷ codes "double" ∷ []) causes.UnknownWord ∷ places_slot ∷ size_slot ∷ paragraph_slot ∷ nobreak_slots k.version (past_one (past_one (past_one (past_one gs))))) (λ gs. content_of k.version line (f1 ∷ gs) float)
    (λ f2. then_more (λ r. item (r >>= λ w. places_left w.1 >>= λ p. least_left (pos 0) causes.Dimension p.1 >>= λ h. choice_left (codes "par") (codes "vert") causes.UnknownWord h.1 >>= λ v. nobreak_left k.version v.1 >>= λ b. Ok ((made k.version line f1 (integer_in f2) w.0 p.0 h.0 b.0, v.0), b.1)))
    (λ e. refl) (word_slot (codes "single" ∷ codes "double" ∷ []) causes.UnknownWord) (λ f. bytes_eq f (codes "double")) 4 m (λ gs. places_slot ∷ size_slot ∷ paragraph_slot ∷ nobreak_slots k.version (past_one (past_one (past_one gs)))) (λ gs. content_of k.version line (f1 ∷ f2 ∷ gs) float)
    (λ f3. then_more (λ r. item (r >>= λ p. least_left (pos 0) causes.Dimension p.1 >>= λ h. choice_left (codes "par") (codes "vert") causes.UnknownWord h.1 >>= λ v. nobreak_left k.version v.1 >>= λ b. Ok ((made k.version line f1 (integer_in f2) (bytes_eq f3 (codes "double")) p.0 h.0 b.0, v.0), b.1)))
    (λ e. refl) places_slot (λ f. (places_at f, has_byte 33 f)) 5 m (λ gs. size_slot ∷ paragraph_slot ∷ nobreak_slots k.version (past_one (past_one gs))) (λ gs. content_of k.version line (f1 ∷ f2 ∷ f3 ∷ gs) float)
    (λ f4. then_more (λ r. item (r >>= λ h. choice_left (codes "par") (codes "vert") causes.UnknownWord h.1 >>= λ v. nobreak_left k.version v.1 >>= λ b. Ok ((made k.version line f1 (integer_in f2) (bytes_eq f3 (codes "double")) (places_at f4, has_byte 33 f4) h.0 b.0, v.0), b.1)))
    (λ e. refl) size_slot dimension_in 6 m (λ gs. paragraph_slot ∷ nobreak_slots k.version (past_one gs)) (λ gs. content_of k.version line (f1 ∷ f2 ∷ f3 ∷ f4 ∷ gs) float)
    (λ f5. then_more (λ r. item (r >>= λ v. nobreak_left k.version v.1 >>= λ b. Ok ((made k.version line f1 (integer_in f2) (bytes_eq f3 (codes "double")) (places_at f4, has_byte 33 f4) (dimension_in f5) b.0, v.0), b.1)))
    (λ e. refl) paragraph_slot (λ f. bytes_eq f (codes "vert")) 7 m (λ gs. nobreak_slots k.version gs) (λ gs. content_of k.version line (f1 ∷ f2 ∷ f3 ∷ f4 ∷ f5 ∷ gs) float)
    (λ f6 gs. nobreak_read (λ r. item (r >>= λ b. Ok ((made k.version line f1 (integer_in f2) (bytes_eq f3 (codes "double")) (places_at f4, has_byte 33 f4) (dimension_in f5) b.0, (bytes_eq f6 (codes "vert"))), b.1))) (λ e. refl) k.version 8 m gs (λ b. contents.Item (items.Float (made k.version line f1 (integer_in f2) (bytes_eq f3 (codes "double")) (places_at f4, has_byte 33 f4) (dimension_in f5) b) (bytes_eq f6 (codes "vert"))))
    (λ b n hs. end_here n m hs (contents.Item (items.Float (made k.version line f1 (integer_in f2) (bytes_eq f3 (codes "double")) (places_at f4, has_byte 33 f4) (dimension_in f5) b) (bytes_eq f6 (codes "vert"))))))))))) fs

-- ---- glue

-- a field that was looked at already
skip_read : {Y Z : Type 0} (F : Result Y At → Result Z At) → Strict F → (p : Bool) (n : ℕ) (g : List ℕ) (l : Left) (K : Left → Result Y At) (later : List (List Cause)) (z : Z)
    → F (K l) ≡ settle (first_at (n + 1) later) z
    → F (printed p n g l >>= λ x. K x.1) ≡ settle (first_at n ((cause_if (not p) causes.NotAscii ++ []) ∷ later)) z
skip_read F strict true n g l K later z h = h
skip_read F strict false n g l K later z h = strict (record { field = n; cause = causes.NotAscii })

wrong_read : {Y Z : Type 0} (F : Result Y At → Result Z At) → Strict F → (p : Bool) (n : ℕ) (g : List ℕ) (l : Left) (c : Cause) (later : List (List Cause)) (z : Z)
    → F (printed p n g l >>= λ x. at_fault n c) ≡ settle (first_at n ((cause_if (not p) causes.NotAscii ++ c ∷ []) ∷ later)) z
wrong_read F strict true n g l c later z = strict (record { field = n; cause = c })
wrong_read F strict false n g l c later z = strict (record { field = n; cause = causes.NotAscii })

minus_read : {Z : Type 0} (F : Result (ℤ × Left) At → Result Z At) → Strict F → (t : Bool) (c : Cause) (n : ℕ) (m : Cause) (g : List ℕ) (gs : List (List ℕ)) (z : ℤ → Z)
    → ((v : ℤ) (k : ℕ) (hs : List (List ℕ)) → F (Ok (v, left k m hs)) ≡ settle (first_at k (value_causes m [] hs)) (z v))
    → F (minus_next c (left n m (g ∷ gs)) t)
    ≡ settle (first_at n (value_causes m (if t then seen_slot ∷ dimension_slot ∷ [] else wrong_slot c ∷ []) (g ∷ gs))) (z (if t then dimension_at gs 0 else pos 0))
unfolding dimension_left
minus_read F strict true c n m g gs z next =
    skip_read F strict (list_all is_printable g) n g (left (n + 1) m gs) dimension_left (value_causes m (dimension_slot ∷ []) gs) (z (dimension_at gs 0))
    (then_slot F strict dimension_slot dimension_in (n + 1) m [] (λ hs. z (dimension_at hs 0)) (λ f hs. next (dimension_in f) (n + 1 + 1) hs) gs)
minus_read F strict false c n m g gs z next = wrong_read F strict (list_all is_printable g) n g (left (n + 1) m gs) c (value_causes m [] gs) (z (pos 0))

abbrev shrink_in : List (List ℕ) → ℤ
shrink_in [] = pos 0
shrink_in (g ∷ gs) = if bytes_eq g (codes "minus") then dimension_at gs 0 else pos 0

shrink_read : {Z : Type 0} (F : Result (ℤ × Left) At → Result Z At) → Strict F → (c : Cause) (n : ℕ) (m : Cause) (fs : List (List ℕ)) (z : ℤ → Z)
    → ((v : ℤ) (k : ℕ) (hs : List (List ℕ)) → F (Ok (v, left k m hs)) ≡ settle (first_at k (value_causes m [] hs)) (z v))
    → F (shrink_part c (left n m fs)) ≡ settle (first_at n (value_causes m (shrink_slots c fs) fs)) (z (shrink_in fs))
unfolding shrink_part
shrink_read F strict c n m [] z next = next (pos 0) n []
shrink_read F strict c n m (g ∷ gs) z next = minus_read F strict (bytes_eq g (codes "minus")) c n m g gs z next

abbrev pieces : {Z : Type 0} → (Glue → Z) → Cause → ℤ → Result ((ℤ × Order) × Left) At → Result Z At
pieces k c w r = finished (mapped k (r >>= λ s. shrink_part c s.1 >>= λ z. Ok (glue_from w s.0 z.0, z.1)))

after_stretch : {Z : Type 0} (k : Glue → Z) (c : Cause) (w : ℤ) (s : ℤ × Order) (n : ℕ) (m : Cause) (fs : List (List ℕ))
    → pieces k c w (Ok (s, left n m fs)) ≡ settle (first_at n (value_causes m (shrink_slots c fs) fs)) (k (glue_from w s (shrink_in fs)))
after_stretch k c w s n m fs =
    shrink_read (λ r. finished (mapped k (r >>= λ z. Ok (glue_from w s z.0, z.1)))) (λ e. refl) c n m fs (λ v. k (glue_from w s v))
    (λ v j hs. end_here j m hs (k (glue_from w s v)))

plus_tail : {Z : Type 0} (k : Glue → Z) (c : Cause) (w : ℤ) (n : ℕ) (m : Cause) (gs : List (List ℕ))
    → pieces k c w (stretch_left (left n m gs)) ≡ settle (first_at n (value_causes m (stretch_slot ∷ shrink_slots c (past_one gs)) gs)) (k (glue_from w (stretch_at gs 0) (shrink_in (past_one gs))))
unfolding stretch_left
plus_tail k c w n m [] = refl
plus_tail k c w n m (h ∷ hs) =
    cons_slot (pieces k c w) (λ e. refl) stretch_slot stretch_in n m h hs (value_causes m (shrink_slots c hs) hs) _ (after_stretch k c w (stretch_in h) (n + 1) m hs)

plus_read : {Z : Type 0} (t : Bool) (k : Glue → Z) (c : Cause) (w : ℤ) (n : ℕ) (m : Cause) (g : List ℕ) (gs : List (List ℕ))
    → pieces k c w (plus_part (left n m (g ∷ gs)) t)
    ≡ settle (first_at n (value_causes m (if t then seen_slot ∷ stretch_slot ∷ shrink_slots c (past_one gs) else shrink_slots c (g ∷ gs)) (g ∷ gs)))
    (k (if t then glue_from w (stretch_at gs 0) (shrink_in (past_one gs)) else glue_from w (pos 0, Normal) (shrink_in (g ∷ gs))))
plus_read true k c w n m g gs =
    skip_read (pieces k c w) (λ e. refl) (list_all is_printable g) n g (left (n + 1) m gs) stretch_left (value_causes m (stretch_slot ∷ shrink_slots c (past_one gs)) gs) _ (plus_tail k c w (n + 1) m gs)
plus_read false k c w n m g gs = after_stretch k c w (pos 0, Normal) n m (g ∷ gs)

abbrev glue_value : ℤ → List (List ℕ) → Glue
glue_value w [] = glue_from w (pos 0, Normal) (pos 0)
glue_value w (g ∷ gs) = if bytes_eq g (codes "plus") then glue_from w (stretch_at gs 0) (shrink_in (past_one gs)) else glue_from w (pos 0, Normal) (shrink_in (g ∷ gs))

stretch_read : {Z : Type 0} (k : Glue → Z) (c : Cause) (w : ℤ) (n : ℕ) (m : Cause) (fs : List (List ℕ))
    → pieces k c w (stretch_part (left n m fs)) ≡ settle (first_at n (value_causes m (stretch_slots c fs) fs)) (k (glue_value w fs))
unfolding stretch_part
stretch_read k c w n m [] = after_stretch k c w (pos 0, Normal) n m []
stretch_read k c w n m (g ∷ gs) = plus_read (bytes_eq g (codes "plus")) k c w n m g gs

glue_agrees : (f : List ℕ) (fs : List (List ℕ)) → glue_value (dimension_in f) fs ≡ glue_at (f ∷ fs) 0
glue_agrees f [] = refl
glue_agrees f (g ∷ []) = refl
glue_agrees f (g ∷ h ∷ []) = refl
glue_agrees f (g ∷ h ∷ i ∷ hs) = refl

glue_slots_read : {Z : Type 0} (k : Glue → Z) (c : Cause) (n : ℕ) (m : Cause) (fs : List (List ℕ))
    → finished (mapped k (glue_left c (left n m fs))) ≡ settle (first_at n (value_causes m (glue_slots c fs) fs)) (k (glue_at fs 0))
unfolding glue_left dimension_left
glue_slots_read k c n m [] = refl
glue_slots_read k c n m (f ∷ fs) =
    cons_slot (λ r. finished (mapped k (r >>= λ w. stretch_part w.1 >>= λ s. shrink_part c s.1 >>= λ z. Ok (glue_from w.0 s.0 z.0, z.1)))) (λ e. refl)
    dimension_slot dimension_in n m f fs (value_causes m (stretch_slots c fs) fs) (k (glue_value (dimension_in f) fs)) (stretch_read k c (dimension_in f) (n + 1) m fs)
    ∙ ap (λ g. settle (first_at n (value_causes m (glue_slots c (f ∷ fs)) (f ∷ fs))) (k g)) (glue_agrees f fs)

-- ---- a marginal note

abbrev margin_made : ℕ → List ℕ × ℤ × ℤ → ℤ → ℤ → Bool → Margin
margin_made line s h d b = record { line = line; name = s.0; left_height = s.1; left_depth = s.2; right_height = h; right_depth = d; nobreak = b }

abbrev noted : Result ((Margin × Bool) × Left) At → Result Content At
noted r = one (λ f. contents.Item (items.Margin f.0 f.1)) r

margin_slots : (k : Known) (line : ℕ) (m : Cause) (fs : List (List ℕ))
    → one (λ f. contents.Item (items.Margin f.0 f.1)) (margin_left k.version line (left 2 m fs)) ≡ settle (first_at 2 (value_causes m (word_slots k fs margin) fs)) (content_of k.version line fs margin)
unfolding margin_left choice_left least_left
margin_slots k line m fs =
    sized_slots (λ r. noted (r >>= λ s. least_left (pos 0) causes.Dimension s.1 >>= λ h. least_left (pos 0) causes.Dimension h.1 >>= λ d. choice_left (codes "par") (codes "vert") causes.UnknownWord d.1 >>= λ v. nobreak_left k.version v.1 >>= λ b. Ok ((margin_made line s.0 h.0 d.0 b.0, v.0), b.1)))
    (λ e. refl) 2 m (λ gs. size_slot ∷ size_slot ∷ paragraph_slot ∷ nobreak_slots k.version (past_one (past_one (past_one gs)))) (λ gs. content_of k.version line gs margin)
    (λ f1 f2 f3. then_more (λ r. noted (r >>= λ h. least_left (pos 0) causes.Dimension h.1 >>= λ d. choice_left (codes "par") (codes "vert") causes.UnknownWord d.1 >>= λ v. nobreak_left k.version v.1 >>= λ b. Ok ((margin_made line (f1, dimension_in f2, dimension_in f3) h.0 d.0 b.0, v.0), b.1)))
    (λ e. refl) size_slot dimension_in 5 m (λ gs. size_slot ∷ paragraph_slot ∷ nobreak_slots k.version (past_one (past_one gs))) (λ gs. content_of k.version line (f1 ∷ f2 ∷ f3 ∷ gs) margin)
    (λ f4. then_more (λ r. noted (r >>= λ d. choice_left (codes "par") (codes "vert") causes.UnknownWord d.1 >>= λ v. nobreak_left k.version v.1 >>= λ b. Ok ((margin_made line (f1, dimension_in f2, dimension_in f3) (dimension_in f4) d.0 b.0, v.0), b.1)))
    (λ e. refl) size_slot dimension_in 6 m (λ gs. paragraph_slot ∷ nobreak_slots k.version (past_one gs)) (λ gs. content_of k.version line (f1 ∷ f2 ∷ f3 ∷ f4 ∷ gs) margin)
    (λ f5. then_more (λ r. noted (r >>= λ v. nobreak_left k.version v.1 >>= λ b. Ok ((margin_made line (f1, dimension_in f2, dimension_in f3) (dimension_in f4) (dimension_in f5) b.0, v.0), b.1)))
    (λ e. refl) paragraph_slot (λ f. bytes_eq f (codes "vert")) 7 m (λ gs. nobreak_slots k.version gs) (λ gs. content_of k.version line (f1 ∷ f2 ∷ f3 ∷ f4 ∷ f5 ∷ gs) margin)
    (λ f6 gs. nobreak_read (λ r. noted (r >>= λ b. Ok ((margin_made line (f1, dimension_in f2, dimension_in f3) (dimension_in f4) (dimension_in f5) b.0, bytes_eq f6 (codes "vert")), b.1))) (λ e. refl) k.version 8 m gs
    (λ b. contents.Item (items.Margin (margin_made line (f1, dimension_in f2, dimension_in f3) (dimension_in f4) (dimension_in f5) b) (bytes_eq f6 (codes "vert"))))
    (λ b n hs. end_here n m hs (contents.Item (items.Margin (margin_made line (f1, dimension_in f2, dimension_in f3) (dimension_in f4) (dimension_in f5) b) (bytes_eq f6 (codes "vert"))))))))) fs

-- ---- a title, and a page that is made higher

head_slots : (k : Known) (line : ℕ) (m : Cause) (fs : List (List ℕ))
    → one (λ f. contents.Item (items.Head f)) (head_left line (left 2 m fs)) ≡ settle (first_at 2 (value_causes m (word_slots k fs title) fs)) (content_of k.version line fs title)
unfolding head_left name_left least_left
head_slots k line m fs =
    then_slot (λ r. one (λ f. contents.Item (items.Head f)) (r >>= λ n. least_left (pos 0) causes.Dimension n.1 >>= λ h. Ok (head_float line n.0 h.0, h.1)))
    (λ e. refl) name_slot (λ f. f) 2 m (size_slot ∷ []) (λ gs. content_of k.version line gs title)
    (λ f1. then_slot (λ r. one (λ f. contents.Item (items.Head f)) (r >>= λ h. Ok (head_float line f1 h.0, h.1)))
    (λ e. refl) size_slot dimension_in 3 m [] (λ gs. content_of k.version line (f1 ∷ gs) title)
    (λ f2 gs. end_here 4 m gs (contents.Item (items.Head (head_float line f1 (dimension_in f2)))))) fs

star_read : {Z : Type 0} (F : Result (Bool × Left) At → Result Z At) → Strict F → (n : ℕ) (m : Cause) (fs : List (List ℕ)) (z : Bool → Z)
    → ((b : Bool) (k : ℕ) (hs : List (List ℕ)) → F (Ok (b, left k m hs)) ≡ settle (first_at k (value_causes m [] hs)) (z b))
    → F (star_left (left n m fs)) ≡ settle (first_at n (value_causes m (star_slots fs) fs)) (z (is_at fs 0 (codes "star")))
unfolding star_left word_left
star_read F strict n m [] z next = next false n []
star_read F strict n m (f ∷ fs) z next =
    cons_slot F strict (word_slot (codes "star" ∷ []) causes.UnknownWord) (λ g. bytes_eq g (codes "star")) n m f fs (value_causes m [] fs) (z (bytes_eq f (codes "star"))) (next (bytes_eq f (codes "star")) (n + 1) fs)

abbrev enlarged : Result ((ℤ × Bool) × Left) At → Result Content At
enlarged r = one (λ e. contents.Item (items.Enlarge e.0 e.1)) r

enlarge_slots : (k : Known) (line : ℕ) (m : Cause) (fs : List (List ℕ))
    → one (λ e. contents.Item (items.Enlarge e.0 e.1)) (enlarge_left (left 2 m fs)) ≡ settle (first_at 2 (value_causes m (word_slots k fs enlarge) fs)) (content_of k.version line fs enlarge)
unfolding enlarge_left dimension_left
enlarge_slots k line m fs =
    then_more (λ r. enlarged (r >>= λ w. star_left w.1 >>= λ s. Ok ((w.0, s.0), s.1)))
    (λ e. refl) dimension_slot dimension_in 2 m (λ gs. star_slots gs) (λ gs. content_of k.version line gs enlarge)
    (λ f1 gs. star_read (λ r. enlarged (r >>= λ s. Ok ((dimension_in f1, s.0), s.1))) (λ e. refl) 3 m gs (λ b. contents.Item (items.Enlarge (dimension_in f1) b))
    (λ b n hs. end_here n m hs (contents.Item (items.Enlarge (dimension_in f1) b)))) fs

-- ---- suppressed areas

mapped_twice : {X Y Z : Type 0} (f : Y → Z) (g : X → Y) (r : Result (X × Left) At) → mapped f (mapped g r) ≡ mapped (λ x. f (g x)) r
mapped_twice f g (Ok x) = refl
mapped_twice f g (Err e) = refl

area_slots : (k : Known) (line : ℕ) (m : Cause) (fs : List (List ℕ))
    → one (λ a. contents.Item (items.Suppress a)) (area_left (left 2 m fs)) ≡ settle (first_at 2 (value_causes m (word_slots k fs suppressfloats) fs)) (content_of k.version line fs suppressfloats)
unfolding area_left choice_left
area_slots k line m [] = refl
area_slots k line m (f ∷ fs) =
    cons_slot (λ r. one (λ a. contents.Item (items.Suppress a)) (mapped (λ b. if b then areas.Bottom else areas.Top) r)) (λ e. refl)
    (word_slot (codes "t" ∷ codes "b" ∷ []) causes.UnknownWord) (λ g. bytes_eq g (codes "b")) 2 m f fs (value_causes m [] fs) _ (end_here 3 m fs _)

-- ---- set

form_slot : {X : Type 0} (field : Field) (k : X → Value) (s : Slot) (value : List ℕ → X) (n : ℕ) (m : Cause) (fs : List (List ℕ))
    → finished (mapped (λ v. contents.Set field v) (mapped k (field_read s value (left n m fs)))) ≡ settle (first_at n (value_causes m (s ∷ []) fs)) (contents.Set field (k (value (field_at fs 0))))
form_slot field k s value n m fs =
    then_slot (λ r. finished (mapped (λ v. contents.Set field v) (mapped k r))) (λ e. refl) s value n m [] (λ gs. contents.Set field (k (value (field_at gs 0))))
    (λ f gs. end_here (n + 1) m gs (contents.Set field (k (value f)))) fs

abbrev ruled : {Z : Type 0} → (Option Rule → Z) → Result (Option Rule × Left) At → Result Z At
ruled k r = finished (mapped k r)

-- a rule that is drawn
drawn_slots_read : {Z : Type 0} (k : Option Rule → Z) (n : ℕ) (m : Cause) (fs : List (List ℕ))
    → ruled k (drawn_left (left n m fs)) ≡ settle (first_at n (value_causes m drawn_slots fs)) (k (Some (record { above = dimension_at fs 0; height = dimension_at fs 1; below = dimension_at fs 2 })))
unfolding drawn_left dimension_left least_left
drawn_slots_read k n m fs =
    then_slot (λ r. ruled k (r >>= λ a. least_left (pos 0) causes.Parameter a.1 >>= λ h. dimension_left h.1 >>= λ b. Ok (Some (record { above = a.0; height = h.0; below = b.0 }), b.1)))
    (λ e. refl) dimension_slot dimension_in n m (least_slot (pos 0) causes.Parameter ∷ dimension_slot ∷ []) (λ gs. k (Some (record { above = dimension_at gs 0; height = dimension_at gs 1; below = dimension_at gs 2 })))
    (λ f. then_slot (λ r. ruled k (r >>= λ h. dimension_left h.1 >>= λ b. Ok (Some (record { above = dimension_in f; height = h.0; below = b.0 }), b.1)))
    (λ e. refl) (least_slot (pos 0) causes.Parameter) dimension_in (n + 1) m (dimension_slot ∷ []) (λ gs. k (Some (record { above = dimension_in f; height = dimension_at gs 0; below = dimension_at gs 1 })))
    (λ g. then_slot (λ r. ruled k (r >>= λ b. Ok (Some (record { above = dimension_in f; height = dimension_in g; below = b.0 }), b.1)))
    (λ e. refl) dimension_slot dimension_in (n + 1 + 1) m [] (λ gs. k (Some (record { above = dimension_in f; height = dimension_in g; below = dimension_at gs 0 })))
    (λ h gs. end_here (n + 1 + 1 + 1) m gs (k (Some (record { above = dimension_in f; height = dimension_in g; below = dimension_in h })))))) fs

rule_by_word : {Z : Type 0} (t : Bool) (k : Option Rule → Z) (n : ℕ) (m : Cause) (f : List ℕ) (fs : List (List ℕ))
    → ruled k (rule_by (left n m (f ∷ fs)) t)
    ≡ settle (first_at n (value_causes m (if t then seen_slot ∷ [] else drawn_slots) (f ∷ fs)))
    (k (if t then None else Some (record { above = dimension_at (f ∷ fs) 0; height = dimension_at (f ∷ fs) 1; below = dimension_at (f ∷ fs) 2 })))
rule_by_word true k n m f fs =
    skip_read (ruled k) (λ e. refl) (list_all is_printable f) n f (left (n + 1) m fs) (λ l. Ok (None, l)) (value_causes m [] fs) (k None) (end_here (n + 1) m fs (k None))
rule_by_word false k n m f fs = drawn_slots_read k n m (f ∷ fs)

rule_slots_read : {Z : Type 0} (k : Option Rule → Z) (n : ℕ) (m : Cause) (fs : List (List ℕ))
    → ruled k (rule_left (left n m fs)) ≡ settle (first_at n (value_causes m (rule_slots fs) fs)) (k (rule_at fs 0))
unfolding rule_left
rule_slots_read k n m [] = drawn_slots_read k n m []
rule_slots_read k n m (f ∷ fs) = rule_by_word (bytes_eq f (codes "none")) k n m f fs

value_slots : (field : Field) (form : Form) (n : ℕ) (m : Cause) (name : List ℕ) (fs : List (List ℕ))
    → finished (mapped (λ v. contents.Set field v) (value_left form (left n m fs))) ≡ settle (first_at n (value_causes m (form_slots fs form) fs)) (contents.Set field (value_by (name ∷ fs) form))
unfolding value_left range_left least_left fraction_left choice_left
value_slots field (forms.Int low high) n m name fs = form_slot field (λ v. values.Int v) (range_slot low high causes.Parameter) integer_in n m fs
value_slots field (forms.Dim low) n m name fs = form_slot field (λ v. values.Dim v) (least_slot low causes.Parameter) dimension_in n m fs
value_slots field forms.Frac n m name fs = form_slot field (λ v. values.Frac v) fraction_slot fraction_in n m fs
value_slots field forms.Skip n m name fs =
    ap (λ r. finished r) (mapped_twice (λ v. contents.Set field v) (λ g. values.Skip g) (glue_left causes.WrongForm (left n m fs)))
    ∙ glue_slots_read (λ g. contents.Set field (values.Skip g)) causes.WrongForm n m fs
value_slots field forms.Bottom n m name fs =
    form_slot field (λ b. values.Word (if b then Flush else Ragged)) (word_slot (codes "ragged" ∷ codes "flush" ∷ []) causes.WrongForm) (λ f. bytes_eq f (codes "flush")) n m fs
value_slots field forms.Switch n m name fs =
    form_slot field (λ b. values.Word (if b then On else Off)) (word_slot (codes "off" ∷ codes "on" ∷ []) causes.WrongForm) (λ f. bytes_eq f (codes "on")) n m fs
value_slots field forms.Release n m name fs =
    form_slot field (λ b. values.Word (if b then R2015 else R2014)) (word_slot (codes "2014" ∷ codes "2015" ∷ []) causes.WrongForm) (λ f. bytes_eq f (codes "2015")) n m fs
value_slots field forms.Rule n m name fs =
    ap (λ r. finished r) (mapped_twice (λ v. contents.Set field v) (λ r. values.Rule r) (rule_left (left n m fs)))
    ∙ rule_slots_read (λ r. contents.Set field (values.Rule r)) n m fs
value_slots field forms.FootDepth n m name fs =
    form_slot field (λ b. values.Word (if b then Drop else Keep)) (word_slot (codes "keep" ∷ codes "drop" ∷ []) causes.WrongForm) (λ f. bytes_eq f (codes "drop")) n m fs
value_slots field forms.FootPlace n m name fs =
    form_slot field (λ b. values.Word (if b then Below else Above)) (word_slot (codes "above" ∷ codes "below" ∷ []) causes.WrongForm) (λ f. bytes_eq f (codes "below")) n m fs

-- a parameter that the version does not know is at fault, whatever its line is read as
set_known : (t : Bool) (r : Row) (n : ℕ) (m : Cause) (name : List ℕ) (fs : List (List ℕ))
    → finished (set_by n (left (n + 1) m fs) (if t then Some r else None))
    ≡ settle (first_at n (causes_in (row_cause (if t then Some r else None)) ∷ value_causes m (row_slots fs (if t then Some r else None)) fs)) (set_content (name ∷ fs) (Some r))
set_known true r n m name fs = value_slots r.field r.form (n + 1) m name fs
set_known false r n m name fs = refl

set_row : (version : ℕ) (r : Option Row) (n : ℕ) (m : Cause) (name : List ℕ) (fs : List (List ℕ))
    → finished (set_by n (left (n + 1) m fs) (row_known version r)) ≡ settle (first_at n (causes_in (row_cause (row_known version r)) ∷ value_causes m (row_slots fs (row_known version r)) fs)) (set_content (name ∷ fs) r)
set_row version None n m name fs = refl
set_row version (Some r) n m name fs = set_known (is_known_in version r.field) r n m name fs

set_printed : (p : Bool) (version n : ℕ) (m : Cause) (name : List ℕ) (fs : List (List ℕ))
    → finished (printed p n name (left (n + 1) m fs) >>= λ x. set_by n x.1 (row_for version x.0))
    ≡ settle (first_at n ((cause_if (not p) causes.NotAscii ++ causes_in (row_cause (row_for version name))) ∷ value_causes m (row_slots fs (row_for version name)) fs)) (set_content (name ∷ fs) (row_of name))
set_printed true version n m name fs = set_row version (row_of name) n m name fs
set_printed false version n m name fs = refl

set_slots_read : (k : Known) (line : ℕ) (m : Cause) (fs : List (List ℕ))
    → finished (set_left k.version (left 2 m fs)) ≡ settle (first_at 2 (value_causes m (word_slots k fs setting) fs)) (content_of k.version line fs setting)
unfolding set_left
set_slots_read k line m [] = refl
set_slots_read k line m (name ∷ fs) = set_printed (list_all is_printable name) k.version 2 m name fs

-- ---- a class

mapped_then : {X Y Z : Type 0} (f : Y → Z) (h : X → Y) (r : Result (X × Left) At) → finished (mapped f (r >>= λ g. Ok (h g.0, g.1))) ≡ finished (mapped (λ g. f (h g)) r)
mapped_then f h (Ok x) = refl
mapped_then f h (Err e) = refl

abbrev class_made : ℕ → ℤ → ℤ → ℤ → Option (Option Rule) → Glue → ClassLine
class_made line n f m b g = record { line = line; number = nat_abs n; factor = f; limit = m; below = b; skip = g }

abbrev classed : Result (ClassLine × Left) At → Result Content At
classed r = one (λ c. contents.Class c) r

-- the rest of a class of this line, number, factor and limit
module _ (line : ℕ) (number factor limit : ℤ) (m : Cause) where
  abbrev class_with : Option (Option Rule) → Glue → Content
  class_with b g = contents.Class (class_made line number factor limit b g)

  abbrev class_glued : Result (Option (Option Rule) × Left) At → Result Content At
  class_glued r = classed (r >>= λ b. glue_left causes.UnknownWord b.1 >>= λ s. Ok (class_made line number factor limit b.0 s.0, s.1))

  -- the class whose rule is read
  abbrev class_ruled : Result (Option Rule × Left) At → Result Content At
  class_ruled r = class_glued (mapped (λ q. Some q) r)

  class_glue : (b : Option (Option Rule)) (n : ℕ) (fs : List (List ℕ))
      → class_glued (Ok (b, left n m fs)) ≡ settle (first_at n (value_causes m (glue_slots causes.UnknownWord fs) fs)) (class_with b (glue_at fs 0))
  class_glue b n fs =
      mapped_then (λ c. contents.Class c) (class_made line number factor limit b) (glue_left causes.UnknownWord (left n m fs))
      ∙ glue_slots_read (class_with b) causes.UnknownWord n m fs

  class_below_kern : (n : ℕ) (a h : ℤ) (fs : List (List ℕ))
      → class_ruled (dimension_left (left n m fs) >>= λ b. Ok (Some (record { above = a; height = h; below = b.0 }), b.1))
      ≡ settle (first_at n (value_causes m (dimension_slot ∷ glue_slots causes.UnknownWord (past_one fs)) fs))
      (class_with (Some (Some (record { above = a; height = h; below = dimension_at fs 0 }))) (glue_at (past_one fs) 0))
  unfolding dimension_left
  class_below_kern n a h [] = refl
  class_below_kern n a h (f ∷ fs) =
      cons_slot (λ r. class_ruled (r >>= λ b. Ok (Some (record { above = a; height = h; below = b.0 }), b.1))) (λ e. refl) dimension_slot dimension_in n m f fs
      (value_causes m (glue_slots causes.UnknownWord fs) fs) _ (class_glue (Some (Some (record { above = a; height = h; below = dimension_in f }))) (n + 1) fs)

  class_below_height : (n : ℕ) (a : ℤ) (fs : List (List ℕ))
      → class_ruled (least_left (pos 0) causes.Parameter (left n m fs) >>= λ h. dimension_left h.1 >>= λ b. Ok (Some (record { above = a; height = h.0; below = b.0 }), b.1))
      ≡ settle (first_at n (value_causes m (least_slot (pos 0) causes.Parameter ∷ dimension_slot ∷ glue_slots causes.UnknownWord (past_one (past_one fs))) fs))
      (class_with (Some (Some (record { above = a; height = dimension_at fs 0; below = dimension_at fs 1 }))) (glue_at (past_one (past_one fs)) 0))
  unfolding least_left
  class_below_height n a [] = refl
  class_below_height n a (f ∷ fs) =
      cons_slot (λ r. class_ruled (r >>= λ h. dimension_left h.1 >>= λ b. Ok (Some (record { above = a; height = h.0; below = b.0 }), b.1))) (λ e. refl) (least_slot (pos 0) causes.Parameter) dimension_in n m f fs
      (value_causes m (dimension_slot ∷ glue_slots causes.UnknownWord (past_one fs)) fs) _ (class_below_kern (n + 1) a (dimension_in f) fs)

  class_rule_by : (t : Bool) (n : ℕ) (f : List ℕ) (fs : List (List ℕ))
      → class_ruled (rule_by (left n m (f ∷ fs)) t)
      ≡ settle (first_at n (value_causes m (if t then seen_slot ∷ glue_slots causes.UnknownWord fs else dimension_slot ∷ least_slot (pos 0) causes.Parameter ∷ dimension_slot ∷ glue_slots causes.UnknownWord (past_one (past_one fs))) (f ∷ fs)))
      (class_with (Some (if t then None else Some (record { above = dimension_at (f ∷ fs) 0; height = dimension_at (f ∷ fs) 1; below = dimension_at (f ∷ fs) 2 }))) (glue_at (if t then fs else past_one (past_one fs)) 0))
  unfolding drawn_left dimension_left
  class_rule_by true n f fs =
      skip_read class_ruled (λ e. refl) (list_all is_printable f) n f (left (n + 1) m fs) (λ l. Ok (None, l)) (value_causes m (glue_slots causes.UnknownWord fs) fs) _ (class_glue (Some None) (n + 1) fs)
  class_rule_by false n f fs =
      cons_slot (λ r. class_ruled (r >>= λ a. least_left (pos 0) causes.Parameter a.1 >>= λ h. dimension_left h.1 >>= λ b. Ok (Some (record { above = a.0; height = h.0; below = b.0 }), b.1))) (λ e. refl) dimension_slot dimension_in n m f fs
      (value_causes m (least_slot (pos 0) causes.Parameter ∷ dimension_slot ∷ glue_slots causes.UnknownWord (past_one (past_one fs))) fs) _ (class_below_height (n + 1) (dimension_in f) fs)

  class_rule : (n : ℕ) (fs : List (List ℕ))
      → class_ruled (rule_left (left n m fs)) ≡ settle (first_at n (value_causes m (ruled_glue_slots fs) fs)) (class_with (Some (rule_at fs 0)) (glue_at (past_rule fs) 0))
  unfolding rule_left drawn_left dimension_left
  class_rule n [] = refl
  class_rule n (f ∷ fs) = class_rule_by (bytes_eq f (codes "none")) n f fs

  class_known : (t : Bool) (n : ℕ) (f : List ℕ) (fs : List (List ℕ))
      → class_glued (below_known (left n m (f ∷ fs)) t)
      ≡ settle (first_at n (value_causes m ((if t then seen_slot else wrong_slot causes.BadNumber) ∷ ruled_glue_slots fs) (f ∷ fs))) (class_with (Some (rule_at fs 0)) (glue_at (past_rule fs) 0))
  class_known true n f fs =
      skip_read class_glued (λ e. refl) (list_all is_printable f) n f (left (n + 1) m fs) (λ l. mapped (λ q. Some q) (rule_left l)) (value_causes m (ruled_glue_slots fs) fs) _ (class_rule (n + 1) fs)
  class_known false n f fs = wrong_read class_glued (λ e. refl) (list_all is_printable f) n f (left (n + 1) m fs) causes.BadNumber (value_causes m (ruled_glue_slots fs) fs) _

  class_standing_by : (version : ℕ) (t : Bool) (n : ℕ) (f : List ℕ) (fs : List (List ℕ))
      → class_glued (below_by version (left n m (f ∷ fs)) t)
      ≡ settle (first_at n (value_causes m (if t then below_slot version ∷ ruled_glue_slots fs else glue_slots causes.UnknownWord (f ∷ fs)) (f ∷ fs)))
      (class_with (if t then Some (rule_at fs 0) else None) (glue_at (if t then past_rule fs else f ∷ fs) 0))
  class_standing_by version true n f fs = class_known (nat_le 3 version) n f fs
  class_standing_by version false n f fs = class_glue None n (f ∷ fs)

  class_standing : (version n : ℕ) (fs : List (List ℕ))
      → class_glued (below_left version (left n m fs)) ≡ settle (first_at n (value_causes m (standing_slots version fs) fs)) (class_with (below_at fs) (glue_at (past_below fs) 0))
  unfolding below_left
  class_standing version n [] = class_glue None n []
  class_standing version n (f ∷ fs) = class_standing_by version (bytes_eq f (codes "below")) n f fs

class_slots_read : (version line : ℕ) (m : Cause) (fs : List (List ℕ))
    → classed (class_left version line (left 2 m fs)) ≡ settle (first_at 2 (value_causes m (class_slots version fs) fs)) (contents.Class (class_at line fs))
unfolding class_left range_left least_left
class_slots_read version line m [] = refl
class_slots_read version line m (f ∷ fs) =
    cons_slot (λ r. classed (r >>= λ a. range_left (pos 0) (pos 10000) causes.Parameter a.1 >>= λ b. least_left (pos 0) causes.Dimension b.1 >>= λ c. below_left version c.1 >>= λ d. glue_left causes.UnknownWord d.1 >>= λ s. Ok (class_made line a.0 b.0 c.0 d.0 s.0, s.1)))
    (λ e. refl) (range_slot (pos 0) (pos 253) causes.Class) integer_in 2 m f fs
    (value_causes m (range_slot (pos 0) (pos 10000) causes.Parameter ∷ size_slot ∷ standing_slots version (past_one (past_one fs))) fs) (contents.Class (class_at line (f ∷ fs))) (second fs)
  where
    third : (g : List ℕ) (gs : List (List ℕ))
        → classed (least_left (pos 0) causes.Dimension (left 4 m gs) >>= λ c. below_left version c.1 >>= λ d. glue_left causes.UnknownWord d.1 >>= λ s. Ok (class_made line (integer_in f) (integer_in g) c.0 d.0 s.0, s.1))
        ≡ settle (first_at 4 (value_causes m (size_slot ∷ standing_slots version (past_one gs)) gs)) (contents.Class (class_at line (f ∷ g ∷ gs)))
    third g [] = refl
    third g (h ∷ hs) =
        cons_slot (λ r. classed (r >>= λ c. below_left version c.1 >>= λ d. glue_left causes.UnknownWord d.1 >>= λ s. Ok (class_made line (integer_in f) (integer_in g) c.0 d.0 s.0, s.1)))
        (λ e. refl) size_slot dimension_in 4 m h hs (value_causes m (standing_slots version hs) hs) (contents.Class (class_at line (f ∷ g ∷ h ∷ hs))) (class_standing line (integer_in f) (integer_in g) (dimension_in h) m version 5 hs)

    second : (gs : List (List ℕ))
        → classed (range_left (pos 0) (pos 10000) causes.Parameter (left 3 m gs) >>= λ b. least_left (pos 0) causes.Dimension b.1 >>= λ c. below_left version c.1 >>= λ d. glue_left causes.UnknownWord d.1 >>= λ s. Ok (class_made line (integer_in f) b.0 c.0 d.0 s.0, s.1))
        ≡ settle (first_at 3 (value_causes m (range_slot (pos 0) (pos 10000) causes.Parameter ∷ size_slot ∷ standing_slots version (past_one (past_one gs))) gs)) (contents.Class (class_at line (f ∷ gs)))
    second [] = refl
    second (g ∷ gs) =
        cons_slot (λ r. classed (r >>= λ b. least_left (pos 0) causes.Dimension b.1 >>= λ c. below_left version c.1 >>= λ d. glue_left causes.UnknownWord d.1 >>= λ s. Ok (class_made line (integer_in f) b.0 c.0 d.0 s.0, s.1)))
        (λ e. refl) (range_slot (pos 0) (pos 10000) causes.Parameter) integer_in 3 m g gs (value_causes m (size_slot ∷ standing_slots version (past_one gs)) gs) (contents.Class (class_at line (f ∷ g ∷ gs))) (third g gs)

-- ---- a footnote

foot_extra : (p : Bool) (n : ℕ) (later : List (List Cause)) (y z : Content)
    → (extra_by p n >>= λ x. Ok y) ≡ settle (first_at n ((cause_if (not p) causes.NotAscii ++ causes.ExtraField ∷ []) ∷ later)) z
foot_extra true n later y z = refl
foot_extra false n later y z = refl

foot_by : (ks : List ℕ) (m : Cause) (f : List ℕ) (fs : List (List ℕ)) (t : Bool)
    → one (λ c. contents.Foot c) (named_class ks (left 2 m (f ∷ fs)) (t || false)) ≡ settle (first_at 2 (value_causes m (if t then [] else class_slot ks ∷ []) (f ∷ fs))) (contents.Foot (number_in f))
foot_by ks m f fs true = foot_extra (list_all is_printable f) 2 (map ascii_causes fs) (contents.Foot 254) (contents.Foot (number_in f))
foot_by ks m f fs false = cons_slot (one (λ c. contents.Foot c)) (λ e. refl) (class_slot ks) number_in 2 m f fs (value_causes m [] fs) (contents.Foot (number_in f)) (end_here 3 m fs (contents.Foot (number_in f)))

foot_none : (ks : List ℕ) (m : Cause) (t : Bool) → one (λ c. contents.Foot c) (named_class ks (left 2 m []) (t || true)) ≡ Ok (contents.Foot 254)
foot_none ks m true = refl
foot_none ks m false = refl

foot_slots_read : (k : Known) (m : Cause) (fs : List (List ℕ))
    → one (λ c. contents.Foot c) (foot_left k (left 2 m fs)) ≡ settle (first_at 2 (value_causes m (foot_slots k fs) fs)) (contents.Foot (foot_class_at fs))
unfolding foot_left
foot_slots_read k m [] = foot_none k.classes m (k.version == 1)
foot_slots_read k m (f ∷ fs) = foot_by k.classes m f fs (k.version == 1)

-- ---- each word

first-is : (fs : List (List ℕ)) → field_at fs 0 ≡ first_field fs
first-is [] = refl
first-is (f ∷ fs) = refl

pub reads : (k : Known) (line : ℕ) (fs : List (List ℕ)) (w : LineWord)
    → finished (content_left k line w (left 2 (missing_cause w) fs)) ≡ settle (first_at 2 (value_causes (missing_cause w) (word_slots k fs w) fs)) (content_of k.version line fs w)
unfolding content_left name_left dimension_left range_left version_left
reads k line fs header =
    one_slot (λ v. contents.Header v) (word_slot (codes "1" ∷ codes "2" ∷ codes "3" ∷ []) causes.NoHeader) version_named causes.NoHeader fs
    ∙ ap (λ f. settle (first_at 2 (value_causes causes.NoHeader (word_slots k fs header) fs)) (contents.Header (version_named f))) (first-is fs)
reads k line fs setting = set_slots_read k line causes.MissingField fs
reads k line fs class_line = class_slots_read k.version line causes.MissingField fs
reads k line fs hbox = sized_slots (one (λ s. contents.Plain (leaves.Hbox s.0 s.1 s.2))) (λ e. refl) 2 causes.MissingField (λ gs. []) (λ fs. content_of k.version line fs hbox) (λ f g h fs. end_here 5 causes.MissingField fs _) fs
reads k line fs rule = sized_slots (one (λ s. contents.Plain (leaves.Rule s.0 s.1 s.2))) (λ e. refl) 2 causes.MissingField (λ gs. []) (λ fs. content_of k.version line fs rule) (λ f g h fs. end_here 5 causes.MissingField fs _) fs
reads k line fs skip = glue_slots_read (λ g. contents.Plain (leaves.Skip g)) causes.UnknownWord 2 causes.MissingField fs
reads k line fs kern = one_slot (λ w. contents.Plain (leaves.Kern w)) dimension_slot dimension_in causes.MissingField fs
reads k line fs penalty = one_slot (λ p. contents.Plain (leaves.Penalty p)) (range_slot (negsuc 9999) (pos 10000) causes.Penalty) integer_in causes.MissingField fs
reads k line fs mark = one_slot (λ n. contents.Item (items.Mark n)) name_slot (λ f. f) causes.MissingField fs
reads k line fs note = one_slot (λ n. contents.Item (items.Note n)) name_slot (λ f. f) causes.MissingField fs
reads k line fs foot = foot_slots_read k causes.MissingField fs
reads k line fs endfoot = end_here 2 causes.MissingField fs contents.Endfoot
reads k line fs float = float_slots k line causes.MissingField fs
reads k line fs margin = margin_slots k line causes.MissingField fs
reads k line fs newpage = end_here 2 causes.MissingField fs (contents.Item items.NewPage)
reads k line fs clearpage = end_here 2 causes.MissingField fs (contents.Item items.ClearPage)
reads k line fs pagebreak = one_slot (λ p. contents.Item (items.PageBreak (nat_abs p))) (range_slot (pos 0) (pos 4) causes.Penalty) integer_in causes.MissingField fs
reads k line fs nopagebreak = one_slot (λ p. contents.Item (items.NoPageBreak (nat_abs p))) (range_slot (pos 0) (pos 4) causes.Penalty) integer_in causes.MissingField fs
reads k line fs onecolumn = end_here 2 causes.MissingField fs (contents.Item items.OneColumn)
reads k line fs twocolumn = end_here 2 causes.MissingField fs (contents.Item items.TwoColumn)
reads k line fs suppressfloats = area_slots k line causes.MissingField fs
reads k line fs page_number = one_slot (λ p. contents.Item (items.Page (nat_abs p))) (range_slot (pos 0) (pos 1000000) causes.Parameter) integer_in causes.MissingField fs
reads k line fs title = head_slots k line causes.MissingField fs
reads k line fs enlarge = enlarge_slots k line causes.MissingField fs
reads k line fs end = end_here 2 causes.MissingField fs contents.End
