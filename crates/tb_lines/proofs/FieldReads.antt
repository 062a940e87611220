-- Reading fields from the left gives the first cause of the slots, or what the line says.
use Rattle.std.proofs.Common.{◌≡◌, ℕ, pos, nat_abs, Bool, true, false, not, List, [], ◌∷◌, ◌++◌, Option, Some, None, Result, Ok, refl}
use Rattle.std.specs.List.{list_all}
use Rattle.tb_galley.specs.declared.Cause.{Cause}
use Rattle.tb_galley.specs.declared.Cause.TheVariants as causes
use Rattle.tb_galley.specs.declared.fields.At.{At}
use Rattle.tb_galley.specs.Faults.{is_printable, cause_if, causes_in, value_causes}
use Rattle.tb_galley.specs.Fields.{range_slot, least_slot, size_slot, cause_unless}
use Rattle.tb_galley.specs.Grammar.{field_at}
use Rattle.tb_galley.specs.FieldReader.{Left, ◌>>=◌, printed, dimension_in, integer_in, least_left, range_left, finished, mapped}
use Rattle.tb_galley.proofs.FieldReads.{left, first_at, settle, then_slot, end_here, one, one_slot}
use Rattle.tb_lines.specs.declared.text.Item.{Item}
use Rattle.tb_lines.specs.declared.text.Item.TheVariants as items
use Rattle.tb_lines.specs.Words.{LineWord, header, setting, par, word, space, pen, endpar, end}
use Rattle.tb_lines.specs.declared.words.Form.TheVariants as forms
use Rattle.tb_lines.specs.Fields.{Parameter, Form, form_of, parameter_of, is_known, name_slot, header_slot, penalty_slot, form_slot, parameter_slots, word_slots, missing_cause}
use Rattle.tb_lines.specs.declared.contents.Content.TheVariants as contents
use Rattle.tb_lines.specs.Grammar.{Content, size_in, value_in, set_content, content_of}
use Rattle.tb_lines.specs.FieldReader.{name_left, size_left, header_left, value_left, set_by, set_left, sizes_left, word_left, space_left, pen_left, content_left}

-- ---- three dimensions

abbrev an_item : (ℕ → ℕ → ℕ → Item) → Result ((ℕ × ℕ × ℕ) × Left) At → Result Content At
an_item make r = one contents.Item (mapped (λ s. make s.0 s.1 s.2) r)

three_sizes : (make : ℕ → ℕ → ℕ → Item) (m : Cause) (fs : List (List ℕ))
    → an_item make (sizes_left (left 2 m fs))
    ≡ settle (first_at 2 (value_causes m (size_slot ∷ size_slot ∷ size_slot ∷ []) fs)) (contents.Item (make (size_in (field_at fs 0)) (size_in (field_at fs 1)) (size_in (field_at fs 2))))
unfolding size_left least_left
three_sizes make m fs =
    then_slot (λ r. an_item make (mapped nat_abs r >>= λ a. size_left (pos 0) causes.Dimension a.1 >>= λ b. size_left (pos 0) causes.Dimension b.1 >>= λ c. Ok ((a.0, b.0, c.0), c.1)))
    (λ e. refl) size_slot dimension_in 2 m (size_slot ∷ size_slot ∷ []) (λ gs. contents.Item (make (size_in (field_at gs 0)) (size_in (field_at gs 1)) (size_in (field_at gs 2))))
    (λ f1. then_slot (λ r. an_item make (mapped nat_abs r >>= λ b. size_left (pos 0) causes.Dimension b.1 >>= λ c. Ok ((size_in f1, b.0, c.0), c.1)))
    (λ e. refl) size_slot dimension_in 3 m (size_slot ∷ []) (λ gs. contents.Item (make (size_in f1) (size_in (field_at gs 0)) (size_in (field_at gs 1))))
    (λ f2. then_slot (λ r. an_item make (mapped nat_abs r >>= λ c. Ok ((size_in f1, size_in f2, c.0), c.1)))
    (λ e. refl) size_slot dimension_in 4 m [] (λ gs. contents.Item (make (size_in f1) (size_in f2) (size_in (field_at gs 0))))
    (λ f3 gs. end_here 5 m gs (contents.Item (make (size_in f1) (size_in f2) (size_in f3)))))) fs

-- ---- a parameter

value_slots : (p : Parameter) (form : Form) (m : Cause) (fs : List (List ℕ))
    → finished (mapped (λ v. contents.Set p v) (value_left form (left 3 m fs))) ≡ settle (first_at 3 (value_causes m (form_slot form ∷ []) fs)) (contents.Set p (value_in form (field_at fs 0)))
unfolding value_left size_left least_left range_left
value_slots p (forms.Dimension low) m fs =
    then_slot (λ r. finished (mapped (λ v. contents.Set p v) (mapped nat_abs r))) (λ e. refl) (least_slot low causes.Parameter) dimension_in 3 m []
    (λ gs. contents.Set p (size_in (field_at gs 0))) (λ f gs. end_here 4 m gs (contents.Set p (size_in f))) fs
value_slots p (forms.Integer high) m fs =
    then_slot (λ r. finished (mapped (λ v. contents.Set p v) (mapped nat_abs r))) (λ e. refl) (range_slot (pos 0) high causes.Parameter) integer_in 3 m []
    (λ gs. contents.Set p (nat_abs (integer_in (field_at gs 0)))) (λ f gs. end_here 4 m gs (contents.Set p (nat_abs (integer_in f)))) fs

set_known : (o : Option Parameter) (m : Cause) (name : List ℕ) (fs : List (List ℕ))
    → finished (set_by 2 (left 3 m fs) o) ≡ settle (first_at 2 (causes_in (cause_unless (is_known o) causes.UnknownParameter) ∷ value_causes m (parameter_slots o) fs)) (set_content (name ∷ fs) o)
set_known None m name fs = refl
set_known (Some p) m name fs = value_slots p (form_of p) m fs

set_printed : (t : Bool) (m : Cause) (name : List ℕ) (fs : List (List ℕ))
    → finished (printed t 2 name (left 3 m fs) >>= λ x. set_by 2 x.1 (parameter_of x.0))
    ≡ settle (first_at 2 ((cause_if (not t) causes.NotAscii ++ causes_in (cause_unless (is_known (parameter_of name)) causes.UnknownParameter)) ∷ value_causes m (parameter_slots (parameter_of name)) fs)) (set_content (name ∷ fs) (parameter_of name))
set_printed true m name fs = set_known (parameter_of name) m name fs
set_printed false m name fs = refl

set_slots_read : (m : Cause) (fs : List (List ℕ)) → finished (set_left (left 2 m fs)) ≡ settle (first_at 2 (value_causes m (word_slots fs setting) fs)) (content_of fs setting)
unfolding set_left
set_slots_read m [] = refl
set_slots_read m (name ∷ fs) = set_printed (list_all is_printable name) m name fs

-- ---- each word

pub reads : (fs : List (List ℕ)) (w : LineWord)
    → finished (content_left w (left 2 (missing_cause w) fs)) ≡ settle (first_at 2 (value_causes (missing_cause w) (word_slots fs w) fs)) (content_of fs w)
unfolding content_left header_left name_left range_left word_left space_left pen_left
reads fs header = one_slot (λ x. contents.Header) header_slot (λ f. tt {0}) causes.NoHeader fs
reads fs setting = set_slots_read causes.MissingField fs
reads fs par = one_slot (λ n. contents.Par n) name_slot (λ f. f) causes.MissingField fs
reads fs word = three_sizes items.Word causes.MissingField fs
reads fs space = three_sizes items.Space causes.MissingField fs
reads fs pen =
    then_slot (λ r. one (λ i. contents.Item i) (mapped (λ p. items.Penalty p) r)) (λ e. refl) penalty_slot integer_in 2 causes.MissingField []
    (λ gs. contents.Item (items.Penalty (integer_in (field_at gs 0)))) (λ f gs. end_here 3 causes.MissingField gs (contents.Item (items.Penalty (integer_in f)))) fs
reads fs endpar = end_here 2 causes.MissingField fs contents.Endpar
reads fs end = end_here 2 causes.MissingField fs contents.End
