-- The causes at each field are listed in the order of the table.
use Rattle.std.proofs.Common.{◌≡◌, ℕ, ◌+◌, Bool, true, false, not, ◌&&◌, nat_lt, nat_le, ◌==◌, List, [], ◌∷◌, ◌++◌, map, length, Option, Some, None, Result, Ok, Err, if◌then◌else◌, codes, bytes_eq, ℤ, pos, refl, arith}
use Rattle.std.specs.List.{list_all}
use Rattle.std.proofs.lemmas.Bool.Decides.{nat_tests}
use Rattle.std.proofs.lemmas.Bool.{and_parts, and_from}
use Rattle.tb_scaled.specs.declared.Order.{Order}
use Rattle.tb_text.specs.declared.TextFault.{TextFault}
use Rattle.tb_text.specs.declared.TextFault.TheVariants as faults
use Rattle.tb_text.specs.Numbers.{integer_of, dimension_of, stretch_of, fraction_of_field}
use Rattle.tb_param.specs.declared.table.Form.{Form}
use Rattle.tb_param.specs.declared.table.Form.TheVariants as forms
use Rattle.tb_param.specs.Table.{Row, row_for}
use Rattle.tb_param.specs.declared.changes.SetPlace.{SetPlace}
use Rattle.tb_galley.specs.declared.Cause.{Cause}
use Rattle.tb_galley.specs.declared.Cause.TheVariants as causes
use Rattle.tb_galley.specs.Words.{LineWord, header, setting, class_line, hbox, rule, skip, kern, penalty, mark, note, foot, endfoot, float, margin, newpage, clearpage, pagebreak, nopagebreak, onecolumn, twocolumn, suppressfloats, page_number, title, enlarge, end, Line, Phase, at_start, among_sets, among_items, after_clear, after_two, in_foot, ended, phase_after, item_count, content_at, counts_word, Known, known_after, word_here}
use Rattle.tb_galley.specs.Fields.{Slot, name_slot, parameter_slot, dimension_slot, least_slot, range_slot, stretch_slot, fraction_slot, word_slot, places_slot, seen_slot, wrong_slot, test_slot, class_slot, slot_cause, text_cause, cause_of_read, row_cause, glue_slots, stretch_slots, shrink_slots, past_one, form_slots, row_slots, set_slots, foot_slots, suppress_slots, star_slots, word_slots, drawn_slots, rule_slots, nobreak_slots, past_six, ruled_glue_slots, below_slot, standing_slots}
use Rattle.tb_galley.specs.Faults.{cause_rank, cause_if, causes_in, ascii_causes, is_printable, asked_place, may_be_set, set_causes, place_causes, item_causes, missing_cause, value_causes, later_causes, all_content_causes, line_causes, end_causes, causes_from}
use Rattle.tb_galley.proofs.FirstFaults.{is_led}

-- ---- the word and its place

abbrev pub is_placed : List Cause → Bool
is_placed [] = true
is_placed (c ∷ []) = nat_le 3 (cause_rank c) && nat_le (cause_rank c) 15
is_placed (c ∷ d ∷ cs) = false

set_placed : (p : Phase) (a : Option SetPlace) → is_placed (set_causes p a) ≡ true
set_placed p None = refl
set_placed p (Some place) = by_test (may_be_set p place)
  where
    by_test : (t : Bool) → is_placed (cause_if (not t) causes.SetAfterItem) ≡ true
    by_test true = refl
    by_test false = refl

placed : (p : Phase) (a : Option SetPlace) (w : Option LineWord) → is_placed (place_causes p a w) ≡ true
placed at_start a None = refl
placed at_start a (Some header) = refl
placed at_start a (Some _) = refl
placed among_sets a None = refl
placed among_sets a (Some header) = refl
placed among_sets a (Some _) = refl
placed among_items a None = refl
placed among_items a (Some header) = refl
placed among_items a (Some setting) = set_placed among_items a
placed among_items a (Some _) = refl
placed after_clear a None = refl
placed after_clear a (Some header) = refl
placed after_clear a (Some setting) = set_placed after_clear a
placed after_clear a (Some _) = refl
placed after_two a None = refl
placed after_two a (Some header) = refl
placed after_two a (Some setting) = set_placed after_two a
placed after_two a (Some _) = refl
placed in_foot a None = refl
placed in_foot a (Some header) = refl
placed in_foot a (Some setting) = set_placed in_foot a
placed in_foot a (Some _) = refl
placed ended a None = refl
placed ended a (Some header) = refl
placed ended a (Some _) = refl

pub led_head : (a t : Bool) (xs : List Cause) → is_placed xs ≡ true → is_led ((cause_if a causes.NotAscii ++ xs) ++ cause_if t causes.Items) ≡ true
led_head true true [] h = refl
led_head true false [] h = refl
led_head false true [] h = refl
led_head false false [] h = refl
led_head true true (c ∷ []) h = grind (arith, nat_tests)
led_head true false (c ∷ []) h = grind (arith, nat_tests)
led_head false true (c ∷ []) h = grind (arith, nat_tests)
led_head false false (c ∷ []) h = refl
led_head a t (c ∷ d ∷ cs) h = cc

led_content_head : (a : Bool) (p : Phase) (s : Option SetPlace) (n : ℕ) (u w : Option LineWord) → is_led ((cause_if a causes.NotAscii ++ place_causes p s u) ++ item_causes n w) ≡ true
led_content_head a p s n u None = led_head a false (place_causes p s u) (placed p s u)
led_content_head a p s n u (Some w) = led_head a (counts_word n w && nat_le 100000 n) (place_causes p s u) (placed p s u)

-- ---- the later fields

abbrev pub is_late : Cause → Bool
is_late c = nat_le 2 (cause_rank c)

abbrev pub is_late_slot : Slot → Bool
is_late_slot name_slot = true
is_late_slot (parameter_slot version) = true
is_late_slot (class_slot ks) = true
is_late_slot dimension_slot = true
is_late_slot (least_slot low c) = is_late c
is_late_slot (range_slot low high c) = is_late c
is_late_slot stretch_slot = true
is_late_slot fraction_slot = true
is_late_slot (word_slot ws c) = is_late c
is_late_slot places_slot = true
is_late_slot seen_slot = true
is_late_slot (wrong_slot c) = is_late c
is_late_slot (test_slot test c) = is_late c

abbrev is_late_cause : Option Cause → Bool
is_late_cause None = true
is_late_cause (Some c) = is_late c

late_text : (e : TextFault) → is_late (text_cause e) ≡ true
late_text faults.BadNumber = refl
late_text e = refl

late_if : (t : Bool) (c : Cause) → is_late c ≡ true → is_late_cause (if t then None else Some c) ≡ true
late_if true c h = refl
late_if false c h = h

late_read : {X : Type 0} (test : X → Bool) (c : Cause) (r : Result X TextFault) → is_late c ≡ true → is_late_cause (cause_of_read test c r) ≡ true
late_read test c (Ok v) h = late_if (test v) c h
late_read test c (Err e) h = late_text e

late_row : (r : Option Row) → is_late_cause (row_cause r) ≡ true
late_row None = refl
late_row (Some r) = refl

late_slot : (s : Slot) (f : List ℕ) → is_late_slot s ≡ true → is_late_cause (slot_cause s f) ≡ true
late_slot name_slot f h = late_if _ causes.BadName refl
late_slot (parameter_slot version) f h = late_row (row_for version f)
late_slot (class_slot ks) f h = late_read _ causes.Class (integer_of f) refl
late_slot dimension_slot f h = late_read (λ (v : ℤ). true) causes.Dimension (dimension_of f) refl
late_slot (least_slot low c) f h = late_read _ c (dimension_of f) h
late_slot (range_slot low high c) f h = late_read _ c (integer_of f) h
late_slot stretch_slot f h = late_read (λ (v : ℤ × Order). true) causes.Dimension (stretch_of f) refl
late_slot fraction_slot f h = late_read _ causes.Parameter (fraction_of_field f) refl
late_slot (word_slot ws c) f h = late_if _ c h
late_slot places_slot f h = late_if _ causes.BadPlace refl
late_slot seen_slot f h = refl
late_slot (wrong_slot c) f h = h
late_slot (test_slot test c) f h = late_if (test f) c h

late_shrink_by : (t : Bool) (c : Cause) → is_late c ≡ true → list_all is_late_slot (if t then seen_slot ∷ dimension_slot ∷ [] else wrong_slot c ∷ []) ≡ true
late_shrink_by true c h = refl
late_shrink_by false c h = and_from (is_late c) true h refl

late_shrink : (c : Cause) (fs : List (List ℕ)) → is_late c ≡ true → list_all is_late_slot (shrink_slots c fs) ≡ true
late_shrink c [] h = refl
late_shrink c (f ∷ fs) h = late_shrink_by (bytes_eq f (codes "minus")) c h

late_stretch_by : (t : Bool) (c : Cause) (f : List ℕ) (fs : List (List ℕ)) → is_late c ≡ true
    → list_all is_late_slot (if t then seen_slot ∷ stretch_slot ∷ shrink_slots c (past_one fs) else shrink_slots c (f ∷ fs)) ≡ true
late_stretch_by true c f fs h = late_shrink c (past_one fs) h
late_stretch_by false c f fs h = late_shrink c (f ∷ fs) h

late_stretch : (c : Cause) (fs : List (List ℕ)) → is_late c ≡ true → list_all is_late_slot (stretch_slots c fs) ≡ true
late_stretch c [] h = refl
late_stretch c (f ∷ fs) h = late_stretch_by (bytes_eq f (codes "plus")) c f fs h

late_glue : (c : Cause) (fs : List (List ℕ)) → is_late c ≡ true → list_all is_late_slot (glue_slots c fs) ≡ true
late_glue c [] h = refl
late_glue c (f ∷ fs) h = late_stretch c fs h

late_rule_by : (t : Bool) → list_all is_late_slot (if t then seen_slot ∷ [] else drawn_slots) ≡ true
late_rule_by true = refl
late_rule_by false = refl

late_rule : (fs : List (List ℕ)) → list_all is_late_slot (rule_slots fs) ≡ true
late_rule [] = refl
late_rule (f ∷ fs) = late_rule_by (bytes_eq f (codes "none"))

late_ruled_by : (t : Bool) (fs : List (List ℕ))
    → list_all is_late_slot (if t then seen_slot ∷ glue_slots causes.UnknownWord fs else dimension_slot ∷ least_slot (pos 0) causes.Parameter ∷ dimension_slot ∷ glue_slots causes.UnknownWord (past_one (past_one fs))) ≡ true
late_ruled_by true fs = late_glue causes.UnknownWord fs refl
late_ruled_by false fs = late_glue causes.UnknownWord (past_one (past_one fs)) refl

late_ruled : (fs : List (List ℕ)) → list_all is_late_slot (ruled_glue_slots fs) ≡ true
late_ruled [] = refl
late_ruled (f ∷ fs) = late_ruled_by (bytes_eq f (codes "none")) fs

late_below_by : (t : Bool) (fs : List (List ℕ)) → list_all is_late_slot ((if t then seen_slot else wrong_slot causes.BadNumber) ∷ ruled_glue_slots fs) ≡ true
late_below_by true fs = late_ruled fs
late_below_by false fs = late_ruled fs

late_standing_by : (t : Bool) (version : ℕ) (f : List ℕ) (fs : List (List ℕ)) → list_all is_late_slot (if t then below_slot version ∷ ruled_glue_slots fs else glue_slots causes.UnknownWord (f ∷ fs)) ≡ true
late_standing_by true version f fs = late_below_by (nat_le 3 version) fs
late_standing_by false version f fs = late_glue causes.UnknownWord (f ∷ fs) refl

late_standing : (version : ℕ) (fs : List (List ℕ)) → list_all is_late_slot (standing_slots version fs) ≡ true
late_standing version [] = refl
late_standing version (f ∷ fs) = late_standing_by (bytes_eq f (codes "below")) version f fs

late_form : (fs : List (List ℕ)) (form : Form) → list_all is_late_slot (form_slots fs form) ≡ true
late_form fs forms.Skip = late_glue causes.WrongForm fs refl
late_form fs forms.Rule = late_rule fs
late_form fs form = refl

late_rows : (fs : List (List ℕ)) (r : Option Row) → list_all is_late_slot (row_slots fs r) ≡ true
late_rows fs None = refl
late_rows fs (Some r) = late_form fs r.form

late_set : (version : ℕ) (fs : List (List ℕ)) → list_all is_late_slot (set_slots version fs) ≡ true
late_set version [] = refl
late_set version (f ∷ fs) = late_rows fs (row_for version f)

late_foot : (k : Known) (fs : List (List ℕ)) → list_all is_late_slot (foot_slots k fs) ≡ true
late_foot k [] = refl
late_foot k (f ∷ fs) = by_version (k.version == 1)
  where
    by_version : (t : Bool) → list_all is_late_slot (if t then [] else class_slot k.classes ∷ []) ≡ true
    by_version true = refl
    by_version false = refl

late_suppress : (fs : List (List ℕ)) → list_all is_late_slot (suppress_slots fs) ≡ true
late_suppress [] = refl
late_suppress (f ∷ fs) = refl

late_star : (fs : List (List ℕ)) → list_all is_late_slot (star_slots fs) ≡ true
late_star [] = refl
late_star (f ∷ fs) = refl

late_nobreak : (version : ℕ) (fs : List (List ℕ)) → list_all is_late_slot (nobreak_slots version fs) ≡ true
late_nobreak version [] = refl
late_nobreak version (f ∷ fs) = by_version (version == 3)
  where
    by_version : (t : Bool) → list_all is_late_slot (if t then word_slot (codes "nobreak" ∷ []) causes.UnknownWord ∷ [] else []) ≡ true
    by_version true = refl
    by_version false = refl

late_word : (k : Known) (fs : List (List ℕ)) (w : LineWord) → list_all is_late_slot (word_slots k fs w) ≡ true
late_word k fs header = refl
late_word k fs setting = late_set k.version fs
late_word k fs class_line = late_standing k.version (past_one (past_one (past_one fs)))
late_word k fs hbox = refl
late_word k fs rule = refl
late_word k fs skip = late_glue causes.UnknownWord fs refl
late_word k fs kern = refl
late_word k fs penalty = refl
late_word k fs mark = refl
late_word k fs note = refl
late_word k fs foot = late_foot k fs
late_word k fs endfoot = refl
late_word k fs float = late_nobreak k.version (past_six fs)
late_word k fs margin = late_nobreak k.version (past_six fs)
late_word k fs newpage = refl
late_word k fs clearpage = refl
late_word k fs pagebreak = refl
late_word k fs nopagebreak = refl
late_word k fs onecolumn = refl
late_word k fs twocolumn = refl
late_word k fs suppressfloats = late_suppress fs
late_word k fs page_number = refl
late_word k fs title = refl
late_word k fs enlarge = late_star (past_one fs)
late_word k fs end = refl

led_ascii : (a : Bool) → is_led (cause_if a causes.NotAscii) ≡ true
led_ascii true = refl
led_ascii false = refl

led_pair : (a : Bool) (o : Option Cause) → is_late_cause o ≡ true → is_led (cause_if a causes.NotAscii ++ causes_in o) ≡ true
led_pair true None h = refl
led_pair false None h = refl
led_pair true (Some c) h = grind (arith, nat_tests)
led_pair false (Some c) h = refl

led_extra : (a : Bool) → is_led (cause_if a causes.NotAscii ++ causes.ExtraField ∷ []) ≡ true
led_extra true = refl
led_extra false = refl

pub led_fields : (fs : List (List ℕ)) → list_all is_led (map ascii_causes fs) ≡ true
led_fields [] = refl
led_fields (f ∷ fs) = and_from (is_led (ascii_causes f)) (list_all is_led (map ascii_causes fs)) (led_ascii (not (list_all is_printable f))) (led_fields fs)

pub led_values : (missing : Cause) (ss : List Slot) (fs : List (List ℕ)) → list_all is_late_slot ss ≡ true → list_all is_led (value_causes missing ss fs) ≡ true
led_values missing [] [] h = refl
led_values missing [] (f ∷ fs) h =
    and_from (is_led (ascii_causes f ++ causes.ExtraField ∷ [])) (list_all is_led (map ascii_causes fs)) (led_extra (not (list_all is_printable f))) (led_fields fs)
led_values missing (s ∷ ss) [] h = refl
led_values missing (s ∷ ss) (f ∷ fs) h =
    let parts = and_parts (is_late_slot s) (list_all is_late_slot ss) h in
    and_from (is_led (ascii_causes f ++ causes_in (slot_cause s f))) (list_all is_led (value_causes missing ss fs))
    (led_pair (not (list_all is_printable f)) (slot_cause s f) (late_slot s f parts.0)) (led_values missing ss fs parts.1)

led_later : (k : Known) (w : Option LineWord) (fs : List (List ℕ)) → list_all is_led (later_causes k w fs) ≡ true
led_later k None fs = led_fields fs
led_later k (Some w) fs = led_values (missing_cause w) (word_slots k fs w) fs (late_word k fs w)

led_content : (p : Phase) (k : Known) (n : ℕ) (ls : List Line) → list_all is_led (all_content_causes p k n ls) ≡ true
led_content p k n [] = refl
led_content p k n (l ∷ ls) =
    and_from (is_led (ascii_causes l.head ++ place_causes p (asked_place k.version l.fields) (word_here k l.word) ++ item_causes n l.word)) (list_all is_led (later_causes k (word_here k l.word) l.fields))
    (led_content_head (not (list_all is_printable l.head)) p (asked_place k.version l.fields) n (word_here k l.word) l.word) (led_later k (word_here k l.word) l.fields)

pub led_length : (t : Bool) → is_led (cause_if t causes.LineLength) ≡ true
led_length true = refl
led_length false = refl

led_line : (p : Phase) (k : Known) (count n : ℕ) (bytes : List ℕ) → list_all is_led (line_causes p k count n bytes) ≡ true
led_line p k count n bytes =
    and_from (is_led (cause_if (nat_lt 255 (length bytes)) causes.LineLength)) (list_all is_led (all_content_causes p k count (content_at n bytes)))
    (led_length (nat_lt 255 (length bytes))) (led_content p k count (content_at n bytes))

led_end : (p : Phase) → list_all is_led (end_causes p ∷ []) ≡ true
led_end at_start = refl
led_end among_sets = refl
led_end among_items = refl
led_end after_clear = refl
led_end after_two = refl
led_end in_foot = refl
led_end ended = refl

pub all_led : (n : ℕ) (before : List Line) (lines : List (List ℕ)) → list_all (list_all is_led) (causes_from n before lines) ≡ true
all_led n before [] = and_from (list_all is_led (end_causes (phase_after before) ∷ [])) true (led_end (phase_after before)) refl
all_led n before (bytes ∷ lines) =
    and_from (list_all is_led (line_causes (phase_after before) (known_after before) (item_count before) n bytes)) (list_all (list_all is_led) (causes_from (n + 1) (before ++ content_at n bytes) lines))
    (led_line (phase_after before) (known_after before) (item_count before) n bytes) (all_led (n + 1) (before ++ content_at n bytes) lines)
