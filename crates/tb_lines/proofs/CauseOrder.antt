-- The causes at each field are listed in the order of the table.
use Rattle.std.proofs.Common.{◌≡◌, ℕ, Bool, true, false, not, ◌||◌, ◌&&◌, nat_lt, nat_le, List, [], ◌∷◌, ◌++◌, length, Option, Some, None, refl}
use Rattle.std.specs.List.{list_all}
use Rattle.std.proofs.lemmas.Bool.{and_from}
use Rattle.tb_galley.specs.declared.Cause.TheVariants as causes
use Rattle.tb_galley.specs.Faults.{is_printable, cause_if, ascii_causes}
use Rattle.tb_galley.proofs.FirstFaults.{is_led}
use Rattle.tb_galley.proofs.CauseOrder.{is_placed, led_head, is_late_slot, led_fields, led_values, led_length}
use Rattle.tb_lines.specs.Words.{LineWord, header, setting, par, word, space, pen, endpar, end, Line, Phase, at_start, among_sets, among_pars, after_clear, after_two, in_par, ended, phase_after, count_after, inside_after, content_at, counts_word, is_inner_word, is_full}
use Rattle.tb_lines.specs.declared.words.Form.TheVariants as forms
use Rattle.tb_lines.specs.Fields.{Parameter, Form, form_of, parameter_of, form_slot, parameter_slots, set_slots, word_slots, missing_cause}
use Rattle.tb_lines.specs.Faults.{place_causes, item_causes, later_causes, all_content_causes, line_causes, end_causes, causes_from}

-- ---- the word and its place

placed : (p : Phase) (w : Option LineWord) → is_placed (place_causes p w) ≡ true
placed at_start None = refl
placed at_start (Some header) = refl
placed at_start (Some _) = refl
placed among_sets None = refl
placed among_sets (Some header) = refl
placed among_sets (Some _) = refl
placed among_pars None = refl
placed among_pars (Some header) = refl
placed among_pars (Some _) = refl
placed after_clear None = refl
placed after_clear (Some header) = refl
placed after_clear (Some _) = refl
placed after_two None = refl
placed after_two (Some header) = refl
placed after_two (Some _) = refl
placed in_par None = refl
placed in_par (Some header) = refl
placed in_par (Some _) = refl
placed ended None = refl
placed ended (Some header) = refl
placed ended (Some _) = refl

led_content_head : (a : Bool) (p : Phase) (n : ℕ) (i : Option ℕ) (w : Option LineWord) → is_led ((cause_if a causes.NotAscii ++ place_causes p w) ++ item_causes n i w) ≡ true
led_content_head a p n i None = led_head a false (place_causes p None) (placed p None)
led_content_head a p n i (Some w) = led_head a ((counts_word w && nat_le 25000 n) || (is_inner_word w && is_full i)) (place_causes p (Some w)) (placed p (Some w))

-- ---- the later fields

late_form : (form : Form) → list_all is_late_slot (form_slot form ∷ []) ≡ true
late_form (forms.Dimension low) = refl
late_form (forms.Integer high) = refl

late_parameters : (p : Option Parameter) → list_all is_late_slot (parameter_slots p) ≡ true
late_parameters None = refl
late_parameters (Some p) = late_form (form_of p)

late_set : (fs : List (List ℕ)) → list_all is_late_slot (set_slots fs) ≡ true
late_set [] = refl
late_set (f ∷ fs) = late_parameters (parameter_of f)

late_word : (fs : List (List ℕ)) (w : LineWord) → list_all is_late_slot (word_slots fs w) ≡ true
late_word fs header = refl
late_word fs setting = late_set fs
late_word fs par = refl
late_word fs word = refl
late_word fs space = refl
late_word fs pen = refl
late_word fs endpar = refl
late_word fs end = refl

led_later : (w : Option LineWord) (fs : List (List ℕ)) → list_all is_led (later_causes w fs) ≡ true
led_later None fs = led_fields fs
led_later (Some w) fs = led_values (missing_cause w) (word_slots fs w) fs (late_word fs w)

led_content : (p : Phase) (n : ℕ) (i : Option ℕ) (ls : List Line) → list_all is_led (all_content_causes p n i ls) ≡ true
led_content p n i [] = refl
led_content p n i (l ∷ ls) =
    and_from (is_led (ascii_causes l.head ++ place_causes p l.word ++ item_causes n i l.word)) (list_all is_led (later_causes l.word l.fields))
    (led_content_head (not (list_all is_printable l.head)) p n i l.word) (led_later l.word l.fields)

led_line : (p : Phase) (n : ℕ) (i : Option ℕ) (bytes : List ℕ) → list_all is_led (line_causes p n i bytes) ≡ true
led_line p n i bytes =
    and_from (is_led (cause_if (nat_lt 255 (length bytes)) causes.LineLength)) (list_all is_led (all_content_causes p n i (content_at bytes)))
    (led_length (nat_lt 255 (length bytes))) (led_content p n i (content_at bytes))

led_end : (p : Phase) → list_all is_led (end_causes p ∷ []) ≡ true
led_end at_start = refl
led_end among_sets = refl
led_end among_pars = refl
led_end after_clear = refl
led_end after_two = refl
led_end in_par = refl
led_end ended = refl

pub all_led : (before : List Line) (lines : List (List ℕ)) → list_all (list_all is_led) (causes_from before lines) ≡ true
all_led before [] = and_from (list_all is_led (end_causes (phase_after before) ∷ [])) true (led_end (phase_after before)) refl
all_led before (bytes ∷ lines) =
    and_from (list_all is_led (line_causes (phase_after before) (count_after before) (inside_after before) bytes)) (list_all (list_all is_led) (causes_from (before ++ content_at bytes) lines))
    (led_line (phase_after before) (count_after before) (inside_after before) bytes) (all_led (before ++ content_at bytes) lines)
