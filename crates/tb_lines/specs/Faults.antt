-- The faults of a text.
use Rattle.std.specs.Prelude.{ℕ, ◌||◌, ◌&&◌, nat_lt, nat_le, List, [], ◌∷◌, ◌++◌, length, map, Option, Some, None}
use Rattle.tb_galley.specs.declared.Cause.{Cause}
use Rattle.tb_galley.specs.declared.Cause.TheVariants as causes
use Rattle.tb_galley.specs.declared.Fault.{Fault}
use Rattle.tb_galley.specs.Faults.{cause_if, ascii_causes, no_word_causes, value_causes, end_causes_by, faults_in_lines}
use Rattle.tb_lines.specs.Words.{LineWord, header, setting, par, endpar, end, Phase, at_start, among_pars, after_clear, after_two, in_par, ended, Line, content_at, phase_after, count_after, inside_after, counts_word, is_inner_word, is_full}
use Rattle.tb_lines.specs.Fields.{word_slots, missing_cause}

-- ---- the word of a line, and its place: at field 1

-- the causes of a word by where its line is
abbrev pub word_causes : Phase → LineWord → List Cause
word_causes at_start header = []
word_causes at_start _ = causes.NoHeader ∷ []
word_causes ended _ = causes.AfterEnd ∷ []
word_causes _ header = causes.UnknownWord ∷ []
word_causes in_par setting = causes.NotInPar ∷ []
word_causes in_par par = causes.NestedPar ∷ []
word_causes in_par end = causes.UnclosedPar ∷ []
word_causes in_par _ = []
word_causes among_pars setting = causes.SetAfterItem ∷ []
word_causes after_clear setting = causes.SetAfterItem ∷ []
word_causes after_two setting = causes.SetAfterItem ∷ []
word_causes _ setting = []
word_causes _ par = []
word_causes _ end = []
word_causes _ endpar = causes.StrayEndpar ∷ []
word_causes _ _ = causes.NotInPar ∷ []

-- the causes of a first field that is a word, or none
abbrev pub place_causes : Phase → Option LineWord → List Cause
place_causes p None = no_word_causes p
place_causes p (Some w) = word_causes p w

-- the 25001st line that counts, and a paragraph's 5001st item
abbrev pub item_causes : ℕ → Option ℕ → Option LineWord → List Cause
item_causes count inside None = []
item_causes count inside (Some w) = cause_if ((counts_word w && nat_le 25000 count) || (is_inner_word w && is_full inside)) causes.Items

-- ---- the fields after the word

-- the causes at each field from field 2 on; after an unknown word only bytes are looked at
abbrev pub later_causes : Option LineWord → List (List ℕ) → List (List Cause)
later_causes None fs = map ascii_causes fs
later_causes (Some w) fs = value_causes (missing_cause w) (word_slots fs w) fs

-- ---- a line: the causes at field 0, at field 1, and so on

-- the causes at each field from field 1 on
abbrev pub content_causes : Phase → ℕ → Option ℕ → Line → List (List Cause)
content_causes p count inside l = (ascii_causes l.head ++ place_causes p l.word ++ item_causes count inside l.word) ∷ later_causes l.word l.fields

-- a line without content has none
abbrev pub all_content_causes : Phase → ℕ → Option ℕ → List Line → List (List Cause)
all_content_causes p count inside [] = []
all_content_causes p count inside (l ∷ ls) = content_causes p count inside l

-- a line is too long, or has causes at its fields
abbrev pub line_causes : Phase → ℕ → Option ℕ → List ℕ → List (List Cause)
line_causes p count inside bytes = cause_if (nat_lt 255 (length bytes)) causes.LineLength ∷ all_content_causes p count inside (content_at bytes)

-- at the end of the text
abbrev pub end_causes : Phase → List Cause
end_causes p = end_causes_by causes.UnclosedPar p

-- the causes at each field of each of these lines, and at the end of the text; the content lines before them are given
abbrev pub causes_from : List Line → List (List ℕ) → List (List (List Cause))
causes_from before [] = (end_causes (phase_after before) ∷ []) ∷ []
causes_from before (bytes ∷ lines) = line_causes (phase_after before) (count_after before) (inside_after before) bytes ∷ causes_from (before ++ content_at bytes) lines

-- all faults of a text of these lines
abbrev pub faults : List (List ℕ) → List Fault
faults lines = faults_in_lines 1 (causes_from [] lines)
