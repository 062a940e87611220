-- The fields after a line's word: what each must be.
use Rattle.std.specs.Prelude.{ℕ, pos, negsuc, ◌≤ℤ◌, Bool, true, false, ◌&&◌, nat_le, List, [], ◌∷◌, length, Option, Some, None, codes, bytes_eq}
use Rattle.tb_node.specs.Names.{is_name}
use Rattle.tb_galley.specs.declared.Cause.{Cause}
use Rattle.tb_galley.specs.declared.Cause.TheVariants as causes
use Rattle.tb_galley.specs.Spelling.{Spelled, says, spelled_value}
use Rattle.tb_galley.specs.Fields.{Slot, least_slot, range_slot, test_slot, size_slot}
pub use Rattle.tb_lines.specs.declared.words.Parameter.{Parameter}
use Rattle.tb_lines.specs.declared.words.Parameter.TheVariants as parameters
pub use Rattle.tb_lines.specs.declared.words.Form.{Form}
use Rattle.tb_lines.specs.declared.words.Form.TheVariants as forms
use Rattle.tb_lines.specs.Words.{LineWord, header, setting, par, word, space, pen, endpar, end}

-- the names of the parameters
abbrev pub parameter_names : List (Spelled Parameter)
parameter_names =
    says (codes "hsize") parameters.Hsize ∷
    says (codes "tolerance") parameters.Tolerance ∷
    says (codes "linepenalty") parameters.LinePenalty ∷
    says (codes "clubpenalty") parameters.ClubPenalty ∷
    says (codes "widowpenalty") parameters.WidowPenalty ∷
    says (codes "baselineskip") parameters.BaselineSkip ∷
    says (codes "lineskip") parameters.LineSkip ∷
    says (codes "parskip") parameters.ParSkip ∷ []

-- the parameter of this name
unfoldable pub parameter_of : List ℕ → Option Parameter
parameter_of text = spelled_value parameter_names text

-- how the value of a parameter is written: a dimension of at least this much, or an integer from 0 to this much
abbrev pub form_of : Parameter → Form
form_of parameters.Hsize = forms.Dimension (pos 1)
form_of parameters.Tolerance = forms.Integer (pos 10000)
form_of parameters.LinePenalty = forms.Integer (pos 10000)
form_of parameters.ClubPenalty = forms.Integer (pos 5000)
form_of parameters.WidowPenalty = forms.Integer (pos 5000)
form_of parameters.BaselineSkip = forms.Dimension (pos 0)
form_of parameters.LineSkip = forms.Dimension (pos 0)
form_of parameters.ParSkip = forms.Dimension (pos 0)

-- the least dimension of the form is at least 0, or its greatest integer at most 10000
abbrev pub IsForm : Form → Type 0
IsForm (forms.Dimension low) = pos 0 ≤ℤ low
IsForm (forms.Integer high) = high ≤ℤ pos 10000

-- ---- slots

-- a name of at most 58 bytes
abbrev pub is_par_name : List ℕ → Bool
is_par_name f = is_name f && nat_le (length f) 58

-- a parameter has the name
abbrev pub is_known : Option Parameter → Bool
is_known None = false
is_known (Some p) = true

-- the name of a paragraph
abbrev pub name_slot : Slot
name_slot = test_slot is_par_name causes.BadName

-- the name of a parameter
abbrev pub parameter_slot : Slot
parameter_slot = test_slot (λ f. is_known (parameter_of f)) causes.UnknownParameter

-- the number of the header
abbrev pub header_slot : Slot
header_slot = test_slot (λ f. bytes_eq f (codes "1")) causes.NoHeader

-- the slot of a value
abbrev pub form_slot : Form → Slot
form_slot (forms.Dimension low) = least_slot low causes.Parameter
form_slot (forms.Integer high) = range_slot (pos 0) high causes.Parameter

-- the slots after the name of a parameter
abbrev pub parameter_slots : Option Parameter → List Slot
parameter_slots None = []
parameter_slots (Some p) = form_slot (form_of p) ∷ []

-- the slots of a `set` line
abbrev pub set_slots : List (List ℕ) → List Slot
set_slots [] = parameter_slot ∷ []
set_slots (f ∷ fs) = parameter_slot ∷ parameter_slots (parameter_of f)

-- a penalty
abbrev pub penalty_slot : Slot
penalty_slot = range_slot (negsuc 9999) (pos 10000) causes.Penalty

-- the slots after a line's word
abbrev pub word_slots : List (List ℕ) → LineWord → List Slot
word_slots fs header = header_slot ∷ []
word_slots fs setting = set_slots fs
word_slots fs par = name_slot ∷ []
word_slots fs word = size_slot ∷ size_slot ∷ size_slot ∷ []
word_slots fs space = size_slot ∷ size_slot ∷ size_slot ∷ []
word_slots fs pen = penalty_slot ∷ []
word_slots fs endpar = []
word_slots fs end = []

-- the cause if a field is absent
abbrev pub missing_cause : LineWord → Cause
missing_cause header = causes.NoHeader
missing_cause _ = causes.MissingField
