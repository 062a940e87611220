-- The text that an input spells, or its first fault.
use Rattle.std.specs.Prelude.{◌≡◌, ℕ, nat_abs, Bool, true, false, nat_lt, List, [], ◌∷◌, ◌++◌, length, Option, Some, None, Result, Ok, Err, if◌then◌else◌}
use Rattle.std.specs.List.{fold}
use Rattle.tb_text.specs.Lines.{lines_of}
use Rattle.tb_lines.specs.declared.text.Item.{Item}
use Rattle.tb_lines.specs.declared.text.Item.TheVariants as items
use Rattle.tb_lines.specs.declared.text.LineParams.{LineParams}
use Rattle.tb_lines.specs.declared.text.Paragraph.{Paragraph}
use Rattle.tb_lines.specs.declared.text.Text.{Text}
pub use Rattle.tb_lines.specs.declared.draft.Draft.{Draft}
pub use Rattle.tb_lines.specs.declared.contents.Content.{Content}
use Rattle.tb_lines.specs.declared.contents.Content.TheVariants as contents
use Rattle.tb_galley.specs.declared.Cause.TheVariants.{InputSize}
use Rattle.tb_galley.specs.declared.Fault.{Fault}
use Rattle.tb_galley.specs.Faults.{fault, first_fault}
use Rattle.tb_galley.specs.Grammar.{field_at}
use Rattle.tb_galley.specs.FieldReader.{dimension_in, integer_in}
use Rattle.tb_lines.specs.Words.{LineWord, header, setting, par, word, space, pen, endpar, end, Line, content_at, is_full}
use Rattle.tb_lines.specs.declared.words.Parameter.TheVariants as parameters
use Rattle.tb_lines.specs.declared.words.Form.TheVariants as forms
use Rattle.tb_lines.specs.Fields.{Parameter, Form, form_of, parameter_of}
use Rattle.tb_lines.specs.Faults.{faults}

-- ---- values of fields; a field that is absent or at fault is read as nothing

-- a field as a dimension of at least 0
abbrev pub size_in : List ℕ → ℕ
size_in f = nat_abs (dimension_in f)

-- a field as the value of a parameter
abbrev pub value_in : Form → List ℕ → ℕ
value_in (forms.Dimension low) f = size_in f
value_in (forms.Integer high) f = nat_abs (integer_in f)

-- ---- what a line says

-- a word of this width, height and depth
abbrev pub word_item : List ℕ → List ℕ → List ℕ → Item
word_item w h d = items.Word (size_in w) (size_in h) (size_in d)

-- a space of this width, stretch and shrink
abbrev pub space_item : List ℕ → List ℕ → List ℕ → Item
space_item w st sh = items.Space (size_in w) (size_in st) (size_in sh)

-- a `set` line, by its parameter; one of an unknown parameter is at fault, and counts as an end
abbrev pub set_content : List (List ℕ) → Option Parameter → Content
set_content fs None = contents.End
set_content fs (Some p) = contents.Set p (value_in (form_of p) (field_at fs 1))

-- the content of a line whose word has these fields after it
abbrev pub content_of : List (List ℕ) → LineWord → Content
content_of fs header = contents.Header
content_of fs setting = set_content fs (parameter_of (field_at fs 0))
content_of fs par = contents.Par (field_at fs 0)
content_of fs word = contents.Item (word_item (field_at fs 0) (field_at fs 1) (field_at fs 2))
content_of fs space = contents.Item (space_item (field_at fs 0) (field_at fs 1) (field_at fs 2))
content_of fs pen = contents.Item (items.Penalty (integer_in (field_at fs 0)))
content_of fs endpar = contents.Endpar
content_of fs end = contents.End

-- the content is an item
abbrev pub holds_item : Content → Bool
holds_item (contents.Item i) = true
holds_item _ = false

-- ---- the text, line by line

-- with the value of a parameter
abbrev pub with_value : LineParams → Parameter → ℕ → LineParams
with_value ps parameters.Hsize n = record ps { hsize = n }
with_value ps parameters.Tolerance n = record ps { tolerance = n }
with_value ps parameters.LinePenalty n = record ps { line_penalty = n }
with_value ps parameters.ClubPenalty n = record ps { club_penalty = n }
with_value ps parameters.WidowPenalty n = record ps { widow_penalty = n }
with_value ps parameters.BaselineSkip n = record ps { baseline_skip = n }
with_value ps parameters.LineSkip n = record ps { line_skip = n }
with_value ps parameters.ParSkip n = record ps { par_skip = n }

-- the parameters before the first `set`: 345pt, 200, 10, 150, 150, 12pt, 1pt and 0pt
abbrev pub default_params : LineParams
default_params = record { hsize = 22609920; tolerance = 200; line_penalty = 10; club_penalty = 150; widow_penalty = 150; baseline_skip = 786432; line_skip = 65536; par_skip = 0 }

-- with one more item of the open paragraph
abbrev pub with_item : Draft → Item → Option Paragraph → Draft
with_item d i None = d
with_item d i (Some p) = record d { current = Some (record p { items = p.items ++ i ∷ [] }) }

-- the open paragraph is closed
abbrev pub with_closed : Draft → Option Paragraph → Draft
with_closed d None = d
with_closed d (Some p) = record d { paragraphs = d.paragraphs ++ p ∷ []; current = None }

-- with the content of a line
abbrev pub with_content : Draft → Content → Draft
with_content d contents.Header = d
with_content d (contents.Set p n) = record d { params = with_value d.params p n }
with_content d (contents.Par name) = record d { current = Some (record { name = name; items = [] }) }
with_content d (contents.Item i) = with_item d i d.current
with_content d contents.Endpar = with_closed d d.current
with_content d contents.End = d

-- with a line whose word is known
abbrev pub with_word : Draft → Line → Option LineWord → Draft
with_word d l None = d
with_word d l (Some w) = with_content d (content_of l.fields w)

-- with one more content line
abbrev pub with_line : Draft → Line → Draft
with_line d l = with_word d l l.word

-- before the first line
abbrev pub empty_draft : Draft
empty_draft = record { params = default_params; paragraphs = []; current = None }

-- the number of items of the open paragraph
abbrev pub inside_in : Option Paragraph → Option ℕ
inside_in None = None
inside_in (Some p) = Some (length p.items)

-- an item is added to no paragraph of 5000
abbrev pub HasRoom : Option ℕ → Content → Type 0
HasRoom inside k = holds_item k ≡ true → is_full inside ≡ false

-- the content lines among these lines
abbrev pub content_from : List (List ℕ) → List Line
content_from [] = []
content_from (bytes ∷ lines) = content_at bytes ++ content_from lines

-- the text at the end
abbrev pub text_of : Draft → Text
text_of d = record { params = d.params; paragraphs = d.paragraphs }

-- a fault goes before a text
abbrev pub text_unless : Draft → Option Fault → Result Text Fault
text_unless d (Some f) = Err f
text_unless d None = Ok (text_of d)

-- the text of these lines, or their first fault
abbrev pub spelled_text : List (List ℕ) → Result Text Fault
spelled_text lines = text_unless (fold with_line empty_draft (content_from lines)) (first_fault (faults lines))

-- the text of an input, or its first fault
unfoldable pub reading : List ℕ → Result Text Fault
reading bytes =
    let answer = spelled_text (lines_of bytes) in
    if nat_lt 8388608 (length bytes) then Err (fault 0 0 InputSize) else answer
