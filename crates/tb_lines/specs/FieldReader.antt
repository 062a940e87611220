-- Reading the fields of a line of paragraphs from the left: a value and what is left, or the first field at fault.
use Rattle.std.specs.Prelude.{ℕ, ℤ, pos, negsuc, nat_abs, List, Result, Ok, Option, Some, None}
use Rattle.tb_galley.specs.declared.Cause.{Cause}
use Rattle.tb_galley.specs.declared.Cause.TheVariants as causes
use Rattle.tb_galley.specs.declared.fields.At.{At}
use Rattle.tb_galley.specs.FieldReader.{Left, ◌>>=◌, at_fault, next_left, field_read, least_left, range_left, mapped}
use Rattle.tb_lines.specs.declared.text.Item.{Item}
use Rattle.tb_lines.specs.declared.text.Item.TheVariants as items
use Rattle.tb_lines.specs.Words.{LineWord, header, setting, par, word, space, pen, endpar, end}
use Rattle.tb_lines.specs.declared.words.Form.TheVariants as forms
use Rattle.tb_lines.specs.Fields.{Parameter, Form, form_of, parameter_of, name_slot, header_slot}
use Rattle.tb_lines.specs.declared.contents.Content.TheVariants as contents
use Rattle.tb_lines.specs.Grammar.{Content}

-- the name of a paragraph
unfoldable pub name_left : Left → Result (List ℕ × Left) At
name_left l = field_read name_slot (λ f. f) l

-- a dimension that is at least this, which is at least 0
unfoldable pub size_left : ℤ → Cause → Left → Result (ℕ × Left) At
size_left low c l = mapped nat_abs (least_left low c l)

-- the number of the header
unfoldable pub header_left : Left → Result (Unit {0} × Left) At
header_left l = field_read header_slot (λ f. tt) l

-- the value of a parameter by its form
unfoldable pub value_left : Form → Left → Result (ℕ × Left) At
value_left (forms.Dimension low) l = size_left low causes.Parameter l
value_left (forms.Integer high) l = mapped nat_abs (range_left (pos 0) high causes.Parameter l)

-- the value of a parameter, if there is one of its name
abbrev pub set_by : ℕ → Left → Option Parameter → Result (Content × Left) At
set_by n l None = at_fault n causes.UnknownParameter
set_by n l (Some p) = mapped (λ v. contents.Set p v) (value_left (form_of p) l)

-- a parameter and its value
unfoldable pub set_left : Left → Result (Content × Left) At
set_left l = do
  x ← next_left l
  set_by l.number x.1 (parameter_of x.0)

-- three dimensions
abbrev pub sizes_left : Left → Result ((ℕ × ℕ × ℕ) × Left) At
sizes_left l = do
  a ← size_left (pos 0) causes.Dimension l
  b ← size_left (pos 0) causes.Dimension a.1
  c ← size_left (pos 0) causes.Dimension b.1
  Ok ((a.0, b.0, c.0), c.1)

-- a word: its width, height and depth
unfoldable pub word_left : Left → Result (Item × Left) At
word_left l = mapped (λ s. items.Word s.0 s.1 s.2) (sizes_left l)

-- a space: its width, stretch and shrink
unfoldable pub space_left : Left → Result (Item × Left) At
space_left l = mapped (λ s. items.Space s.0 s.1 s.2) (sizes_left l)

-- a penalty
unfoldable pub pen_left : Left → Result (Item × Left) At
pen_left l = mapped (λ p. items.Penalty p) (range_left (negsuc 9999) (pos 10000) causes.Penalty l)

-- what a line says, by its word
unfoldable pub content_left : LineWord → Left → Result (Content × Left) At
content_left header l = mapped (λ x. contents.Header) (header_left l)
content_left setting l = set_left l
content_left par l = mapped (λ n. contents.Par n) (name_left l)
content_left word l = mapped (λ i. contents.Item i) (word_left l)
content_left space l = mapped (λ i. contents.Item i) (space_left l)
content_left pen l = mapped (λ i. contents.Item i) (pen_left l)
content_left endpar l = Ok (contents.Endpar, l)
content_left end l = Ok (contents.End, l)
