-- Reading the fields of a line from the left: a value and what is left, or the first field at fault.
use Rattle.std.specs.Prelude.{◌≡◌, ℕ, nat_le, ℤ, pos, negsuc, ◌+◌, Bool, true, false, not, ◌||◌, ◌&&◌, ◌==◌, List, [], ◌∷◌, Result, Ok, Err, bytes_eq, codes, Option, Some, None, nat_abs, if◌then◌else◌}
use Rattle.std.specs.List.{list_all}
use Rattle.tb_scaled.specs.declared.Order.{Order}
use Rattle.tb_scaled.specs.declared.Order.TheVariants.{Normal}
use Rattle.tb_scaled.specs.declared.Glue.{Glue}
use Rattle.tb_node.specs.declared.Places.{Places}
use Rattle.tb_text.specs.Lines.{fields_of}
use Rattle.tb_text.specs.Numbers.{integer_of, dimension_of, stretch_of, fraction_of_field}
use Rattle.tb_node.specs.declared.Area.{Area}
use Rattle.tb_node.specs.declared.Area.TheVariants as areas
use Rattle.tb_node.specs.declared.Float.{Float}
use Rattle.tb_node.specs.declared.Margin.{Margin}
use Rattle.tb_param.specs.declared.fields.Field.{Field}
use Rattle.tb_param.specs.declared.table.Form.{Form}
use Rattle.tb_param.specs.declared.table.Form.TheVariants as forms
use Rattle.tb_param.specs.declared.Value.{Value}
use Rattle.tb_param.specs.declared.Value.TheVariants as values
use Rattle.tb_param.specs.declared.Choice.TheVariants.{Flush, Ragged, On, Off, R2014, R2015, Keep, Drop, Above, Below}
use Rattle.tb_param.specs.declared.Rule.{Rule}
use Rattle.tb_param.specs.Table.{Row, row_for}
use Rattle.tb_galley.specs.declared.classes.ClassLine.{ClassLine}
use Rattle.tb_galley.specs.declared.contents.Content.{Content}
use Rattle.tb_galley.specs.declared.contents.Content.TheVariants as contents
use Rattle.tb_galley.specs.declared.ItemKind.TheVariants as items
use Rattle.tb_galley.specs.declared.LeafKind.TheVariants as leaves
use Rattle.tb_galley.specs.Words.{LineWord, header, setting, class_line, hbox, rule, skip, kern, penalty, mark, note, foot, endfoot, float, margin, newpage, clearpage, pagebreak, nopagebreak, onecolumn, twocolumn, suppressfloats, page_number, title, enlarge, end, Known, number_in, version_named}
use Rattle.tb_galley.specs.declared.Cause.{Cause}
use Rattle.tb_galley.specs.declared.Cause.TheVariants as causes
use Rattle.tb_galley.specs.declared.fields.At.{At}
use Rattle.tb_galley.specs.declared.fields.Fields.{Fields}
use Rattle.tb_galley.specs.Fields.{Slot, name_slot, dimension_slot, least_slot, range_slot, stretch_slot, fraction_slot, word_slot, places_slot, class_slot, slot_cause}
use Rattle.tb_galley.specs.Faults.{is_printable}
use Rattle.tb_galley.specs.Grammar.{glue_from, read_or, places_at, has_byte, head_float}

-- the fields that are left, the number of the first, and the cause if one is missing
pub record Left : Type 0 where
  pub number : ℕ
  pub missing : Cause
  pub fields : List (List ℕ)

-- what a cursor of the code has left
abbrev pub left_of : Fields → Left
left_of f = record { number = f.number; missing = f.missing; fields = fields_of f.rest.now }

infixl 10 ◌>>=◌
-- one reading after another; a fault ends it
abbrev pub ◌>>=◌ : {A B : Type 0} → Result A At → (A → Result B At) → Result B At
(Ok x) >>= f = f x
(Err e) >>= f = Err e

-- the code's reading gives what the reading of lists does
abbrev pub GivesBy : {X Y : Type 0} → (X → Y) → Result X At → Left → Result (Y × Left) At → Type 0
GivesBy view (Ok x) left read = read ≡ Ok (view x, left)
GivesBy view (Err e) left read = read ≡ Err e

-- the same of values that are shown as they are
abbrev pub Gives : {X : Type 0} → Result X At → Left → Result (X × Left) At → Type 0
Gives (Ok x) left read = read ≡ Ok (x, left)
Gives (Err e) left read = read ≡ Err e

-- a cause at this field
abbrev pub at_fault : {X : Type 0} → ℕ → Cause → Result X At
at_fault n c = Err (record { field = n; cause = c })

-- a field whose bytes are tested
abbrev pub printed : Bool → ℕ → List ℕ → Left → Result (List ℕ × Left) At
printed ok n f l = if ok then Ok (f, l) else at_fault n causes.NotAscii

-- the first of the fields, or the cause if there is none
abbrev pub next_by : Left → List (List ℕ) → Result (List ℕ × Left) At
next_by l [] = at_fault l.number l.missing
next_by l (f ∷ fs) = printed (list_all is_printable f) l.number f (record l { number = l.number + 1; fields = fs })

-- the next field
abbrev pub next_left : Left → Result (List ℕ × Left) At
next_left l = next_by l l.fields

-- a field too many, whose bytes are tested first
abbrev pub extra_by : Bool → ℕ → Result (Unit {0} × Left) At
extra_by ok n = if ok then at_fault n causes.ExtraField else at_fault n causes.NotAscii

-- a field that is left is one too many
abbrev pub end_by : Left → List (List ℕ) → Result (Unit {0} × Left) At
end_by l [] = Ok (tt, l)
end_by l (f ∷ fs) = extra_by (list_all is_printable f) l.number

-- no field is left
abbrev pub end_left : Left → Result (Unit {0} × Left) At
end_left l = end_by l l.fields

-- a value, unless there is a cause at its field
abbrev pub settled : {X : Type 0} → ℕ → Option Cause → X → Result X At
settled n None x = Ok x
settled n (Some c) x = at_fault n c

-- a field in its slot, and what it says
abbrev pub field_read : {X : Type 0} → Slot → (List ℕ → X) → Left → Result (X × Left) At
field_read s value l = next_left l >>= λ x. settled l.number (slot_cause s x.0) (value x.0, x.1)

-- a field as a dimension
abbrev pub dimension_in : List ℕ → ℤ
dimension_in f = read_or (pos 0) (dimension_of f)

-- a field as an integer
abbrev pub integer_in : List ℕ → ℤ
integer_in f = read_or (pos 0) (integer_of f)

-- a field as a stretch
abbrev pub stretch_in : List ℕ → ℤ × Order
stretch_in f = read_or (pos 0, Normal) (stretch_of f)

-- a field as a fraction
abbrev pub fraction_in : List ℕ → ℤ
fraction_in f = read_or (pos 0) (fraction_of_field f)

-- a name
unfoldable pub name_left : Left → Result (List ℕ × Left) At
name_left l = field_read name_slot (λ f. f) l

-- a dimension
unfoldable pub dimension_left : Left → Result (ℤ × Left) At
dimension_left l = field_read dimension_slot dimension_in l

-- a stretch
unfoldable pub stretch_left : Left → Result ((ℤ × Order) × Left) At
stretch_left l = field_read stretch_slot stretch_in l

-- a fraction
unfoldable pub fraction_left : Left → Result (ℤ × Left) At
fraction_left l = field_read fraction_slot fraction_in l

-- a dimension that is at least this
unfoldable pub least_left : ℤ → Cause → Left → Result (ℤ × Left) At
least_left low c l = field_read (least_slot low c) dimension_in l

-- an integer in this range
unfoldable pub range_left : ℤ → ℤ → Cause → Left → Result (ℤ × Left) At
range_left low high c l = field_read (range_slot low high c) integer_in l

-- one of two words: whether it is the second
unfoldable pub choice_left : List ℕ → List ℕ → Cause → Left → Result (Bool × Left) At
choice_left first second c l = field_read (word_slot (first ∷ second ∷ []) c) (λ f. bytes_eq f second) l

-- a word ends with the line or before a space
abbrev pub ends_word : List ℕ → Bool
ends_word [] = true
ends_word (b ∷ bs) = b == 32

-- this word
unfoldable pub word_left : List ℕ → Cause → Left → Result (Bool × Left) At
word_left text c l = field_read (word_slot (text ∷ []) c) (λ f. bytes_eq f text) l

-- the version of a galley
unfoldable pub version_left : Left → Result (ℕ × Left) At
version_left l = field_read (word_slot (codes "1" ∷ codes "2" ∷ codes "3" ∷ []) causes.NoHeader) version_named l

-- places, and whether `!` is among them
unfoldable pub places_left : Left → Result ((Places × Bool) × Left) At
places_left l = field_read places_slot (λ f. (places_at f, has_byte 33 f)) l

-- the next field is this word
abbrev pub next_is_by : List ℕ → List (List ℕ) → Bool
next_is_by text [] = false
next_is_by text (f ∷ fs) = bytes_eq f text

-- a stretch, if its word is next
abbrev pub plus_part : Left → Bool → Result ((ℤ × Order) × Left) At
plus_part l true = next_left l >>= λ x. stretch_left x.1
plus_part l false = Ok ((pos 0, Normal), l)

-- the stretch of glue; none if `plus` is not next
unfoldable pub stretch_part : Left → Result ((ℤ × Order) × Left) At
stretch_part l = plus_part l (next_is_by (codes "plus") l.fields)

-- no field is left
abbrev pub is_end : List (List ℕ) → Bool
is_end [] = true
is_end (f ∷ fs) = false

-- a shrink, if its word is next; another word is a fault
abbrev pub minus_next : Cause → Left → Bool → Result (ℤ × Left) At
minus_next c l true = next_left l >>= λ x. dimension_left x.1
minus_next c l false = next_left l >>= λ x. at_fault l.number c

-- no shrink if the line ends
abbrev pub minus_part : Cause → Left → Bool → Result (ℤ × Left) At
minus_part c l true = Ok (pos 0, l)
minus_part c l false = minus_next c l (next_is_by (codes "minus") l.fields)

-- the shrink of glue; none if the line ends
unfoldable pub shrink_part : Cause → Left → Result (ℤ × Left) At
shrink_part c l = minus_part c l (is_end l.fields)

-- glue: a width, a stretch and a shrink
unfoldable pub glue_left : Cause → Left → Result (Glue × Left) At
glue_left c l = do
  w ← dimension_left l
  s ← stretch_part w.1
  z ← shrink_part c s.1
  Ok (glue_from w.0 s.0 z.0, z.1)

-- the amounts of a box: its name, height and depth
unfoldable pub sized_left : Left → Result ((List ℕ × ℤ × ℤ) × Left) At
sized_left l = do
  n ← name_left l
  h ← least_left (pos 0) causes.Dimension n.1
  d ← least_left (pos 0) causes.Dimension h.1
  Ok ((n.0, h.0, d.0), d.1)

-- nothing more is on the line
abbrev pub finished : {X : Type 0} → Result (X × Left) At → Result X At
finished r = do
  x ← r
  _ ← end_left x.1
  Ok x.0

-- what is read, as something else
abbrev pub mapped : {X Y : Type 0} → (X → Y) → Result (X × Left) At → Result (Y × Left) At
mapped f (Ok x) = Ok (f x.0, x.1)
mapped f (Err e) = Err e

-- no `nobreak` if it may not be there or the line ends
abbrev pub nobreak_by : Left → Bool → Result (Bool × Left) At
nobreak_by l true = Ok (false, l)
nobreak_by l false = word_left (codes "nobreak") causes.UnknownWord l

-- whether `nobreak` is there, which may be from version 3 on
unfoldable pub nobreak_left : ℕ → Left → Result (Bool × Left) At
nobreak_left version l = nobreak_by l (not (version == 3) || is_end l.fields)

-- a float in a galley of this version, and whether it is between paragraphs
unfoldable pub float_left : ℕ → ℕ → Left → Result ((Float × Bool) × Left) At
float_left version line l = do
  n ← name_left l
  c ← range_left (pos 1) (pos 26) causes.Class n.1
  w ← choice_left (codes "single") (codes "double") causes.UnknownWord c.1
  p ← places_left w.1
  h ← least_left (pos 0) causes.Dimension p.1
  v ← choice_left (codes "par") (codes "vert") causes.UnknownWord h.1
  b ← nobreak_left version v.1
  Ok ((record { line = line; name = n.0; class = nat_abs c.0; wide = w.0; places = p.0.0; bang = p.0.1; height = h.0; deep = w.0 && (version == 3); nobreak = b.0 }, v.0), b.1)

-- a marginal note in a galley of this version, and whether it is between paragraphs
unfoldable pub margin_left : ℕ → ℕ → Left → Result ((Margin × Bool) × Left) At
margin_left version line l = do
  s ← sized_left l
  h ← least_left (pos 0) causes.Dimension s.1
  d ← least_left (pos 0) causes.Dimension h.1
  v ← choice_left (codes "par") (codes "vert") causes.UnknownWord d.1
  b ← nobreak_left version v.1
  Ok ((record { line = line; name = s.0.0; left_height = s.0.1; left_depth = s.0.2; right_height = h.0; right_depth = d.0; nobreak = b.0 }, v.0), b.1)

-- a title over both columns: its name and its height
unfoldable pub head_left : ℕ → Left → Result (Float × Left) At
head_left line l = do
  n ← name_left l
  h ← least_left (pos 0) causes.Dimension n.1
  Ok (head_float line n.0 h.0, h.1)

-- no `star` if the line ends
abbrev pub star_by : Left → Bool → Result (Bool × Left) At
star_by l true = Ok (false, l)
star_by l false = word_left (codes "star") causes.UnknownWord l

-- whether `star` is there
unfoldable pub star_left : Left → Result (Bool × Left) At
star_left l = star_by l (is_end l.fields)

-- by how much a page is made higher, and whether its contents are to be shrunk
unfoldable pub enlarge_left : Left → Result ((ℤ × Bool) × Left) At
enlarge_left l = do
  w ← dimension_left l
  s ← star_left w.1
  Ok ((w.0, s.0), s.1)

-- all areas if the line ends, else the area that is named
abbrev pub area_by : Left → Bool → Result (Area × Left) At
area_by l true = Ok (areas.All, l)
area_by l false = mapped (λ b. if b then areas.Bottom else areas.Top) (choice_left (codes "t") (codes "b") causes.UnknownWord l)

-- the area that is suppressed
unfoldable pub area_left : Left → Result (Area × Left) At
area_left l = area_by l (is_end l.fields)

-- a rule that is drawn: a kern, a height and a kern
unfoldable pub drawn_left : Left → Result (Option Rule × Left) At
drawn_left l = do
  a ← dimension_left l
  h ← least_left (pos 0) causes.Parameter a.1
  b ← dimension_left h.1
  Ok (Some (record { above = a.0; height = h.0; below = b.0 }), b.1)

-- no rule, if its word is next
abbrev pub rule_by : Left → Bool → Result (Option Rule × Left) At
rule_by l true = next_left l >>= λ x. Ok (None, x.1)
rule_by l false = drawn_left l

-- a rule: `none`, or one that is drawn
unfoldable pub rule_left : Left → Result (Option Rule × Left) At
rule_left l = rule_by l (next_is_by (codes "none") l.fields)

-- the value of a parameter by its form
unfoldable pub value_left : Form → Left → Result (Value × Left) At
value_left (forms.Int low high) l = mapped (λ n. values.Int n) (range_left low high causes.Parameter l)
value_left (forms.Dim low) l = mapped (λ n. values.Dim n) (least_left low causes.Parameter l)
value_left forms.Frac l = mapped (λ n. values.Frac n) (fraction_left l)
value_left forms.Skip l = mapped (λ g. values.Skip g) (glue_left causes.WrongForm l)
value_left forms.Bottom l = mapped (λ b. values.Word (if b then Flush else Ragged)) (choice_left (codes "ragged") (codes "flush") causes.WrongForm l)
value_left forms.Switch l = mapped (λ b. values.Word (if b then On else Off)) (choice_left (codes "off") (codes "on") causes.WrongForm l)
value_left forms.Release l = mapped (λ b. values.Word (if b then R2015 else R2014)) (choice_left (codes "2014") (codes "2015") causes.WrongForm l)
value_left forms.Rule l = mapped (λ r. values.Rule r) (rule_left l)
value_left forms.FootDepth l = mapped (λ b. values.Word (if b then Drop else Keep)) (choice_left (codes "keep") (codes "drop") causes.WrongForm l)
value_left forms.FootPlace l = mapped (λ b. values.Word (if b then Below else Above)) (choice_left (codes "above") (codes "below") causes.WrongForm l)

-- the rule after `below`, from version 3 on; before, the word is no number
abbrev pub below_known : Left → Bool → Result (Option (Option Rule) × Left) At
below_known l true = next_left l >>= λ x. mapped (λ r. Some r) (rule_left x.1)
below_known l false = next_left l >>= λ x. at_fault l.number causes.BadNumber

-- nothing, if `below` is not next
abbrev pub below_by : ℕ → Left → Bool → Result (Option (Option Rule) × Left) At
below_by version l true = below_known l (nat_le 3 version)
below_by version l false = Ok (None, l)

-- whether a class stands below footnotes, and with which rule
unfoldable pub below_left : ℕ → Left → Result (Option (Option Rule) × Left) At
below_left version l = below_by version l (next_is_by (codes "below") l.fields)

-- a class: its number, factor and limit, whether it stands below footnotes, and its glue
unfoldable pub class_left : ℕ → ℕ → Left → Result (ClassLine × Left) At
class_left version line l = do
  n ← range_left (pos 0) (pos 253) causes.Class l
  f ← range_left (pos 0) (pos 10000) causes.Parameter n.1
  m ← least_left (pos 0) causes.Dimension f.1
  b ← below_left version m.1
  g ← glue_left causes.UnknownWord b.1
  Ok (record { line = line; number = nat_abs n.0; factor = f.0; limit = m.0; below = b.0; skip = g.0 }, g.1)

-- the class that a footnote names, if one may be named and the line has not ended
abbrev pub named_class : List ℕ → Left → Bool → Result (ℕ × Left) At
named_class ks l true = Ok (254, l)
named_class ks l false = field_read (class_slot ks) number_in l

-- the class of a footnote: 254 if none is named
unfoldable pub foot_left : Known → Left → Result (ℕ × Left) At
foot_left k l = named_class k.classes l ((k.version == 1) || is_end l.fields)

-- which parameter a row has, and its form
abbrev pub parameter_by : ℕ → Left → Option Row → Result ((Field × Form) × Left) At
parameter_by n l None = at_fault n causes.UnknownParameter
parameter_by n l (Some r) = Ok ((r.field, r.form), l)

-- a parameter of this version by its name
unfoldable pub parameter_left : ℕ → Left → Result ((Field × Form) × Left) At
parameter_left version l = do
  x ← next_left l
  parameter_by l.number x.1 (row_for version x.0)

-- the value of the parameter of a row
abbrev pub set_by : ℕ → Left → Option Row → Result (Content × Left) At
set_by n l None = at_fault n causes.UnknownParameter
set_by n l (Some r) = mapped (λ v. contents.Set r.field v) (value_left r.form l)

-- a parameter of this version and its value
unfoldable pub set_left : ℕ → Left → Result (Content × Left) At
set_left version l = do
  x ← next_left l
  set_by l.number x.1 (row_for version x.0)

-- what a line of this number says, by its word and by what is known before it
unfoldable pub content_left : Known → ℕ → LineWord → Left → Result (Content × Left) At
content_left k n header l = mapped (λ v. contents.Header v) (version_left l)
content_left k n setting l = set_left k.version l
content_left k n class_line l = mapped (λ c. contents.Class c) (class_left k.version n l)
content_left k n hbox l = mapped (λ s. contents.Plain (leaves.Hbox s.0 s.1 s.2)) (sized_left l)
content_left k n rule l = mapped (λ s. contents.Plain (leaves.Rule s.0 s.1 s.2)) (sized_left l)
content_left k n skip l = mapped (λ g. contents.Plain (leaves.Skip g)) (glue_left causes.UnknownWord l)
content_left k n kern l = mapped (λ w. contents.Plain (leaves.Kern w)) (dimension_left l)
content_left k n penalty l = mapped (λ p. contents.Plain (leaves.Penalty p)) (range_left (negsuc 9999) (pos 10000) causes.Penalty l)
content_left k n mark l = mapped (λ m. contents.Item (items.Mark m)) (name_left l)
content_left k n note l = mapped (λ m. contents.Item (items.Note m)) (name_left l)
content_left k n foot l = mapped (λ c. contents.Foot c) (foot_left k l)
content_left k n endfoot l = Ok (contents.Endfoot, l)
content_left k n float l = mapped (λ f. contents.Item (items.Float f.0 f.1)) (float_left k.version n l)
content_left k n margin l = mapped (λ m. contents.Item (items.Margin m.0 m.1)) (margin_left k.version n l)
content_left k n newpage l = Ok (contents.Item items.NewPage, l)
content_left k n clearpage l = Ok (contents.Item items.ClearPage, l)
content_left k n pagebreak l = mapped (λ k. contents.Item (items.PageBreak (nat_abs k))) (range_left (pos 0) (pos 4) causes.Penalty l)
content_left k n nopagebreak l = mapped (λ k. contents.Item (items.NoPageBreak (nat_abs k))) (range_left (pos 0) (pos 4) causes.Penalty l)
content_left k n onecolumn l = Ok (contents.Item items.OneColumn, l)
content_left k n twocolumn l = Ok (contents.Item items.TwoColumn, l)
content_left k n suppressfloats l = mapped (λ a. contents.Item (items.Suppress a)) (area_left l)
content_left k n page_number l = mapped (λ k. contents.Item (items.Page (nat_abs k))) (range_left (pos 0) (pos 1000000) causes.Parameter l)
content_left k n title l = mapped (λ f. contents.Item (items.Head f)) (head_left n l)
content_left k n enlarge l = mapped (λ e. contents.Item (items.Enlarge e.0 e.1)) (enlarge_left l)
content_left k n end l = Ok (contents.End, l)
