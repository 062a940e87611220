-- What a firing is made of: moves, each with what is known where it is made. A law of firings says what each move does to it.
use Rattle.std.proofs.Common.{◌≡◌, Bool, true, false, List, [], ◌∷◌, ◌++◌, drop, Some}
use Rattle.std.specs.Prelude.{ℤ, if◌then◌else◌}
use Rattle.tb_scaled.specs.Glue.{filling_glue}
use Rattle.tb_node.specs.declared.Float.{Float}
use Rattle.tb_node.specs.declared.Margin.{Margin}
use Rattle.tb_node.specs.declared.Where.{Where}
use Rattle.tb_node.specs.declared.Where.TheVariants as places
use Rattle.tb_node.specs.PlainNodes.{PlainNode, made, blank_box, skip}
use Rattle.tb_param.specs.declared.Params.{Params}
use Rattle.tb_float.specs.declared.Entry.{Entry}
use Rattle.tb_float.specs.declared.Entry.TheVariants as entries
use Rattle.tb_float.specs.Lists.{with_floats_of, floats_of, wide_part, wide_waiting}
use Rattle.tb_float.specs.Rooms.{column_height_of}
use Rattle.tb_fpage.specs.Company.{Choice, company, chosen_floats, left_floats}
use Rattle.tb_area.specs.Area.{AreaPlace, where_of, current_place, next_area_place, goes_double}
use Rattle.tb_margin.specs.declared.Placed.{Placed}
use Rattle.tb_margin.specs.Margin.{placed_note}
use Rattle.tb_column.specs.Column.{PlainColumn, standing_notes, single_floats_column}
use Rattle.tb_sheet.specs.Sheet.{one, pair_sheet, warned}
use Rattle.tb_sheet.specs.declared.Warn.{Warn}
use Rattle.tb_output.specs.State.{Work, output, puts, sends, records_also, with_floats, footnotes}
use Rattle.tb_output.specs.FloatMoves
use Rattle.tb_output.specs.Pages
use Rattle.tb_output.specs.Columns
use Rattle.tb_output.specs.Text
use Rattle.tb_output.specs.Clear
use Rattle.tb_output.specs.Output

-- what a firing has in hand between two moves: nothing, the list of its page, a column, or a float or note that goes into the text
pub data Hand : Type 0 where
  nothing : Hand
  of_text : List PlainNode → Hand
  of_column : PlainColumn → Hand
  of_float : Float → Hand
  of_note : Margin → Placed → Hand

-- these areas are in a column
abbrev pub IsInColumn : Where → Type 0
IsInColumn places.Here = ⊥
IsInColumn places.Top = Unit {0}
IsInColumn places.Bottom = Unit {0}
IsInColumn places.Page = ⊥
IsInColumn places.Double = ⊥
IsInColumn places.Deferred = ⊥

-- the float as it is deferred: one that may go only into the text may go to the top from then on
abbrev pub deferred_float : Bool → Float → Float
deferred_float t f = if t then Text.with_top f else f

-- what is done once a column is in hand: it is put out, pages of wide floats follow, and the space above the next two columns is filled; and columns of floats are made
pub data ColumnMove (p : Params) : Hand → Work → Hand → Work → Type 0 where
  takes_company : (clearing : Bool) (cs : List Choice) (w : Work) → company (Columns.single_wanted p w.state.floats clearing) w.state.floats.deferred ≡ Some cs → ColumnMove p nothing w (of_column (single_floats_column p (column_height_of p w.state.floats) (chosen_floats cs))) (Pages.with_deferred (left_floats cs) w)
  records_column : (c : PlainColumn) (w : Work) → ColumnMove p (of_column c) w (of_column c) (records_also (output c) w)
  ships_column : (c : PlainColumn) (w : Work) → w.state.two_columns ≡ false → ColumnMove p (of_column c) w nothing (Pages.ship p (one c) w)
  keeps_left : (c : PlainColumn) (w : Work) → w.state.two_columns ≡ true → w.state.first_column ≡ true → ColumnMove p (of_column c) w nothing (Pages.keep_left c w)
  ships_pair : (c : PlainColumn) (w : Work) → w.state.two_columns ≡ true → w.state.first_column ≡ false → ColumnMove p (of_column c) w nothing (Pages.without_double (Pages.ship p (pair_sheet p w.state.floats (Pages.left_or c w.state.left_column) c) w))
  ends_column : (w : Work) → ColumnMove p nothing w nothing (Pages.after_column w)
  ships_wide : (clearing : Bool) (cs : List Choice) (w : Work) → company (Pages.wide_wanted p clearing) (wide_waiting p w.state.floats) ≡ Some cs → ColumnMove p nothing w nothing (Pages.ship_wide p cs w)
  places_double : (f : Float) (before rest : List Float) (w : Work) → w.state.two_columns ≡ true → floats_of (wide_part p) w.state.floats ≡ before ++ f ∷ rest → goes_double p w.state.floats w.state.suppress before f ≡ true → ColumnMove p nothing w nothing (FloatMoves.place_float p places.Double f (with_floats_of (wide_part p) (before ++ rest) w.state.floats) w)

-- what is done when the next column is filled
pub data FillMove (p : Params) : Hand → Work → Hand → Work → Type 0 where
  places_next : (a : AreaPlace) (f : Float) (before rest : List Float) (w : Work) → IsInColumn (where_of a) → w.state.floats.deferred ≡ before ++ f ∷ rest → next_area_place p w.state.floats w.state.suppress before f ≡ a → FillMove p nothing w nothing (FloatMoves.place_float p (where_of a) f (record w.state.floats { deferred = before ++ rest }) w)

-- what is done with a page at an ordinary break and at a clear: the above, the text is made a column, and floats wait again
pub data PageMove (p : Params) : Hand → Work → Hand → Work → Type 0 where
  by_column : {h i : Hand} {a b : Work} → ColumnMove p h a i b → PageMove p h a i b
  takes_text : (body : List PlainNode) (w : Work) → PageMove p (of_text body) w (of_column (Columns.text_of p w.state body)) (Columns.without_column_floats w)
  by_fill : {h i : Hand} {a b : Work} → FillMove p h a i b → PageMove p h a i b
  fills_text : (body : List PlainNode) (w : Work) → PageMove p (of_text body) w (of_text (body ++ made (skip filling_glue) ∷ [])) w
  drops_notes : (body : List PlainNode) (w : Work) → standing_notes (footnotes w.state) ≡ [] → PageMove p (of_text body) w (of_text body) (Clear.without_notes w)
  keeps_front : (body : List PlainNode) (w : Work) → PageMove p (of_text body) w nothing (puts (Clear.cleared_front p body) w)
  gathers : (w : Work) → PageMove p nothing w nothing (with_floats (Clear.deferred_again w.state.floats) w)
  gathers_wide : (w : Work) → w.state.two_columns ≡ true → w.state.first_column ≡ true → PageMove p nothing w nothing (with_floats (Clear.double_again p w.state.floats) w)
  leaves_second : (w : Work) → w.state.two_columns ≡ true → w.state.first_column ≡ false → PageMove p nothing w nothing (puts (made blank_box ∷ Clear.clear_again) w)
  clears_again : (w : Work) → PageMove p nothing w nothing (puts Clear.clear_again w)

-- what is done with a float or note in the text
pub data TextMove (p : Params) : Hand → Work → Hand → Work → Type 0 where
  goes_back : (body : List PlainNode) (w : Work) → TextMove p (of_text body) w nothing (Text.list_back p (w.state.held_page ++ Text.without_firing_box body) w)
  places_current : (place : Where) (f : Float) (es : List Entry) (page_height : ℤ) (w : Work) → IsInColumn place → w.state.floats.current ≡ entries.Float f ∷ es → current_place p w.state.floats w.state.suppress page_height f ≡ place → TextMove p nothing w nothing (FloatMoves.place_float p place f (record w.state.floats { current = es }) w)
  defers_current : (t : Bool) (f : Float) (es : List Entry) (w : Work) → w.state.floats.current ≡ entries.Float f ∷ es → Text.only_here f ≡ t → TextMove p nothing w nothing (FloatMoves.place_float p places.Deferred (deferred_float t f) (record w.state.floats { current = es }) w)
  takes_float : (f : Float) (es : List Entry) (w : Work) → w.state.floats.current ≡ entries.Float f ∷ es → TextMove p nothing w (of_float f) (FloatMoves.place_float p places.Here f (record w.state.floats { current = es }) w)
  stands_here : (vert : Bool) (f : Float) (w : Work) → TextMove p (of_float f) w nothing (puts (Text.here_nodes p vert f) w)
  takes_note : (height : ℤ) (m : Margin) (es : List Entry) (at : Placed) (w : Work) → w.state.floats.current ≡ entries.Left m ∷ es → at ≡ placed_note p w.state.number w.state.two_columns w.state.first_column height w.state.note_bottom m → TextMove p nothing w (of_note m at) (Text.with_note_bottom at.bottom (with_floats (record w.state.floats { current = drop 1 es }) w))
  stands_beside : (depth : ℤ) (m : Margin) (at : Placed) (w : Work) → TextMove p (of_note m at) w nothing (puts (Text.note_nodes depth m at) w)
  puts_penalty : (nobreak : Bool) (h : Hand) (w : Work) → TextMove p h w h (Text.puts_interline p nobreak w)
  warns : (h : Hand) (e : Warn) (w : Work) → TextMove p h w h (sends (warned e) w)

-- what is done at any break: the above, a page that is held, and the goal of the next page
pub data Move (p : Params) : Hand → Work → Hand → Work → Type 0 where
  by_page : {h i : Hand} {a b : Work} → PageMove p h a i b → Move p h a i b
  by_text : {h i : Hand} {a b : Work} → TextMove p h a i b → Move p h a i b
  holds_page : (body : List PlainNode) (w : Work) → Move p (of_text body) w nothing (Output.hold body w)
  leaves_blank : (two : Bool) (w : Work) → Move p nothing w nothing (puts (if two then Output.blank_column ++ Output.blank_column else Output.blank_column) w)
  sets_goal : (g : ℤ) (w : Work) → Move p nothing w nothing (Output.with_goal g w)

-- moves of a kind, one after another
pub data Moves (M : Hand → Work → Hand → Work → Type 0) : Hand → Work → Hand → Work → Type 0 where
  rests : {h : Hand} {w : Work} → Moves M h w h w
  moves : {h i : Hand} {a b : Work} → M h a i b → Moves M h a i b
  in_turn : {h i j : Hand} {a b c : Work} → Moves M h a i b → Moves M i b j c → Moves M h a j c

-- what each move keeps is kept
pub holds-on : {M : Hand → Work → Hand → Work → Type 0} (I : Hand → Work → Type 0) → ((h i : Hand) (a b : Work) → M h a i b → I h a → I i b) → {h i : Hand} {a b : Work} → Moves M h a i b → I h a → I i b
holds-on I each rests k = k
holds-on I each {h = h} {i = i} {a = a} {b = b} (moves m) k = each h i a b m k
holds-on I each (in_turn x y) k = holds-on I each y (holds-on I each x k)

-- what is so of each move is so of all, if it is so of none and of two in turn
pub goes-on : {M : Hand → Work → Hand → Work → Type 0} (R : Hand → Work → Hand → Work → Type 0) → ((h : Hand) (w : Work) → R h w h w) → ((h i j : Hand) (a b c : Work) → R h a i b → R i b j c → R h a j c) → ((h i : Hand) (a b : Work) → M h a i b → R h a i b) → {h i : Hand} {a b : Work} → Moves M h a i b → R h a i b
goes-on R same both each {h = h} {i = i} {a = a} {b = b} rests = same h a
goes-on R same both each {h = h} {i = i} {a = a} {b = b} (moves m) = each h i a b m
goes-on R same both each (in_turn {h = h} {i = i} {j = j} {a = a} {b = b} {c = c} x y) = both h i j a b c (goes-on R same both each x) (goes-on R same both each y)

-- moves of a kind are moves of a wider one
pub widen : {M N : Hand → Work → Hand → Work → Type 0} → ((h i : Hand) (a b : Work) → M h a i b → N h a i b) → {h i : Hand} {a b : Work} → Moves M h a i b → Moves N h a i b
widen wider rests = rests
widen wider {h = h} {i = i} {a = a} {b = b} (moves m) = moves (wider h i a b m)
widen wider (in_turn x y) = in_turn (widen wider x) (widen wider y)
