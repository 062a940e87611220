-- What is told at a firing, along its steps: each tale is one of the state before what it tells of.
use Rattle.std.specs.Prelude.{ℕ, zero, suc, ℤ, pos, ◌+ℤ◌, ◌-ℤ◌, Bool, true, false, not, ◌&&◌, List, [], ◌∷◌, ◌++◌, length, map, Option, Some, None, int_le, int_lt, if◌then◌else◌}
use Rattle.tb_scaled.specs.Scaled.{eject_penalty}
use Rattle.tb_scaled.specs.Glue.{filling_glue}
use Rattle.tb_node.specs.declared.Float.{Float}
use Rattle.tb_node.specs.declared.Margin.{Margin}
use Rattle.tb_node.specs.declared.Where.TheVariants as places
use Rattle.tb_node.specs.PlainNodes.{PlainNode, node_shape, skip, made}
use Rattle.tb_node.specs.Sums.{size_of, last_depth}
use Rattle.tb_param.specs.declared.Params.{Params}
use Rattle.tb_builder.specs.FiredPages.{Fired}
use Rattle.tb_float.specs.declared.Entry.{Entry}
use Rattle.tb_float.specs.declared.Entry.TheVariants as entries
use Rattle.tb_float.specs.declared.Part.{Part}
use Rattle.tb_float.specs.declared.Part.TheVariants as parts
use Rattle.tb_float.specs.Lists.{wide_part, wide_waiting}
use Rattle.tb_area.specs.Area.{next_place, double_place}
use Rattle.tb_told.specs.AreaTold.{told_call, told_next, told_wide}
use Rattle.tb_fpage.specs.Company.{Choice, company, chosen_floats, left_floats}
use Rattle.tb_margin.specs.Margin.{placed_note}
use Rattle.tb_column.specs.Column.{PlainColumn, Notes, standing_notes, single_floats_column}
use Rattle.tb_sheet.specs.Sheet.{pair_sheet, PlainSent}
use Rattle.tb_output.specs.State.{State, Work, begun, footnotes, puts, records_also, output, with_floats}
use Rattle.tb_output.specs.FloatMoves.{still_deferred, place_waiting}
use Rattle.tb_output.specs.Pages.{ship, wide_wanted, ship_wide, all_wide_pages, left_or, without_double, with_deferred}
use Rattle.tb_output.specs.Columns.{text_of, put_out_text, put_out_company, single_wanted, all_float_columns, without_column_floats}
use Rattle.tb_output.specs.Clear.{without_notes, cleared_front, deferred_again, double_again}
use Rattle.tb_output.specs.Text.{without_firing_box, notes_height, list_back}
use Rattle.tb_sheet.specs.Asked.{clear_penalty, par_penalty, vert_penalty}
use Rattle.tb_output.specs.Output.{is_int, after_page}
use Rattle.tb_float.specs.Rooms.{column_height_of}
use Rattle.tb_told.specs.declared.Spot.{Spot}
use Rattle.tb_told.specs.declared.Tale.{Tale}
use Rattle.tb_told.specs.declared.Tale.TheVariants.{Calls, Beside, PutOut}
use Rattle.tb_told.specs.declared.Piece.{Piece}
use Rattle.tb_told.specs.declared.Piece.TheVariants.{Says, NextSent}
use Rattle.tb_told.specs.Tales.{tales, decisions, column_tales, back_tales, stands_tales}

-- where a state stands
abbrev pub spot_of : State → Spot
spot_of s = record { page = s.number; second = s.two_columns && not s.first_column }

-- nothing is told once the page limit was met
abbrev pub unless_over : Work → List Piece → List Piece
unless_over w ps = if w.refused then [] else ps

-- ---- pages

-- a page is shipped, unless the page limit is met
abbrev pub ship_pieces : Params → Work → List Piece
ship_pieces p w = unless_over w (if int_lt p.maxpages (pos w.state.page) then [] else NextSent ∷ [])

-- wide pages, by their company
abbrev pub wide_pieces_by : (Work → List Piece) → Params → Work → Option (List Choice) → List Piece
wide_pieces_by again p w None = []
wide_pieces_by again p w (Some cs) =
    unless_over w (Says PutOut ∷ []) ++ (ship_pieces p w ++ again (ship_wide p cs w))

-- wide pages while there is a company
abbrev pub wide_pieces : Params → Bool → ℕ → Work → List Piece
wide_pieces p clearing zero w = []
wide_pieces p clearing (suc n) w =
    unless_over w (tales (column_tales (spot_of w.state) (wide_wanted p clearing) (wide_waiting p w.state.floats)))
    ++ wide_pieces_by (λ w'. wide_pieces p clearing n w') p w (company (wide_wanted p clearing) (wide_waiting p w.state.floats))

abbrev pub all_wide_pieces : Params → Bool → Work → List Piece
all_wide_pieces p clearing w = wide_pieces p clearing (length (wide_waiting p w.state.floats)) w

-- each wide float that waits is tried for the top of the next two columns
abbrev pub double_pieces : Part → Params → List Float → List Float → Work → List Piece
double_pieces from p before [] w = []
double_pieces from p before (f ∷ rest) w =
    let place = double_place p w.state.floats w.state.suppress before f in
    unless_over w (tales (decisions f (told_wide p w.state.floats w.state.suppress before f)))
    ++ double_pieces from p (still_deferred place f before) rest (place_waiting from p place f before rest w)

abbrev pub fill_double_pieces : Params → Work → List Piece
fill_double_pieces p w = double_pieces (wide_part p) p [] (wide_waiting p w.state.floats) w

-- after the page of two columns: wide pages, and the space above the next two columns
abbrev pub after_pair : Params → Work → List Piece
after_pair p w = all_wide_pieces p false w ++ fill_double_pieces p (all_wide_pages p false w)

abbrev pub pair_pieces : Params → PlainColumn → Work → List Piece
pair_pieces p c w = ship_pieces p w ++ after_pair p (without_double (ship p (pair_sheet p w.state.floats (left_or c w.state.left_column) c) w))

-- a column is put out: as a page, as the first of two, of which nothing is told, or as the second
abbrev pub put_out_pieces_by : Params → PlainColumn → Work → List Piece
put_out_pieces_by p c w =
    if not w.state.two_columns then ship_pieces p w else (if w.state.first_column then [] else pair_pieces p c w)

abbrev pub put_out_pieces : Params → PlainColumn → Work → List Piece
put_out_pieces p c w = unless_over w (Says PutOut ∷ []) ++ put_out_pieces_by p c (records_also (output c) w)

-- ---- columns

-- a text column with this body is put out
abbrev pub text_pieces : Params → List PlainNode → Work → List Piece
text_pieces p body w =
    unless_over w (tales (stands_tales body))
    ++ put_out_pieces p (text_of p w.state body) (without_column_floats w)

-- a column of the company is put out
abbrev pub company_pieces : Params → List Choice → Work → List Piece
company_pieces p cs w = put_out_pieces p (single_floats_column p (column_height_of p w.state.floats) (chosen_floats cs)) (with_deferred (left_floats cs) w)

-- columns of floats, by their company
abbrev pub float_pieces_by : (Work → List Piece) → Params → Work → Option (List Choice) → List Piece
float_pieces_by again p w None = []
float_pieces_by again p w (Some cs) = company_pieces p cs w ++ again (put_out_company p cs w)

-- columns of floats while there is a company
abbrev pub float_pieces : Params → Bool → ℕ → Work → List Piece
float_pieces p clearing zero w = []
float_pieces p clearing (suc n) w =
    unless_over w (tales (column_tales (spot_of w.state) (single_wanted p w.state.floats clearing) w.state.floats.deferred))
    ++ float_pieces_by (λ w'. float_pieces p clearing n w') p w (company (single_wanted p w.state.floats clearing) w.state.floats.deferred)

abbrev pub all_float_pieces : Params → Bool → Work → List Piece
all_float_pieces p clearing w = float_pieces p clearing (length w.state.floats.deferred) w

-- each float that waits is tried for the next column
abbrev pub next_pieces : Params → List Float → List Float → Work → List Piece
next_pieces p before [] w = []
next_pieces p before (f ∷ rest) w =
    let place = next_place p w.state.floats w.state.suppress before f in
    unless_over w (tales (decisions f (told_next p w.state.floats w.state.suppress before f)))
    ++ next_pieces p (still_deferred place f before) rest (place_waiting parts.Deferred p place f before rest w)

abbrev pub fill_pieces : Params → Work → List Piece
fill_pieces p w = next_pieces p [] w.state.floats.deferred w

-- columns of floats, and the floats of the next text column
abbrev pub start_pieces : Params → Work → List Piece
start_pieces p w = all_float_pieces p false w ++ fill_pieces p (all_float_columns p false w)

-- an ordinary firing
abbrev pub ordinary_pieces : Params → List PlainNode → Work → List Piece
ordinary_pieces p body w = text_pieces p body w ++ start_pieces p (put_out_text p body w)

-- ---- a clear

-- in two columns, before a first column: the floats above both columns are taken back, and wide pages are looked for
abbrev pub clear_wide_pieces : Params → Work → List Piece
clear_wide_pieces p w =
    if not w.state.two_columns then []
    else (if w.state.first_column
    then unless_over w (tales (back_tales places.Double w.state.floats.double)) ++ all_wide_pieces p true (with_floats (double_again p w.state.floats) w)
    else [])

-- columns of floats, and then wide pages
abbrev pub clear_columns_pieces : Params → Work → List Piece
clear_columns_pieces p w = all_float_pieces p true w ++ clear_wide_pieces p (all_float_columns p true w)

-- the floats of the areas are taken back
abbrev pub clear_floats_pieces : Params → List PlainNode → Work → List Piece
clear_floats_pieces p body w =
    unless_over w (tales (back_tales places.Top w.state.floats.top ++ back_tales places.Bottom w.state.floats.bottom))
    ++ clear_columns_pieces p (with_floats (deferred_again w.state.floats) (puts (cleared_front p body) w))

-- a page with insertions is put out first
abbrev pub clear_pieces_by : Params → List PlainNode → Work → List Notes → List Piece
clear_pieces_by p body w [] = clear_floats_pieces p body (without_notes w)
clear_pieces_by p body w (n ∷ ns) = text_pieces p (body ++ made (skip filling_glue) ∷ []) w

abbrev pub clear_pieces : Params → List PlainNode → Work → List Piece
clear_pieces p body w = clear_pieces_by p body w (standing_notes (footnotes w.state))

-- ---- floats and notes in the text

-- a note goes to its place
abbrev pub note_tale : Params → ℤ → Margin → State → Tale
note_tale p height m s =
    Beside (spot_of s) m height s.note_bottom (placed_note p s.number s.two_columns s.first_column height s.note_bottom m)

-- the first float or note of the current list, after a list of this height without its depth; with its insertions the page
-- is `page_height` high
abbrev pub first_tales : Params → ℤ → ℤ → List Entry → State → List Tale
first_tales p height page_height (entries.Float f ∷ es) s =
    Calls (spot_of s) f page_height ∷ decisions f (told_call p s.floats s.suppress page_height f)
first_tales p height page_height (entries.Left m ∷ es) s = note_tale p height m s ∷ []
first_tales p height page_height (entries.Right m ∷ es) s = []
first_tales p height page_height [] s = []

-- a firing at a float or note in this text
abbrev pub text_tales : Params → List PlainNode → Work → List Tale
text_tales p ns w =
    let shapes = map node_shape ns in
    let depth = last_depth shapes in
    let height = size_of shapes -ℤ depth in
    first_tales p height (height +ℤ depth +ℤ notes_height (footnotes w.state)) w.state.floats.current (list_back p ns w).state

-- a firing at a float or note, with the held page before the page that fires
abbrev pub text_float_pieces : Params → List PlainNode → Work → List Piece
text_float_pieces p body w = unless_over w (tales (text_tales p (w.state.held_page ++ without_firing_box body) w))

-- ---- the firing

-- by the penalty of the break; nothing is told of a page that is held
abbrev pub output_pieces : Params → Fired → Work → List Piece
output_pieces p f w =
    if int_le eject_penalty f.penalty then ordinary_pieces p f.body w
    else (if is_int f.penalty clear_penalty then clear_pieces p f.body w
    else (if is_int f.penalty par_penalty then text_float_pieces p f.body w
    else (if is_int f.penalty vert_penalty then text_float_pieces p f.body w
    else [])))

-- what is told at the firing of a page, and where between it something is sent
unfoldable pub firing_pieces : Params → State → Fired → List Piece
firing_pieces p s f = output_pieces p f (begun (after_page s f))

-- ---- what is told and what is sent, in one list

-- a tale, or what is sent
pub data WhyEvent : Type 0 where
  told : Tale → WhyEvent
  sends : PlainSent → WhyEvent

-- what is sent, one after another
abbrev pub all_sent : List PlainSent → List WhyEvent
all_sent es = map (λ e. sends e) es

-- what is sent stands at its places between the tales, and the rest of it behind them
abbrev pub woven : List Piece → List PlainSent → List WhyEvent
woven [] es = all_sent es
woven (Says t ∷ ps) es = told t ∷ woven ps es
woven (NextSent ∷ ps) [] = woven ps []
woven (NextSent ∷ ps) (e ∷ es) = sends e ∷ woven ps es
