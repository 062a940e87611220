-- What is told at a firing, by the little that it depends on: the floats, where the page stands, and what is read from the
-- page before. Each definition is that of `Firing`, or of a step of the work, over what is seen.
use Rattle.std.specs.Prelude.{ℕ, zero, suc, ℤ, pos, ◌+◌, ◌+ℤ◌, ◌-ℤ◌, Bool, true, false, not, ◌&&◌, List, [], ◌∷◌, ◌++◌, length, map, Option, Some, None, int_le, int_lt, if◌then◌else◌}
use Rattle.tb_scaled.specs.Scaled.{eject_penalty}
use Rattle.tb_node.specs.declared.Margin.{Margin}
use Rattle.tb_node.specs.declared.Where.TheVariants as places
use Rattle.tb_node.specs.PlainNodes.{node_shape}
use Rattle.tb_node.specs.Sums.{size_of, last_depth}
use Rattle.tb_param.specs.declared.Params.{Params}
use Rattle.tb_builder.specs.FiredPages.{Fired}
use Rattle.tb_float.specs.declared.Entry.{Entry}
use Rattle.tb_float.specs.declared.Entry.TheVariants as entries
use Rattle.tb_float.specs.declared.Suppress.{Suppress}
use Rattle.tb_float.specs.Lists.{FloatLists, wide_part, wide_waiting, with_wide_waiting}
use Rattle.tb_area.specs.Deferred.{filled, doubled}
use Rattle.tb_fpage.specs.Company.{Choice, company, left_floats}
use Rattle.tb_margin.specs.Margin.{placed_note}
use Rattle.tb_sheet.specs.Asked.{clear_penalty, par_penalty, vert_penalty}
use Rattle.tb_output.specs.declared.reading.Reading.{Reading}
use Rattle.tb_output.specs.State.{State, Work, begun, footnotes, no_suppress}
use Rattle.tb_output.specs.Pages.{wide_wanted}
use Rattle.tb_output.specs.Columns.{single_wanted}
use Rattle.tb_output.specs.Clear.{deferred_again, double_again}
use Rattle.tb_output.specs.Text.{notes_height}
use Rattle.tb_output.specs.Output.{is_int, after_page}
use Rattle.tb_column.specs.Column.{standing_notes}
use Rattle.tb_output.specs.Reading.{any_notes, text_read}
use Rattle.tb_told.specs.declared.Spot.{Spot}
use Rattle.tb_told.specs.declared.Tale.{Tale}
use Rattle.tb_told.specs.declared.Tale.TheVariants.{Calls, Beside, PutOut, Stands}
use Rattle.tb_told.specs.declared.Piece.{Piece}
use Rattle.tb_told.specs.declared.Piece.TheVariants.{Says, NextSent}
use Rattle.tb_told.specs.AreaTold.{told_call}
use Rattle.tb_told.specs.Filled.{filled_pieces, none_suppressed, doubled_pieces}
use Rattle.tb_told.specs.Tales.{tales, decisions, column_tales, back_tales}

-- what the tales of a firing depend on: the floats, the count of pages, the number of the page and the column that are being made, the suppress flags, how far
-- down marginal notes reach, and whether the page limit was met
pub record Seen : Type 0 where
  pub floats : FloatLists
  pub page : ℕ
  pub number : ℕ
  pub two_columns : Bool
  pub first_column : Bool
  pub suppress : Suppress
  pub note_bottom : ℤ
  pub over : Bool

-- what is seen of a firing at work
abbrev pub seen_of : Work → Seen
seen_of w = record {
  floats = w.state.floats;
  page = w.state.page;
  number = w.state.number;
  two_columns = w.state.two_columns;
  first_column = w.state.first_column;
  suppress = w.state.suppress;
  note_bottom = w.state.note_bottom;
  over = w.refused;
}

-- what is read from a page that fires
abbrev pub reading_of : State → Fired → Reading
reading_of s f =
    let shapes = map node_shape (text_read (begun (after_page s f)) f.body) in
    let depth = last_depth shapes in
    let height = size_of shapes -ℤ depth in
    let notes = footnotes (after_page s f) in
    record { height = height; page_height = height +ℤ depth +ℤ notes_height notes; has_notes = any_notes (standing_notes notes) }

-- where it stands
abbrev pub spot_seen : Seen → Spot
spot_seen v = record { page = v.number; second = v.two_columns && not v.first_column }

-- nothing is told once the page limit was met
abbrev pub told_unless : Bool → List Piece → List Piece
told_unless over ps = if over then [] else ps

-- the floats are in these lists
abbrev pub with_lists : FloatLists → Seen → Seen
with_lists l v = record v { floats = l }

-- ---- floats that wait are tried

-- each float that waits is told of, as it is tried for the next column
abbrev pub fill_told : Params → Seen → List Piece
fill_told p v = told_unless v.over (filled_pieces p v.suppress [] v.floats.deferred v.floats)

-- those that have a place go there
abbrev pub fill_seen : Params → Seen → Seen
fill_seen p v = with_lists (filled p v.suppress [] v.floats.deferred v.floats) v

-- each wide float that waits is told of, as it is tried for the top of the next two columns
abbrev pub fill_double_told : Params → Seen → List Piece
fill_double_told p v = told_unless v.over (doubled_pieces (wide_part p) p [] (wide_waiting p v.floats) v.floats)

-- those that have a place go there
abbrev pub fill_double_seen : Params → Seen → Seen
fill_double_seen p v = with_lists (doubled (wide_part p) p none_suppressed [] (wide_waiting p v.floats) v.floats) v

-- ---- pages

-- the page limit is met
abbrev pub is_last : Params → Seen → Bool
is_last p v = int_lt p.maxpages (pos v.page)

-- a page is shipped, unless the page limit is met
abbrev pub ship_told : Params → Seen → List Piece
ship_told p v = told_unless v.over (if is_last p v then [] else NextSent ∷ [])

-- the next page is made, or the page limit is met
abbrev pub ship_seen : Params → Seen → Seen
ship_seen p v = if v.over then v else (if is_last p v then record v { over = true } else record v { page = v.page + 1; number = v.number + 1 })

-- a column or a wide page is put out
abbrev pub put_told : Seen → List Piece
put_told v = told_unless v.over (Says PutOut ∷ [])

-- the company of wide floats has shipped as a page
abbrev pub wide_page_seen : Params → List Choice → Seen → Seen
wide_page_seen p cs v = ship_seen p (with_lists (with_wide_waiting p (left_floats cs) v.floats) v)

-- wide pages, by their company
abbrev pub wide_told_by : (Seen → List Piece) → Params → Seen → Option (List Choice) → List Piece
wide_told_by again p v None = []
wide_told_by again p v (Some cs) = put_told v ++ (ship_told p v ++ again (wide_page_seen p cs v))

-- where they lead
abbrev pub wide_seen_by : (Seen → Seen) → Params → Seen → Option (List Choice) → Seen
wide_seen_by again p v None = v
wide_seen_by again p v (Some cs) = again (wide_page_seen p cs v)

-- a wide page is looked for
abbrev pub wide_looked_told : Params → Bool → Seen → List Piece
wide_looked_told p clearing v = told_unless v.over (tales (column_tales (spot_seen v) (wide_wanted p clearing) (wide_waiting p v.floats)))

-- the company of the next wide page
abbrev pub wide_company : Params → Bool → Seen → Option (List Choice)
wide_company p clearing v = company (wide_wanted p clearing) (wide_waiting p v.floats)

-- wide pages while there is a company
abbrev pub wide_told : Params → Bool → ℕ → Seen → List Piece
wide_told p clearing zero v = []
wide_told p clearing (suc n) v =
    wide_looked_told p clearing v ++ wide_told_by (λ u. wide_told p clearing n u) p v (wide_company p clearing v)

-- where they lead
abbrev pub wide_seen : Params → Bool → ℕ → Seen → Seen
wide_seen p clearing zero v = v
wide_seen p clearing (suc n) v = wide_seen_by (λ u. wide_seen p clearing n u) p v (wide_company p clearing v)

-- wide pages while there is a company; there are no more than floats
abbrev pub all_wide_told : Params → Bool → Seen → List Piece
all_wide_told p clearing v = wide_told p clearing (length (wide_waiting p v.floats)) v

-- where they lead
abbrev pub all_wide_seen : Params → Bool → Seen → Seen
all_wide_seen p clearing v = wide_seen p clearing (length (wide_waiting p v.floats)) v

-- the floats above the columns are gone, and the next column is the first
abbrev pub without_double_seen : Seen → Seen
without_double_seen v = record v { floats = record v.floats { double = [] }; first_column = true }

-- after the page of two columns: wide pages, and the space above the next two columns
abbrev pub after_pair_told : Params → Seen → List Piece
after_pair_told p v = all_wide_told p false v ++ fill_double_told p (all_wide_seen p false v)

-- the page of two columns ships
abbrev pub pair_told : Params → Seen → List Piece
pair_told p v = ship_told p v ++ after_pair_told p (without_double_seen (ship_seen p v))

-- where it leads
abbrev pub pair_seen : Params → Seen → Seen
pair_seen p v = fill_double_seen p (all_wide_seen p false (without_double_seen (ship_seen p v)))

-- a column is put out: as a page, as the first of two, of which nothing is told, or as the second
abbrev pub put_out_told_by : Params → Seen → List Piece
put_out_told_by p v = if not v.two_columns then ship_told p v else (if v.first_column then [] else pair_told p v)

-- where it leads
abbrev pub put_out_seen_by : Params → Seen → Seen
put_out_seen_by p v =
    if not v.two_columns then ship_seen p v else (if v.first_column then record v { first_column = false } else pair_seen p v)

-- after every column marginal notes reach down to 0, and no area is suppressed
abbrev pub after_column_seen : Seen → Seen
after_column_seen v = record v { note_bottom = pos 0; suppress = no_suppress }

-- a column is put out, and the column after it begins
abbrev pub put_out_told : Params → Seen → List Piece
put_out_told p v = put_told v ++ put_out_told_by p v

-- where it leads
abbrev pub put_out_seen : Params → Seen → Seen
put_out_seen p v = after_column_seen (put_out_seen_by p v)

-- ---- columns

-- the floats that a text column took with it are gone
abbrev pub without_column_seen : Seen → Seen
without_column_seen v = with_lists (record v.floats { here = []; top = []; bottom = [] }) v

-- the floats of these lines stand in the text of the column that is put out next
abbrev pub stands_told : List ℕ → Seen → List Piece
stands_told here v = told_unless v.over (tales (map (λ l. Stands l) here))

-- a text column with the floats of these lines in its text is put out
abbrev pub text_told : Params → List ℕ → Seen → List Piece
text_told p here v = stands_told here v ++ put_out_told p (without_column_seen v)

-- where it leads
abbrev pub text_seen : Params → Seen → Seen
text_seen p v = put_out_seen p (without_column_seen v)

-- the floats of the company have left the deferred ones
abbrev pub without_company_seen : List Choice → Seen → Seen
without_company_seen cs v = with_lists (record v.floats { deferred = left_floats cs }) v

-- columns of floats, by their company
abbrev pub float_told_by : (Seen → List Piece) → Params → Seen → Option (List Choice) → List Piece
float_told_by again p v None = []
float_told_by again p v (Some cs) =
    put_out_told p (without_company_seen cs v) ++ again (put_out_seen p (without_company_seen cs v))

-- where they lead
abbrev pub float_seen_by : (Seen → Seen) → Params → Seen → Option (List Choice) → Seen
float_seen_by again p v None = v
float_seen_by again p v (Some cs) = again (put_out_seen p (without_company_seen cs v))

-- a column of floats is looked for
abbrev pub column_looked_told : Params → Bool → Seen → List Piece
column_looked_told p clearing v = told_unless v.over (tales (column_tales (spot_seen v) (single_wanted p v.floats clearing) v.floats.deferred))

-- the company of the next column of floats
abbrev pub column_company : Params → Bool → Seen → Option (List Choice)
column_company p clearing v = company (single_wanted p v.floats clearing) v.floats.deferred

-- columns of floats while there is a company
abbrev pub float_told : Params → Bool → ℕ → Seen → List Piece
float_told p clearing zero v = []
float_told p clearing (suc n) v =
    column_looked_told p clearing v ++ float_told_by (λ u. float_told p clearing n u) p v (column_company p clearing v)

-- where they lead
abbrev pub float_seen : Params → Bool → ℕ → Seen → Seen
float_seen p clearing zero v = v
float_seen p clearing (suc n) v = float_seen_by (λ u. float_seen p clearing n u) p v (column_company p clearing v)

-- columns of floats while there is a company; there are no more than floats
abbrev pub all_float_told : Params → Bool → Seen → List Piece
all_float_told p clearing v = float_told p clearing (length v.floats.deferred) v

-- where they lead
abbrev pub all_float_seen : Params → Bool → Seen → Seen
all_float_seen p clearing v = float_seen p clearing (length v.floats.deferred) v

-- columns of floats, and the floats of the next text column
abbrev pub start_told : Params → Seen → List Piece
start_told p v = all_float_told p false v ++ fill_told p (all_float_seen p false v)

-- an ordinary firing
abbrev pub ordinary_told : Params → List ℕ → Seen → List Piece
ordinary_told p here v = text_told p here v ++ start_told p (text_seen p v)

-- ---- a clear

-- the floats above both columns are taken back
abbrev pub double_back_told : Seen → List Piece
double_back_told v = told_unless v.over (tales (back_tales places.Double v.floats.double))

-- in two columns, before a first column: the floats above both columns are taken back, and wide pages are looked for
abbrev pub clear_wide_told : Params → Seen → List Piece
clear_wide_told p v =
    if not v.two_columns then []
    else (if v.first_column then double_back_told v ++ all_wide_told p true (with_lists (double_again p v.floats) v) else [])

-- columns of floats, and then wide pages
abbrev pub clear_columns_told : Params → Seen → List Piece
clear_columns_told p v = all_float_told p true v ++ clear_wide_told p (all_float_seen p true v)

-- the floats of the areas are taken back
abbrev pub areas_back_told : Seen → List Piece
areas_back_told v = told_unless v.over (tales (back_tales places.Top v.floats.top ++ back_tales places.Bottom v.floats.bottom))

-- a clear of a page without insertions
abbrev pub clear_floats_told : Params → Seen → List Piece
clear_floats_told p v = areas_back_told v ++ clear_columns_told p (with_lists (deferred_again v.floats) v)

-- a page with insertions is put out first
abbrev pub clear_told : Params → List ℕ → Reading → Seen → List Piece
clear_told p here r v = if r.has_notes then text_told p here v else clear_floats_told p v

-- ---- floats and notes in the text

-- a note goes to its place
abbrev pub note_seen : Params → ℤ → Margin → Seen → Tale
note_seen p height m v =
    Beside (spot_seen v) m height v.note_bottom (placed_note p v.number v.two_columns v.first_column height v.note_bottom m)

-- the first float or note of the current list
abbrev pub first_seen : Params → ℤ → ℤ → List Entry → Seen → List Tale
first_seen p height page_height (entries.Float f ∷ es) v =
    Calls (spot_seen v) f page_height ∷ decisions f (told_call p v.floats v.suppress page_height f)
first_seen p height page_height (entries.Left m ∷ es) v = note_seen p height m v ∷ []
first_seen p height page_height (entries.Right m ∷ es) v = []
first_seen p height page_height [] v = []

-- a firing at a float or note
abbrev pub text_float_told : Params → Reading → Seen → List Piece
text_float_told p r v = told_unless v.over (tales (first_seen p r.height r.page_height v.floats.current v))

-- ---- the firing

-- by the penalty of the break, with the lines of the floats in the page's text; nothing is told of a page that is held
unfoldable pub seen_pieces : Params → ℤ → List ℕ → Reading → Seen → List Piece
seen_pieces p penalty here r v =
    if int_le eject_penalty penalty then ordinary_told p here v
    else (if is_int penalty clear_penalty then clear_told p here r v
    else (if is_int penalty par_penalty then text_float_told p r v
    else (if is_int penalty vert_penalty then text_float_told p r v
    else [])))
