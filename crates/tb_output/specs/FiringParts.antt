-- What the parts of a firing do (ltoutput.dtx, \output and \@specialoutput).
use Rattle.std.specs.Prelude.{◌≡◌, ◌≢◌, ℕ, ◌-◌, ℤ, ◌+ℤ◌, ◌-ℤ◌, Bool, true, false, int_le, if◌then◌else◌, Some, None, List, [], ◌∷◌, ◌++◌, map, length, take, drop}
use Rattle.std.specs.FinMap.{get}
use Rattle.tb_pool.specs.Lists.{Lists, list_at}
use Rattle.tb_node.specs.declared.Node.{Node}
use Rattle.tb_param.specs.declared.Params.{Params}
use Rattle.tb_scaled.specs.Amount.{IsAmount}
use Rattle.tb_scaled.specs.Scaled.{eject_penalty}
use Rattle.tb_scaled.specs.Glue.{filling_glue}
use Rattle.tb_node.specs.declared.Float.{Float}
use Rattle.tb_node.specs.declared.Margin.{Margin}
use Rattle.tb_node.specs.declared.Where.{Where}
use Rattle.tb_node.specs.declared.Where.TheVariants as places
use Rattle.tb_node.specs.Fit.{IsExtent}
use Rattle.tb_node.specs.PlainNodes.{PlainNode, node_shape, made, skip}
use Rattle.tb_node.specs.Sums.{size_of, last_depth}
use Rattle.tb_float.specs.declared.Part.{Part}
use Rattle.tb_float.specs.declared.Part.TheVariants as parts
use Rattle.tb_float.specs.Lists.{FloatLists, floats_of, wide_waiting}
use Rattle.tb_fpage.specs.declared.Wanted.{Wanted}
use Rattle.tb_fpage.specs.Company.{company}
use Rattle.tb_area.specs.Area.{current_place}
use Rattle.tb_column.specs.Column.{Notes}
use Rattle.tb_output.specs.declared.texts.TextSize.{TextSize}
use Rattle.tb_output.specs.State.{Work, puts}
use Rattle.tb_output.specs.Pages.{wide_wanted, wide_pages_by}
use Rattle.tb_output.specs.Columns.{ordinary, put_out_text, single_wanted, float_columns_by}
use Rattle.tb_output.specs.Clear.{clear_again, clear}
use Rattle.tb_output.specs.FloatMoves.{joined_to}
use Rattle.tb_output.specs.Text.{notes_height, float_or_note, float_goes, note_at, first_goes, with_top}
use Rattle.tb_builder.specs.FiredPages.{Fired}
use Rattle.tb_sheet.specs.Asked.{clear_penalty, par_penalty}
use Rattle.tb_output.specs.Output.{is_int, output_by, next_goal}
use Rattle.tb_sheet.specs.declared.Warn.TheVariants as warnings
use Rattle.tb_output.specs.Machine.{MachineView}
use Rattle.tb_output.specs.PageChanges.{with_warning}
use Rattle.tb_output.specs.MachineFrame.{HasFloats}

-- ---- the walks over the floats that wait

-- no floats make a column, and nothing changed
pub record ChoosesNone (from : Part) (z : Wanted) (m now : MachineView) : Type 0 where
  pub none : company z (floats_of from m.pool.lists) ≡ None
  pub machine : now ≡ m

-- a column of floats is put out, if there is one
abbrev pub column_done : Params → Bool → Work → Work
column_done p clearing w = float_columns_by (λ v. v) p w (company (single_wanted p w.state.floats clearing) w.state.floats.deferred)

-- a page of wide floats is shipped, if there is one
abbrev pub wide_done : Params → Bool → Work → Work
wide_done p clearing w = wide_pages_by (λ v. v) p w (company (wide_wanted p clearing) (wide_waiting p w.state.floats))

-- no floats make a column, and nothing changed
pub record NoColumn (clearing : Bool) (m now : MachineView) (store new : Lists Node) : Type 0 where
  pub none : company (single_wanted m.params m.pool.lists clearing) m.pool.lists.deferred ≡ None
  pub machine : now ≡ m
  pub lists : new.lists ≡ store.lists

-- no floats make a wide page, and nothing changed
pub record NoWidePage (clearing : Bool) (m now : MachineView) (store new : Lists Node) : Type 0 where
  pub none : company (wide_wanted m.params clearing) (wide_waiting m.params m.pool.lists) ≡ None
  pub machine : now ≡ m
  pub lists : new.lists ≡ store.lists

-- ---- a clear

-- a page with insertions is put out, filled with glue, and a further clear goes back
abbrev pub clear_noted : Params → List PlainNode → Work → Work
clear_noted p body w = puts clear_again (put_out_text p (body ++ made (skip filling_glue) ∷ []) w)

-- ---- floats and notes in the text

-- the size of this text with these insertions
pub record IsTextSize (z : TextSize) (ns : List PlainNode) (notes : List Notes) : Type 0 where
  pub depth : z.depth ≡ last_depth (map node_shape ns)
  pub height : z.height ≡ size_of (map node_shape ns) -ℤ z.depth
  pub page : z.page ≡ z.height +ℤ z.depth +ℤ notes_height notes
  pub small_height : IsAmount z.height
  pub small_page : IsAmount z.page
  pub extent : IsExtent z.depth

-- the list that goes back holds the held page, and the page without the box and the glue that the firing set; the held page is empty
pub record HasTextBack (back held body : ℕ) (store new : Lists Node) : Type 0 where
  pub list : get new.lists back ≡ Some (list_at store back ++ (list_at store held ++ take (length (list_at store body) - 2) (list_at store body)))
  pub emptied : get new.lists held ≡ Some []
  pub others : (q : ℕ) → q ≢ back → q ≢ held → q ≢ body → get new.lists q ≡ get store.lists q

-- the floats of the list are in a column, or wait for one
abbrev pub IsColumnPart : Part → Type 0
IsColumnPart parts.Current = ⊥
IsColumnPart parts.Here = Unit {0}
IsColumnPart parts.Top = Unit {0}
IsColumnPart parts.Bottom = Unit {0}
IsColumnPart parts.Deferred = Unit {0}
IsColumnPart parts.Double = ⊥
IsColumnPart parts.Second = ⊥

-- the floats of the list are at the top or at the bottom of a column
abbrev pub IsAreaPart : Part → Type 0
IsAreaPart parts.Current = ⊥
IsAreaPart parts.Here = ⊥
IsAreaPart parts.Top = Unit {0}
IsAreaPart parts.Bottom = Unit {0}
IsAreaPart parts.Deferred = ⊥
IsAreaPart parts.Double = ⊥
IsAreaPart parts.Second = ⊥

-- the place of the floats of a list; those of the current list have none yet
abbrev pub place_of : Part → Where
place_of parts.Current = places.Deferred
place_of parts.Here = places.Here
place_of parts.Top = places.Top
place_of parts.Bottom = places.Bottom
place_of parts.Deferred = places.Deferred
place_of parts.Double = places.Double
place_of parts.Second = places.Deferred

-- the lists without the first entry of the current list
abbrev pub without_first : FloatLists → FloatLists
without_first l = record l { current = drop 1 l.current }

-- the lists without the two boxes of a note, which are the first entries of the current list
abbrev pub without_note : FloatLists → FloatLists
without_note l = record l { current = drop 2 l.current }

-- the first float waits; one that may go to the top from now on is warned of
abbrev pub HasDeferred : Bool → Float → MachineView → MachineView → Type 0
HasDeferred top f m now =
    HasFloats (joined_to places.Deferred (if top then with_top f else f) (without_first m.pool.lists)) (if top then with_warning (warnings.Ht f.name) m else m) now

-- the first of the current list gets its place, below a text of this size
abbrev pub first_placed : Params → Bool → TextSize → Work → Work
first_placed p vert z w = first_goes p vert z.height z.depth z.page w.state.floats.current w

-- the first float goes to this place
abbrev pub float_placed : Params → Bool → Float → Where → Work → Work
float_placed p vert f place w = float_goes p vert f (without_first w.state.floats) w place

-- the first float goes where the routine decides
abbrev pub float_decided : Params → Bool → Float → ℤ → Work → Work
float_decided p vert f page_height w = float_placed p vert f (current_place p w.state.floats w.state.suppress page_height f) w

-- the first note is placed
abbrev pub note_placed : Params → TextSize → Margin → Work → Work
note_placed p z m w = note_at p z.height z.depth m (without_note w.state.floats) w

-- ---- a firing

-- what the penalty asks for, of a page that is not held
abbrev pub page_output : Params → ℤ → List PlainNode → Work → Work
page_output p penalty body w =
    if int_le eject_penalty penalty then ordinary p body w
    else (if is_int penalty clear_penalty then clear p body w
    else (if is_int penalty par_penalty then float_or_note p false body w
    else float_or_note p true body w))

-- what is done once the firing is counted, without the nodes that wait
abbrev pub served : Params → Fired → Work → Work
served p f w = next_goal p f.penalty (output_by p f w)
