-- What a page shows before it is served: its text, its insertions, and how the machine stands.
use Rattle.std.specs.Prelude.{◌≡◌, ◌+ℤ◌, ◌-ℤ◌, Bool, true, false, List, [], ◌∷◌, ◌++◌, map}
use Rattle.tb_pool.specs.Lists.{Lists}
use Rattle.tb_scaled.specs.Amount.{IsAmount}
use Rattle.tb_node.specs.declared.Node.{Node}
use Rattle.tb_node.specs.PlainNodes.{PlainNode, node_shape}
use Rattle.tb_node.specs.Sums.{size_of, last_depth}
use Rattle.tb_builder.specs.declared.Builder.{Builder}
use Rattle.tb_builder.specs.declared.Page.{Page}
use Rattle.tb_builder.specs.FiredPages.{Fired}
use Rattle.tb_column.specs.Column.{Notes, standing_notes}
use Rattle.tb_output.specs.declared.reading.Reading.{Reading}
use Rattle.tb_output.specs.declared.reading.Standing.{Standing}
use Rattle.tb_output.specs.State.{State, Work, begun, footnotes}
use Rattle.tb_output.specs.Text.{without_firing_box, notes_height}
use Rattle.tb_output.specs.Output.{after_page}
use Rattle.tb_output.specs.Machine.{MachineView}
use Rattle.tb_output.specs.Firing.{state_in, fired_in}

-- the machine as it stands, apart from its floats
abbrev pub standing_of : MachineView → Standing
standing_of m = record {
  page = m.page;
  number = m.number;
  two_columns = m.two_columns;
  first_column = m.first_column;
  suppress = m.suppress;
  note_bottom = m.note_bottom;
}

-- the text of a page that fires at a float or a note: the held page, and the page without the box and the glue that the firing set
abbrev pub text_read : Work → List PlainNode → List PlainNode
text_read w body = w.state.held_page ++ without_firing_box body

-- there are insertions
abbrev pub any_notes : List Notes → Bool
any_notes [] = false
any_notes (n ∷ ns) = true

-- the height of this text without its depth, that of the page with its depth and these insertions, and whether any of them stand on a page; the heights are amounts
pub record IsReading (z : Reading) (ns : List PlainNode) (notes : List Notes) : Type 0 where
  pub height : z.height ≡ size_of (map node_shape ns) -ℤ last_depth (map node_shape ns)
  pub page_height : z.page_height ≡ size_of (map node_shape ns) +ℤ notes_height notes
  pub has_notes : z.has_notes ≡ any_notes (standing_notes notes)
  pub small_height : IsAmount z.height
  pub small_page : IsAmount z.page_height

-- what is read of a page that fires in a state
abbrev pub IsReadingOf : Reading → State → Fired → Type 0
IsReadingOf z s f = IsReading z (text_read (begun (after_page s f)) f.body) (footnotes (after_page s f))

-- what is read of a page that the builder fired
abbrev pub IsPageReading : Reading → MachineView → Builder → Lists Node → Page → Type 0
IsPageReading z m b store page = IsReadingOf z (state_in m b store) (fired_in b store page)
