-- The floats that stand in the text of a column, as a store holds their boxes.
use Rattle.std.specs.Prelude.{ℕ, Option, Some, None}
use Rattle.tb_node.specs.declared.Kind.{Kind}
use Rattle.tb_node.specs.declared.Kind.TheVariants as kinds
use Rattle.tb_node.specs.declared.What.{What}
use Rattle.tb_node.specs.declared.What.TheVariants as what
use Rattle.tb_node.specs.declared.Where.{Where}
use Rattle.tb_node.specs.declared.Where.TheVariants as places

-- the line of a float, if its place is in the text
abbrev pub item_here : Where → ℕ → Option ℕ
item_here places.Here item = Some item
item_here place item = None

-- the same of what a box holds, if that is a float
abbrev pub box_here : What → Option ℕ
box_here (what.Float name class place item) = item_here place item
box_here w = None

-- the same of a node, if it is such a box
abbrev pub line_here : Kind → Option ℕ
line_here (kinds.Hbox w h d) = box_here w
line_here k = None
