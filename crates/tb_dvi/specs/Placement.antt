-- What a shipped page shows, and where.
use Rattle.std.specs.Prelude.{ℕ, ℤ, pos, ◌+ℤ◌, List, [], ◌∷◌, ◌++◌, map, flat_map, Option, Some, None, codes}
use Rattle.tb_node.specs.declared.RuleOf.{RuleOf}
use Rattle.tb_node.specs.declared.RuleOf.TheVariants.{Item, Footnotes, Floats}
use Rattle.tb_node.specs.declared.Name.{Name}
use Rattle.tb_node.specs.declared.What.{What}
use Rattle.tb_node.specs.declared.What.TheVariants as what
use Rattle.tb_node.specs.PlainNodes.{Matter, hbox, rule, skip, kerned, pen, mark, note, whatsit, PlainKind, plain, ins, act, PlainNode, node_shape}
use Rattle.tb_pack.specs.declared.Set.{Set}
use Rattle.tb_pack.specs.Pack.{top_after}
use Rattle.tb_column.specs.Column.{PlainColumn}
use Rattle.tb_sheet.specs.Sheet.{PlainSheet, one, wide, two}
use Rattle.tb_report.specs.Lines.{float_label, side_text, unset}
use Rattle.tb_text.specs.Fields.{and_text}

-- a label at a place of the page, and the height of the rule there, if it has one
pub record Placement : Type 0 where
  pub h : ℤ
  pub v : ℤ
  pub label : List ℕ
  pub rule : Option ℤ

-- a part of a page: how far it is to the right and down, its nodes, and how their glue is set
pub record PlainPart : Type 0 where
  pub h : ℤ
  pub at : ℤ
  pub nodes : List PlainNode
  pub set : Set

-- what is shown of an item: how far its reference point is below its top, its label, and the height of its rule, if it has one
pub record Spot : Type 0 where
  pub down : ℤ
  pub label : List ℕ
  pub rule : Option ℤ

-- an item with a rule
abbrev pub ruled : ℤ → List ℕ → ℤ → Option Spot
ruled down label height = Some (record { down = down; label = label; rule = Some height })

-- an item with no rule, at its top
abbrev pub labelled : List ℕ → Option Spot
labelled label = Some (record { down = pos 0; label = label; rule = None })

-- a box: a float hangs from its top, and a marginal note is moved down by its shift
abbrev pub box_spot : What → ℤ → ℤ → Option Spot
box_spot (what.Text name) height depth = ruled (height +ℤ depth) (codes "box " ++ name) (height +ℤ depth)
box_spot what.Blank height depth = None
box_spot (what.Float name class place item) height depth = ruled height (float_label name class place) height
box_spot (what.Margin name side item shift rise fall) height depth = ruled (shift +ℤ fall) (codes "margin " ++ name ++ and_text (side_text side)) (rise +ℤ fall)

-- the label of a rule: that above footnotes has no name
abbrev pub rule_label : RuleOf → List ℕ
rule_label Footnotes = codes "footrule"
rule_label Floats = codes "floatrule"
rule_label (Item name) = codes "rule " ++ name

-- what is shown of what any list may hold; most is not
abbrev pub matter_spot : Matter → Option Spot
matter_spot (hbox content height depth) = box_spot content height depth
matter_spot (rule of height depth) = ruled (height +ℤ depth) (rule_label of) (height +ℤ depth)
matter_spot (skip g) = None
matter_spot (kerned w) = None
matter_spot (pen p) = None
matter_spot (mark name) = labelled (codes "mark " ++ name)
matter_spot (note name) = labelled (codes "note " ++ name)
matter_spot whatsit = None

-- what is shown of a node of a page; insertions and acts are not
abbrev pub kind_spot : PlainKind → Option Spot
kind_spot (plain m) = matter_spot m
kind_spot (ins i) = None
kind_spot (act a) = None

-- an item this far to the right, whose top is here
abbrev pub spot_placed : ℤ → ℤ → Option Spot → List Placement
spot_placed h top None = []
spot_placed h top (Some s) = record { h = h; v = top +ℤ s.down; label = s.label; rule = s.rule } ∷ []

-- the rest of a list that is set like this and begins at `at`, after the nodes before
abbrev pub placed_after : ℤ → ℤ → Set → List PlainNode → List PlainNode → List Placement
placed_after h at s before [] = []
placed_after h at s before (n ∷ rest) = spot_placed h (at +ℤ top_after s (map node_shape before)) (kind_spot n.kind) ++ placed_after h at s (before ++ n ∷ []) rest

-- a part of a page
abbrev pub part_placed : PlainPart → List Placement
part_placed p = placed_after p.h p.at p.set [] p.nodes

-- parts of a page, in their order
abbrev pub parts_placed : List PlainPart → List Placement
parts_placed ps = flat_map part_placed ps

-- a column as a part of a page
abbrev pub column_part : ℤ → ℤ → PlainColumn → PlainPart
column_part h at c = record { h = h; at = at; nodes = c.nodes; set = c.set }

-- the parts of a page: its column, or its double floats and both columns, the second 300pt to the right
abbrev pub sheet_parts : PlainSheet → List PlainPart
sheet_parts (one c) = column_part (pos 0) (pos 0) c ∷ []
sheet_parts (wide c) = column_part (pos 0) (pos 0) c ∷ []
sheet_parts (two tops at left right) =
    record { h = pos 0; at = pos 0; nodes = tops; set = unset } ∷ column_part (pos 0) at left ∷ column_part (pos 19660800) at right ∷ []

-- the placements of a page, in the order of its report
abbrev pub sheet_placed : PlainSheet → List Placement
sheet_placed sheet = parts_placed (sheet_parts sheet)
