-- The nodes of a text column as a store holds them (ltoutput.dtx, \@makecol and \@combinefloats).
use Rattle.std.specs.Prelude.{ℕ, ℤ, pos, negsuc, neg_ℤ, ◌+ℤ◌, ◌-ℤ◌, ◌+◌, ◌==◌, true, false, List, [], ◌∷◌, ◌++◌, length, map, Option, Some, None, unwrap_or, if◌then◌else◌}
use Rattle.tb_pool.specs.Lists.{Lists, list_at}
use Rattle.tb_scaled.specs.declared.Glue.{Glue}
use Rattle.tb_scaled.specs.declared.Order.TheVariants.{Normal, Fil}
use Rattle.tb_node.specs.declared.Node.{Node}
use Rattle.tb_node.specs.declared.Kind.TheVariants as kinds
use Rattle.tb_node.specs.declared.RuleOf.TheVariants.{Footnotes}
use Rattle.tb_node.specs.declared.Where.TheVariants as places
use Rattle.tb_node.specs.PlainNodes.{shape_of}
use Rattle.tb_node.specs.Sums.{size_of, limited_depth}
use Rattle.tb_node.specs.Shape.{Shape}
use Rattle.tb_scaled.specs.Glue.{fixed_glue}
use Rattle.tb_column.specs.declared.Enlarged.{Enlarged}
use Rattle.tb_column.specs.declared.Enlarged.TheVariants as enlarged
use Rattle.tb_param.specs.declared.Params.{Params}
use Rattle.tb_param.specs.declared.Rule.{Rule}
use Rattle.tb_param.specs.declared.Choice.{Choice}
use Rattle.tb_float.specs.Lists.{FloatLists}
use Rattle.tb_column.specs.declared.NoteBox.{NoteBox}
use Rattle.tb_column.specs.Column.{is_ragged, is_below, foot_kern}
use Rattle.tb_column.specs.Notes.{boxes_among}
use Rattle.tb_column.specs.FloatColumns.{boxes_above, boxes_below, glue_list, rule_list}
pub use Rattle.tb_column.specs.FloatColumns.{made_node}
pub use Rattle.tb_column.specs.Page.{is_leaf_kind, AreLeaves}

-- glue, and the rule of plain TeX's footnotes between its kerns
abbrev pub rule_above : Glue → List Node
rule_above g = made_node (kinds.Skip g) ∷ made_node (kinds.Kern (negsuc 196607)) ∷ made_node (kinds.Rule Footnotes (pos 26214) (pos 0)) ∷ made_node (kinds.Kern (pos 170394)) ∷ []

-- a kern, if there is one
abbrev pub kern_list : Option ℤ → List Node
kern_list None = []
kern_list (Some w) = made_node (kinds.Kern w) ∷ []

-- what is above footnotes: the kern that takes back the depth of the text, the filling glue, the skip and the rule
abbrev pub feet_list : Params → Option ℤ → List Node
feet_list p kern = kern_list kern ++ glue_list p.footfill ++ (made_node (kinds.Skip p.skipfootins) ∷ rule_list Footnotes p.footrule)

-- what is above the insertions of a class other than that of footnotes: its glue, and the rule of one that stands below footnotes
abbrev pub under_list : Glue → Option (Option Rule) → List Node
under_list g below = made_node (kinds.Skip g) ∷ rule_list Footnotes (unwrap_or below None)

-- what is above the insertions of a class: those of class 254 are footnotes
abbrev pub class_above : Params → Option ℤ → NoteBox → List Node
class_above p kern n = if n.class == 254 then feet_list p kern else under_list n.skip n.below

-- at most how many nodes are above the insertions of a class
abbrev pub above_length : ℕ → ℕ
above_length class = if class == 254 then 6 else 4

-- at most how many nodes are above the insertions of all classes
abbrev pub above_count : List NoteBox → ℕ
above_count [] = 0
above_count (n ∷ ns) = above_length n.class + above_count ns

-- the insertions of these classes
abbrev pub notes_list : Params → Option ℤ → Lists Node → List NoteBox → List Node
notes_list p kern store [] = []
notes_list p kern store (n ∷ ns) = (class_above p kern n ++ list_at store n.list) ++ notes_list p kern store ns

-- the glue that backs up over this depth, and stretches at a ragged bottom
abbrev pub closing_by : Choice → ℤ → Glue
closing_by bottom depth = record {
  width = neg_ℤ depth;
  stretch = if is_ragged bottom then pos 7 else pos 0;
  order = if is_ragged bottom then Fil else Normal;
  shrink = pos 0;
}

-- the nodes with the glue that backs up over their depth
abbrev pub closed_list : Params → List Node → List Node
closed_list p ns = ns ++ made_node (kinds.Skip (closing_by p.bottom (limited_depth p.maxdepth (map shape_of ns)))) ∷ []

-- and with the glue at the bottom of a column
abbrev pub ended_list : Params → List Node → List Node
ended_list p ns = closed_list p ns ++ glue_list p.textbottom

-- the glue of a page whose contents are shrunk, behind a list: with it the list is higher than this height by the shrink of the page
abbrev pub shrinking_list : ℤ → List Shape → Enlarged → List Node
shrinking_list height ns (enlarged.Shrunk s) = made_node (kinds.Skip (fixed_glue (height -ℤ size_of ns +ℤ s))) ∷ []
shrinking_list height ns _ = []

-- what the nodes of a column of this room are packed by
abbrev pub packed_list : Params → ℤ → Enlarged → List Node → List Node
packed_list p height e ns = closed_list p ns ++ (shrinking_list height (map shape_of (closed_list p ns)) e ++ glue_list p.textbottom)

-- the floats at the top of a column, with their glue
abbrev pub top_list : Params → FloatLists → List Node
top_list p l = boxes_above places.Top p.floatsep p.toprule p.textfloatsep l.top

-- the floats at the bottom of a column, with their glue
abbrev pub bottom_list : Params → FloatLists → List Node
bottom_list p l = boxes_below places.Bottom p.floatsep p.bottomrule p.textfloatsep l.bottom

-- the glue at the top, top floats, text, insertions that stand above footnotes
abbrev pub front_list : Params → FloatLists → Lists Node → ℕ → List NoteBox → List Node
front_list p l store body notes = (glue_list p.texttop ++ (top_list p l ++ list_at store body)) ++ notes_list p None store (boxes_among false notes)

-- the nodes with footnotes below, and what stands below those, in a column with this many floats at its bottom
abbrev pub footed_list : Params → ℕ → Lists Node → List NoteBox → List Node → List Node
footed_list p bottoms store notes ns = ns ++ notes_list p (foot_kern p bottoms (map shape_of ns)) store (boxes_among true notes)

-- the nodes with footnotes and bottom floats below, in the order that is asked for
abbrev pub below_list : Params → FloatLists → Lists Node → List NoteBox → List Node → List Node
below_list p l store notes ns = if is_below p.footplace then footed_list p (length l.bottom) store notes (ns ++ bottom_list p l) else footed_list p (length l.bottom) store notes ns ++ bottom_list p l

-- all but what ends the column
abbrev pub text_list : Params → FloatLists → Lists Node → ℕ → List NoteBox → List Node
text_list p l store body notes = below_list p l store notes (front_list p l store body notes)

-- the same and the closing glue
abbrev pub column_list : Params → FloatLists → Lists Node → ℕ → List NoteBox → List Node
column_list p l store body notes = ended_list p (text_list p l store body notes)
