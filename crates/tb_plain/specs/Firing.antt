-- A page fires: it ships as one column, with the top floats above and the footnotes below.
use Rattle.std.specs.Prelude.{pos, negsuc, neg_ℤ, Bool, true, false, ◌&&◌, List, [], ◌∷◌, ◌++◌, map, Option, Some, None, int_le, if◌then◌else◌}
use Rattle.tb_scaled.specs.Glue.{filling_glue}
use Rattle.tb_scaled.specs.Scaled.{min_ℤ}
use Rattle.tb_node.specs.declared.RuleOf.TheVariants.{Footnotes}
use Rattle.tb_node.specs.PlainNodes.{rule, skip, kerned, pen, Leaf, leaf_node, PlainNode, node_shape, made, blank_box}
use Rattle.tb_node.specs.Sums.{last_depth}
use Rattle.tb_param.specs.declared.Params.{Params}
use Rattle.tb_builder.specs.FiredPages.{Fired, box_content, content_of}
use Rattle.tb_column.specs.declared.ColumnKind.TheVariants as kinds
use Rattle.tb_column.specs.Column.{PlainColumn, column_of, is_ragged}
use Rattle.tb_plain.specs.GalleyNodes.{clearing_glue, clearing_penalty}

-- at a ragged bottom a kern backs up over the depth of the body, and glue stretches
abbrev pub ragged_end : Params → List PlainNode → List PlainNode
ragged_end p body = made (kerned (neg_ℤ (min_ℤ (last_depth (map node_shape body)) p.maxdepth))) ∷ made (skip filling_glue) ∷ []

-- the footnotes under their glue and plain TeX's rule between its kerns
abbrev pub notes_under_rule : Params → List Leaf → List PlainNode
notes_under_rule p ns =
    made (skip p.skipfootins) ∷ made (kerned (negsuc 196607)) ∷ made (rule Footnotes (pos 26214) (pos 0)) ∷ made (kerned (pos 170394)) ∷ map leaf_node ns

-- the footnotes under their rule, if their box is not void
abbrev pub feet_below : Params → Option (List Leaf) → List PlainNode
feet_below p None = []
feet_below p (Some ns) = notes_under_rule p ns

-- what the column holds: top floats, body, footnotes
abbrev pub makeup_column_nodes : Params → Fired → List PlainNode
makeup_column_nodes p f =
    map leaf_node (content_of (box_content f.boxes 253)) ++ f.body ++ feet_below p (box_content f.boxes 254)
    ++ (if is_ragged p.bottom then ragged_end p f.body else [])

-- the column, packed to the height of the text
abbrev pub makeup_column : Params → Fired → PlainColumn
makeup_column p f = column_of kinds.Text p.textheight p.maxdepth (makeup_column_nodes p f)

-- the list has a node
abbrev pub holds_any : List PlainNode → Bool
holds_any [] = false
holds_any (n ∷ ns) = true

-- an empty page on which what is held may come, with the break of a clear
abbrev pub page_for_held : Params → List PlainNode
page_for_held p =
    made blank_box ∷ made (kerned (neg_ℤ p.topskip)) ∷ made (pen (pos 10000)) ∷ made (skip clearing_glue) ∷ made (pen clearing_penalty) ∷ []

-- what is put back: after a clear, if insertions are held, a page for them
abbrev pub put_back_after : Params → Fired → List PlainNode
put_back_after p f = if int_le f.penalty clearing_penalty && holds_any f.held then page_for_held p else []
