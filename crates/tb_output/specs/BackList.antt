-- The nodes that go back, as a store holds them (LaTeX, \clearpage, \@specialoutput, \@addtocurcol and \@addmarginpar).
use Rattle.std.specs.Prelude.{ℤ, pos, negsuc, neg_ℤ, Bool, List, [], ◌∷◌, map, Option, Some, None, if◌then◌else◌}
use Rattle.tb_scaled.specs.declared.Glue.{Glue}
use Rattle.tb_scaled.specs.Glue.{filling_glue, negated_glue}
use Rattle.tb_pool.specs.Lists.{Lists, list_at}
use Rattle.tb_node.specs.declared.Node.{Node}
use Rattle.tb_node.specs.declared.Kind.{Kind}
use Rattle.tb_node.specs.declared.Kind.TheVariants as kinds
use Rattle.tb_node.specs.declared.What.TheVariants as what
use Rattle.tb_node.specs.declared.Where.TheVariants as places
use Rattle.tb_node.specs.declared.Float.{Float}
use Rattle.tb_node.specs.declared.Margin.{Margin}
use Rattle.tb_node.specs.PlainNodes.{shape_of}
use Rattle.tb_node.specs.Sums.{size_of}
use Rattle.tb_break.specs.Places.{last_or}
use Rattle.tb_param.specs.declared.Params.{Params}
use Rattle.tb_margin.specs.declared.Placed.{Placed}
use Rattle.tb_margin.specs.Margin.{note_height, note_depth}
use Rattle.tb_column.specs.declared.NoteBox.{NoteBox}
use Rattle.tb_column.specs.FloatColumns.{made_node, float_box}
use Rattle.tb_output.specs.Text.{wide_glue}

-- the nodes of a further clear
abbrev pub clear_list : List Node
clear_list =
    made_node (kinds.Skip filling_glue) ∷ made_node (kinds.Pen (negsuc 9999)) ∷ made_node kinds.Whatsit ∷ made_node (kinds.Hbox what.Blank (pos 0) (pos 0)) ∷ made_node (kinds.Pen (negsuc 10000)) ∷ []

-- a blank box, and the nodes of a further clear
abbrev pub blank_clear_list : List Node
blank_clear_list = made_node (kinds.Hbox what.Blank (pos 0) (pos 0)) ∷ clear_list

-- a column that stays blank
abbrev pub blank_list : List Node
blank_list = made_node (kinds.Hbox what.Blank (pos 0) (pos 0)) ∷ made_node (kinds.Pen (negsuc 9999)) ∷ []

-- the glue of a last node that is glue of some width
abbrev pub glue_of_kind : Kind → Option Glue
glue_of_kind (kinds.Skip g) = wide_glue g
glue_of_kind _ = None

-- the glue of the list's last node, if that is glue of some width
abbrev pub last_glue : List Node → Option Glue
last_glue ns = last_or None (map (λ n. glue_of_kind n.kind) ns)

-- a penalty as if before this glue: the glue negated, the penalty, the glue; the penalty alone if there is no glue
abbrev pub interline_by : ℤ → Option Glue → List Node
interline_by n None = made_node (kinds.Pen n) ∷ []
interline_by n (Some g) = made_node (kinds.Skip (negated_glue g)) ∷ made_node (kinds.Pen n) ∷ made_node (kinds.Skip g) ∷ []

-- a penalty at the end of a list; after glue it acts as if before that glue (ltoutput.dtx, \@specialoutput)
abbrev pub interline_list : ℤ → List Node → List Node
interline_list n ns = interline_by n (last_glue ns)

-- the same; where no page may end, a penalty of 10000 alone
abbrev pub between_list : ℤ → Bool → List Node → List Node
between_list n nobreak ns = if nobreak then made_node (kinds.Pen (pos 10000)) ∷ [] else interline_list n ns

-- a float in the text, from between paragraphs or within one
abbrev pub here_list : Params → Bool → Float → List Node
here_list p vert f =
    made_node (kinds.Skip p.intextsep) ∷ float_box places.Here f ∷ made_node (kinds.Pen p.interlinepenalty) ∷ made_node (kinds.Skip p.intextsep)
    ∷ (if vert then made_node (kinds.Skip (negated_glue p.parskip)) ∷ [] else [])

-- the box of a marginal note; in the text it has no size
abbrev pub note_kind : Margin → Placed → Kind
note_kind m at = kinds.Hbox (what.Margin m.name at.side m.line at.shift (note_height at.side m) (note_depth at.side m)) (pos 0) (pos 0)

-- a marginal note, below text of this depth
abbrev pub note_list : ℤ → Margin → Placed → List Node
note_list depth m at =
    made_node (kinds.Kern (neg_ℤ depth))
    ∷ made_node (note_kind m at)
    ∷ made_node (kinds.Hbox what.Blank (pos 0) depth) ∷ []

-- the insertions of a class as one insertion of this height
abbrev pub insertion_of : Params → NoteBox → ℤ → Node
insertion_of p n height = made_node (kinds.Ins (record {
  class = n.class;
  list = n.list;
  height = height;
  split_depth = p.splitmaxdepth;
  split_top = p.splittopskip;
  floating = p.floatingpenalty;
}))

-- the insertions of all classes, each as high as its list
abbrev pub insertions_again : Params → Lists Node → List NoteBox → List Node
insertions_again p store ns = map (λ n. insertion_of p n (size_of (map shape_of (list_at store n.list)))) ns
