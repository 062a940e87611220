-- The nodes of floats as a store holds them (ltoutput.dtx, \@cflt, \@cflb and \@vtryfc).
use Rattle.std.specs.Prelude.{pos, Bool, true, false, List, [], ◌∷◌, ◌++◌, Option, Some, None, if◌then◌else◌}
use Rattle.tb_scaled.specs.declared.Glue.{Glue}
use Rattle.tb_scaled.specs.Glue.{negated_glue}
use Rattle.tb_node.specs.declared.Node.{Node}
use Rattle.tb_node.specs.declared.Kind.{Kind}
use Rattle.tb_node.specs.declared.Kind.TheVariants as kinds
use Rattle.tb_node.specs.declared.What.TheVariants as what
use Rattle.tb_node.specs.declared.Where.{Where}
use Rattle.tb_node.specs.declared.Where.TheVariants as places
use Rattle.tb_node.specs.declared.Float.{Float}
use Rattle.tb_node.specs.declared.RuleOf.{RuleOf}
use Rattle.tb_node.specs.declared.RuleOf.TheVariants.{Floats}
use Rattle.tb_param.specs.declared.Rule.{Rule}
use Rattle.tb_param.specs.declared.Params.{Params}
use Rattle.tb_column.specs.declared.float_columns.PageGlue.{PageGlue}
use Rattle.tb_column.specs.Column.{is_no_glue, float_depth}

-- a node that is made here has line 0
abbrev pub made_node : Kind → Node
made_node k = record { line = 0; kind = k }

-- the box of a float at a place
abbrev pub float_box : Where → Float → Node
float_box place f = made_node (kinds.Hbox (what.Float f.name f.class place f.line) f.height (float_depth f))

-- glue of a parameter, unless it is no glue
abbrev pub glue_list : Glue → List Node
glue_list g = if is_no_glue g then [] else made_node (kinds.Skip g) ∷ []

-- a rule of a parameter between its kerns, or nothing
abbrev pub rule_list : RuleOf → Option Rule → List Node
rule_list of None = []
rule_list of (Some r) = made_node (kinds.Kern r.above) ∷ made_node (kinds.Rule of r.height (pos 0)) ∷ made_node (kinds.Kern r.below) ∷ []

-- each float followed by glue
abbrev pub boxes_with : Where → Glue → List Float → List Node
boxes_with place sep [] = []
boxes_with place sep (f ∷ fs) = float_box place f ∷ made_node (kinds.Skip sep) ∷ boxes_with place sep fs

-- floats above the text: the rule and the separator from the text replace the last separator
abbrev pub boxes_above : Where → Glue → Option Rule → Glue → List Float → List Node
boxes_above place sep across last [] = []
boxes_above place sep across last (f ∷ fs) = boxes_with place sep (f ∷ fs) ++ (made_node (kinds.Skip (negated_glue sep)) ∷ rule_list Floats across) ++ made_node (kinds.Skip last) ∷ []

-- floats below the text, under the separator from it and the rule
abbrev pub boxes_below : Where → Glue → Option Rule → Glue → List Float → List Node
boxes_below place sep across first [] = []
boxes_below place sep across first (f ∷ fs) = (made_node (kinds.Skip first) ∷ rule_list Floats across) ++ boxes_with place sep (f ∷ fs) ++ made_node (kinds.Skip (negated_glue sep)) ∷ []

-- each float after glue
abbrev pub boxes_after : Glue → List Float → List Node
boxes_after sep [] = []
boxes_after sep (f ∷ fs) = made_node (kinds.Skip sep) ∷ float_box places.Page f ∷ boxes_after sep fs

-- a column of floats alone, with this glue above, between and below
abbrev pub page_list : PageGlue → List Float → List Node
page_list g fs =
    made_node (kinds.Skip g.above) ∷ made_node (kinds.Skip (negated_glue g.between)) ∷ boxes_after g.between fs ++ made_node (kinds.Skip g.below) ∷ []

-- the glue of a page of wide floats, and of a column of single ones
abbrev pub page_glue : Bool → Params → PageGlue
page_glue true p = record { above = p.dblfptop; between = p.dblfpsep; below = p.dblfpbot }
page_glue false p = record { above = p.fptop; between = p.fpsep; below = p.fpbot }
