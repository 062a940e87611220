-- A float is taken: it goes into the text, or becomes an insertion at the top of a page or a page of its own.
use Rattle.std.specs.Prelude.{ℤ, pos, negsuc, ◌+ℤ◌, ◌-ℤ◌, ◌||◌, List, [], ◌∷◌, map, int_lt, if◌then◌else◌, None}
use Rattle.tb_scaled.specs.Glue.{fixed_glue}
use Rattle.tb_scaled.specs.Scaled.{max_dimen}
use Rattle.tb_node.specs.declared.Act.{Act}
use Rattle.tb_node.specs.declared.Act.TheVariants as acts
use Rattle.tb_node.specs.declared.What.TheVariants as what
use Rattle.tb_node.specs.declared.Where.{Where}
use Rattle.tb_node.specs.declared.Where.TheVariants as places
use Rattle.tb_node.specs.declared.Float.{Float}
use Rattle.tb_node.specs.PlainNodes.{Matter, hbox, skip, pen, Leaf, leaf_shape, ins, PlainNode, made}
use Rattle.tb_node.specs.Sums.{size_of}
use Rattle.tb_param.specs.declared.Params.{Params}
use Rattle.tb_insert.specs.declared.Class.{Class}
use Rattle.tb_builder.specs.declared.PageSums.{PageSums}

-- the class of floats that go to the top of a page
abbrev pub top_class : Class
top_class = record { number = 253; factor = pos 1000; limit = max_dimen; below = None; skip = fixed_glue (pos 0) }

-- the box of a float at a place, of this height
abbrev pub float_matter : Where → Float → ℤ → Matter
float_matter place f height = hbox (what.Float f.name f.class place f.line) height (pos 0)

-- a node that the routine makes, in an insertion's list
abbrev pub made_leaf : Matter → Leaf
made_leaf m = record { line = 0; matter = m }

-- an insertion of the class of top floats
abbrev pub top_insertion : List Leaf → PlainNode
top_insertion inner = record {
  line = 0;
  kind = ins (record {
    class = 253;
    inner = inner;
    height = size_of (map leaf_shape inner);
    split_depth = max_dimen;
    split_top = pos 0;
    floating = pos 0;
  });
}

-- a float at the top of a page, with glue below
abbrev pub top_leaves : Params → Float → List Leaf
top_leaves p f = made_leaf (pen (pos 100)) ∷ made_leaf (float_matter places.Top f f.height) ∷ made_leaf (pen (pos 10000)) ∷ made_leaf (skip p.intextsep) ∷ []

-- a float that has a page of its own, as high as the text
abbrev pub page_leaves : Params → Float → List Leaf
page_leaves p f = made_leaf (pen (pos 100)) ∷ made_leaf (float_matter places.Page f p.textheight) ∷ []

-- a float in the text, between glue
abbrev pub here_nodes : Params → Float → List PlainNode
here_nodes p f =
    made (skip p.intextsep) ∷ made (float_matter places.Here f f.height) ∷ made (pen (negsuc 199)) ∷ made (skip p.intextsep) ∷ []

-- what the page would come to with the float and the glue above it
abbrev pub with_float : Params → PageSums → Float → ℤ
with_float p s f = f.height +ℤ p.intextsep.width +ℤ s.total -ℤ s.shrink

-- what a float puts before all that waits, if the page so far has these sums: h asks for the text, and the top if it does
-- not fit there; else t or b ask for the top, and p alone for a page
abbrev pub taken_nodes : Params → PageSums → Float → List PlainNode
taken_nodes p s f =
    let top = top_insertion (top_leaves p f) ∷ [] in
    let here = if int_lt s.goal (with_float p s f) then top else here_nodes p f in
    let beside = if f.places.t || f.places.b then top else top_insertion (page_leaves p f) ∷ [] in
    if f.places.h then here else beside

-- what an act puts before all that waits: a float is served; the others are not, a title among them, which would be put as a float
abbrev pub act_nodes : Params → PageSums → Act → List PlainNode
act_nodes p s (acts.Take f) = taken_nodes p s f
act_nodes p s (acts.TakeMargin m) = []
act_nodes p s (acts.Suppress area) = []
act_nodes p s (acts.Page n) = []
act_nodes p s (acts.Set c) = []
act_nodes p s (acts.Head f) = taken_nodes p s f
act_nodes p s (acts.Columns two) = []
