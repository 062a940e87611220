-- The legal places of a page so far (TeX: The Program §1000).
use Rattle.std.specs.Prelude.{◌≡◌, ℤ, Bool, false, List, [], ◌∷◌, ◌++◌, map, Option, None}
use Rattle.tb_node.specs.Shape.{Shape}
use Rattle.tb_node.specs.PlainNodes.{PlainKind, plain, ins, act, PlainNode, node_shape, without_acts, is_act_kind}
use Rattle.tb_break.specs.Places.{ends_lasting, begins_with_glue}
use Rattle.tb_break.specs.Best.{Breakpoint, is_stop}
use Rattle.tb_break.specs.Split.{with_place}
use Rattle.tb_break.specs.SplitPlace.{penalty_by}
use Rattle.tb_insert.specs.Terms.{Terms}
use Rattle.tb_builder.specs.Reach.{page_place}

-- what sums and breaks see of the nodes
abbrev pub page_shapes : List PlainNode → List Shape
page_shapes ns = map node_shape ns

-- glue comes first in the list, acts aside
abbrev pub glue_first : List PlainNode → Bool
glue_first ns = begins_with_glue (page_shapes (without_acts ns))

-- glue comes first in the list; for an empty list this is given
abbrev pub glue_or : Bool → List PlainNode → Bool
glue_or glue_next [] = glue_next
glue_or glue_next (n ∷ ns) = begins_with_glue (node_shape n ∷ [])

-- the penalty of the place before a node of a page
abbrev pub kind_penalty_by : Bool → Bool → PlainNode → PlainKind → Option ℤ
kind_penalty_by lasting glue_next n (plain m) = penalty_by lasting glue_next (node_shape n)
kind_penalty_by lasting glue_next n (ins i) = None
kind_penalty_by lasting glue_next n (act a) = None

-- the same by the kind that the node has
abbrev pub node_penalty : Bool → Bool → PlainNode → Option ℤ
node_penalty lasting glue_next n = kind_penalty_by lasting glue_next n n.kind

-- the legal places of a page without acts, by whether the waiting nodes begin with glue
abbrev pub page_places : ℤ → (List PlainNode → Terms) → List PlainNode → List PlainNode → Bool → List Breakpoint
page_places limit terms before [] glue_next = []
page_places limit terms before (n ∷ rest) glue_next =
    with_place (node_penalty (ends_lasting (page_shapes before)) (glue_or glue_next rest) n) (page_place limit terms before) (page_places limit terms (before ++ n ∷ []) rest glue_next)

-- none of them is a stop
abbrev pub NoStop : List Breakpoint → Type 0
NoStop [] = Unit {0}
NoStop (b ∷ bs) = (is_stop b ≡ false) × NoStop bs

-- no act is on a page
abbrev pub NoActs : List PlainNode → Type 0
NoActs [] = Unit {0}
NoActs (n ∷ ns) = (is_act_kind n.kind ≡ false) × NoActs ns
