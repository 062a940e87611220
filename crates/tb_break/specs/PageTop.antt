-- What is at the top of a page (TeX: The Program §968): glue, kerns and penalties vanish there, and the top glue comes
-- before the first box.
use Rattle.std.specs.Prelude.{ℤ, pos, ◌-ℤ◌, List, [], ◌∷◌}
use Rattle.tb_scaled.specs.declared.Glue.{Glue}
use Rattle.tb_scaled.specs.Scaled.{max_ℤ}
use Rattle.tb_scaled.specs.Glue.{fixed_glue}
use Rattle.tb_node.specs.Shape.{Shape, box, glue, kern, penalty, other}
use Rattle.tb_node.specs.declared.Node.{Node}
use Rattle.tb_node.specs.declared.Kind.TheVariants as kinds
use Rattle.tb_node.specs.PlainNodes.{Leaf, leaf_shape, PlainNode, node_shape, shape_of, skip, plain}

-- the glue before a box of height h, which puts the box's reference point at least the top skip down
abbrev pub top_glue : ℤ → ℤ → Glue
top_glue top_skip h = fixed_glue (max_ℤ (top_skip -ℤ h) (pos 0))

-- the list that begins with n, of this shape, if the rest is pruned to this; new makes a node of glue, with the line of a node
abbrev pub pruned_at : {N : Type 0} → (N → Glue → N) → ℤ → Shape → N → List N → List N → List N
pruned_at new top_skip (box h d) n ns pruned = new n (top_glue top_skip h) ∷ n ∷ ns
pruned_at new top_skip (glue g) n ns pruned = pruned
pruned_at new top_skip (kern w) n ns pruned = pruned
pruned_at new top_skip (penalty p) n ns pruned = pruned
pruned_at new top_skip other n ns pruned = n ∷ pruned

-- the nodes before the first box that do not vanish, the top glue, and the list from the first box on
abbrev pub pruned_by : {N : Type 0} → (N → Shape) → (N → Glue → N) → ℤ → List N → List N
pruned_by shape new top_skip [] = []
pruned_by shape new top_skip (n ∷ ns) = pruned_at new top_skip (shape n) n ns (pruned_by shape new top_skip ns)

-- an insertion's list, pruned
abbrev pub pruned_leaves : ℤ → List Leaf → List Leaf
pruned_leaves top_skip ns = pruned_by leaf_shape (λ n g. record { line = n.line; matter = skip g }) top_skip ns

-- a page's list, pruned
abbrev pub pruned_nodes : ℤ → List PlainNode → List PlainNode
pruned_nodes top_skip ns = pruned_by node_shape (λ n g. record { line = n.line; kind = plain (skip g) }) top_skip ns

-- ---- the nodes that a store holds

-- a node of glue, with the line of the node that it comes before
abbrev pub glue_before : Node → Glue → Node
glue_before n g = record { line = n.line; kind = kinds.Skip g }

-- a list of a store, pruned
abbrev pub pruned_list : ℤ → List Node → List Node
pruned_list top_skip ns = pruned_by shape_of glue_before top_skip ns
