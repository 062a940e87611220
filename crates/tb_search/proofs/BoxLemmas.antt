-- Whether a list has a box or rule.
use Rattle.std.proofs.Common.{◌≡◌, refl, sym, ℕ, Bool, ◌||◌, List, [], ◌∷◌, map}
use Rattle.std.specs.List.{list_any}
use Rattle.tb_node.specs.Shape.{is_box}
use Rattle.tb_node.specs.declared.Kind.{Kind}
use Rattle.tb_node.specs.declared.Kind.TheVariants as kinds
use Rattle.tb_node.specs.declared.Node.{Node}
use Rattle.tb_node.specs.PlainNodes.{plain_of, node_shape, shape_of}
use Rattle.tb_builder.specs.Reach.{holds_box}

-- one of these nodes of a store is a box or rule
abbrev pub has_box : List Node → Bool
has_box ns = list_any (λ n. is_box (shape_of n)) ns

shape-same : (held : ℕ → List Node) (l : ℕ) (k : Kind) → node_shape (plain_of held (record { line = l; kind = k })) ≡ shape_of (record { line = l; kind = k })
shape-same held l (kinds.Hbox what h d) = refl
shape-same held l k = refl

-- the same of the list as the definitions see it
pub boxes-shown : (held : ℕ → List Node) (ns : List Node) → has_box ns ≡ holds_box (map (plain_of held) ns)
boxes-shown held [] = refl
boxes-shown held (n ∷ ns) = λ i. is_box (sym (shape-same held n.line n.kind) i) || boxes-shown held ns i
