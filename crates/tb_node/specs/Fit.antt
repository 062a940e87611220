-- When the sums of a list fit: what a call requires of a list that it adds up.
use Rattle.std.specs.Prelude.{◌≡◌, ℕ, ◌≤◌, ℤ, pos, neg_ℤ, ◌≤ℤ◌, List, ◌∷◌, ◌++◌, length, map, All}
use Rattle.tb_pool.specs.Lists.{Lists, list_at}
use Rattle.tb_scaled.specs.Scaled.{max_dimen}
use Rattle.tb_node.specs.declared.Node.{Node}
use Rattle.tb_node.specs.Shape.{Shape, box, glue, kern, penalty, other}
use Rattle.tb_node.specs.PlainNodes.{shape_of, PlainNode, node_shape, Leaf, leaf_shape}
use Rattle.tb_node.specs.Sums.{sums_of}
use Rattle.tb_node.specs.SmallAmounts.{IsSmall, IsSmallShape}

-- the shapes of a list of the store
abbrev pub shapes : Lists Node → ℕ → List Shape
shapes store l = map shape_of (list_at store l)

-- the amounts of each node fit
abbrev pub NodesFit : List Shape → Type 0
NodesFit ns = (before : List Shape) (n : Shape) (rest : List Shape) → before ++ n ∷ rest ≡ ns → IsSmallShape n

-- the sums of each prefix fit
abbrev pub SumsFit : ℤ → List Shape → Type 0
SumsFit limit ns = (before rest : List Shape) → before ++ rest ≡ ns → IsSmall (sums_of limit before)

-- a dimension: at most the greatest one in absolute value
pub record IsDimension (z : ℤ) : Type 0 where
  pub low : neg_ℤ max_dimen ≤ℤ z
  pub high : z ≤ℤ max_dimen

-- a height or a depth: a dimension that is not below 0
pub record IsExtent (z : ℤ) : Type 0 where
  pub low : pos 0 ≤ℤ z
  pub high : z ≤ℤ max_dimen

-- a penalty: at most 2^30 in absolute value
pub record IsPenalty (p : ℤ) : Type 0 where
  pub low : neg_ℤ (pos 1073741824) ≤ℤ p
  pub high : p ≤ℤ pos 1073741824

-- each amount of a node is in the range of its kind
abbrev pub IsSized : Shape → Type 0
IsSized (box h d) = IsExtent h × IsExtent d
IsSized (glue g) = IsDimension g.width × IsDimension g.stretch × IsDimension g.shrink
IsSized (kern w) = IsDimension w
IsSized (penalty p) = IsPenalty p
IsSized other = Unit {0}

-- the same of a node of the store
abbrev pub IsSizedNode : Node → Type 0
IsSizedNode n = IsSized (shape_of n)

-- the same of a plain node
abbrev pub IsSizedPlain : PlainNode → Type 0
IsSizedPlain n = IsSized (node_shape n)

-- the same of a node of an insertion's list
abbrev pub IsSizedLeaf : Leaf → Type 0
IsSizedLeaf n = IsSized (leaf_shape n)

-- a list that can be summed: each node is sized, and there are at most 2^23
pub record IsSummable (ns : List Shape) : Type 0 where
  pub sized : All IsSized ns
  pub few : length ns ≤ 8388608
