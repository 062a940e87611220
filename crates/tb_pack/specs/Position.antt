-- A walk of a set list, node by node.
use Rattle.std.specs.Prelude.{◌≡◌, ℤ, pos, ◌+ℤ◌, List}
use Rattle.tb_scaled.specs.declared.Order.{Order}
use Rattle.tb_node.specs.Shape.{Shape}
use Rattle.tb_node.specs.Sums.{room_of, size_of, stretch_of, shrink_of}
use Rattle.tb_pack.specs.declared.Sign.{Sign}
use Rattle.tb_pack.specs.declared.Sign.TheVariants as signs
use Rattle.tb_pack.specs.declared.Set.{Set}
use Rattle.tb_pack.specs.Pack.{at_of, glue_by_sign}

-- how far a walk has come: the set, and the natural size and the glue of the nodes that it has passed
pub record Walked : Type 0 where
  pub set : Set
  pub natural : ℤ
  pub glue : ℤ

-- the part of a node's glue that is set
abbrev pub glue_of : Sign → Order → Shape → ℤ
glue_of signs.None o n = pos 0
glue_of signs.Stretch o n = stretch_of o n
glue_of signs.Shrink o n = shrink_of n

-- the walk past one node more
abbrev pub walked_past : Walked → Shape → Walked
walked_past w n = record w { natural = w.natural +ℤ room_of n; glue = w.glue +ℤ glue_of w.set.sign w.set.order n }

-- the top of the next node
abbrev pub top_of : Walked → ℤ
top_of w = at_of w.set w.natural w.glue

-- the walk of the set list has passed these nodes
pub record HasPassed (w : Walked) (s : Set) (before : List Shape) : Type 0 where
  pub same_set : w.set ≡ s
  pub natural : w.natural ≡ size_of before
  pub glue : w.glue ≡ glue_by_sign s.sign s.order before
