-- The room of a list that was pruned, which may be wider than an amount.
use Rattle.std.specs.Prelude.{◌≡◌, ℤ, pos, neg_ℤ, ◌<ℤ◌, List, ◌∷◌, ◌++◌}
use Rattle.tb_node.specs.Shape.{Shape}
use Rattle.tb_node.specs.Sums.{room_of, size_of}
use Rattle.tb_builder.specs.PageEvents.{IsRoom}

-- below 2^62 in absolute value
pub record IsWide (z : ℤ) : Type 0 where
  pub low : neg_ℤ (pos 4611686018427387904) <ℤ z
  pub high : z <ℤ pos 4611686018427387904

-- the room of each node, and of each prefix
pub record RoomFits (ns : List Shape) : Type 0 where
  pub each : (before : List Shape) (n : Shape) (rest : List Shape) → before ++ n ∷ rest ≡ ns → IsRoom (room_of n)
  pub prefixes : (before rest : List Shape) → before ++ rest ≡ ns → IsWide (size_of before)
