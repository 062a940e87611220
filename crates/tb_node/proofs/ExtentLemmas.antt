-- A walk of a list that finds the room that it takes and its depth.
use Rattle.std.proofs.Common.{◌≡◌, refl, ◌∙◌, ap, ℕ, ◌*◌, ◌≤◌, ℤ, pos, ◌+ℤ◌, List, [], ◌∷◌, length, arith}
use Rattle.std.proofs.lemmas.Int.{ints}
use Rattle.std.proofs.lemmas.List.Elements.{All-tail}
use Rattle.tb_node.specs.Shape.{Shape}
use Rattle.tb_node.specs.Sums.{size_of, room_of, depth_from, depth_after, last_depth}
use Rattle.tb_node.specs.SmallAmounts.{IsAmount}
use Rattle.tb_node.specs.Fit.{IsSized, IsSummable}
use Rattle.tb_node.proofs.FitLemmas.{IsWithin, size_within}

-- the room and the depth are those of the nodes before these, which are left of the list
pub record Extending (ns : List Shape) (room depth : ℤ) (rest : List Shape) : Type 0 where
  pub size : room +ℤ size_of rest ≡ size_of ns
  pub deep : depth_from depth rest ≡ last_depth ns
  pub left : IsSummable rest

so_far : (j k : ℕ) (room rest whole : ℤ) → j ≤ 8388608 → k ≤ 8388608 → room +ℤ rest ≡ whole → IsWithin (2147483646 * j) rest → IsWithin (2147483646 * k) whole → IsAmount room
so_far j k room rest whole few fewer e r w = record { low = omega (arith, ints, few, fewer, e, r.low, w.high, r.high, w.low); high = omega (arith, ints, few, fewer, e, r.low, w.high, r.high, w.low) }

module _ (ns : List Shape) where
  pub extent-begins : IsSummable ns → Extending ns (pos 0) (pos 0) ns
  extent-begins can = record { size = omega (arith, ints); deep = refl; left = can }

  module _ (room depth : ℤ) where
    pub extent-small : (rest : List Shape) → IsSummable ns → Extending ns room depth rest → IsAmount room
    extent-small rest can w = so_far (length rest) (length ns) room (size_of rest) (size_of ns) w.left.few can.few w.size (size_within rest w.left.sized) (size_within ns can.sized)

    pub extent-goes_on : (n : Shape) (rest : List Shape) (room' depth' : ℤ) → room' ≡ room +ℤ room_of n → depth' ≡ depth_after depth n → Extending ns room depth (n ∷ rest) → Extending ns room' depth' rest
    extent-goes_on n rest room' depth' r d w =
        let few = w.left.few in
        record {
          size = more room (room_of n) (size_of rest) (size_of ns) room' r w.size;
          deep = ap (λ z. depth_from z rest) d ∙ w.deep;
          left = record { sized = All-tail IsSized n rest w.left.sized; few = omega (arith, few) };
        }
      where
        more : (s r t whole s' : ℤ) → s' ≡ s +ℤ r → s +ℤ (r +ℤ t) ≡ whole → s' +ℤ t ≡ whole
        more s r t whole s' e h = omega (arith, ints, e, h)

    pub extent-room : Extending ns room depth [] → room ≡ size_of ns
    extent-room w = let size = w.size in omega (arith, ints, size)

    pub extent-depth : Extending ns room depth [] → depth ≡ last_depth ns
    extent-depth w = w.deep
