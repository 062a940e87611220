-- The room of a list, node by node.
use Rattle.std.proofs.Common.{◌≡◌, sym, subst, ◌∙◌, ap, ℤ, ◌+ℤ◌, List, [], ◌∷◌, ◌++◌, map, append_assoc, arith}
use Rattle.std.proofs.lemmas.List.{map-append}
use Rattle.std.proofs.lemmas.Int.{ints}
use Rattle.tb_node.specs.declared.Node.{Node}
use Rattle.tb_node.specs.Shape.{Shape}
use Rattle.tb_node.specs.PlainNodes.{shape_of}
use Rattle.tb_node.specs.SmallAmounts.{IsAmount}
use Rattle.tb_node.specs.Sums.{room_of, size_of}
use Rattle.tb_node.proofs.AddLemmas.{size-append}
use Rattle.tb_builder.specs.PageEvents.{SizesFit, IsRoom}
use Rattle.tb_builder.specs.Sizes.{IsWide, RoomFits}

-- the total is the room of what comes before the rest of a list
pub record Sized (all rest : List Node) (total : ℤ) : Type 0 where
  pub before : List Node
  pub whole : before ++ rest ≡ all
  pub total_is : total ≡ size_of (map shape_of before)

module _ (all : List Node) (n : Node) (rest : List Node) (total : ℤ) (s : Sized all (n ∷ rest) total) where
  with_it : size_of (map shape_of (s.before ++ n ∷ [])) ≡ size_of (map shape_of s.before) +ℤ room_of (shape_of n)
  with_it = ap size_of (map-append shape_of s.before (n ∷ [])) ∙ size-append (map shape_of s.before) (shape_of n)

  pub sized_room : RoomFits (map shape_of all) → IsRoom (room_of (shape_of n))
  sized_room fit = fit.each (map shape_of s.before) (shape_of n) (map shape_of rest) (sym (map-append shape_of s.before (n ∷ rest)) ∙ ap (map shape_of) s.whole)

  pub sized_sum : RoomFits (map shape_of all) → IsWide (total +ℤ room_of (shape_of n))
  sized_sum fit =
      subst IsWide (with_it ∙ ap (λ t. t +ℤ room_of (shape_of n)) (sym s.total_is))
      (fit.prefixes (map shape_of (s.before ++ n ∷ [])) (map shape_of rest) (sym (map-append shape_of (s.before ++ n ∷ []) rest) ∙ ap (map shape_of) (append_assoc s.before (n ∷ []) rest ∙ s.whole)))

  pub sized_next : Sized all rest (total +ℤ room_of (shape_of n))
  sized_next = record {
    before = s.before ++ n ∷ [];
    whole = append_assoc s.before (n ∷ []) rest ∙ s.whole;
    total_is = ap (λ t. t +ℤ room_of (shape_of n)) s.total_is ∙ sym with_it;
  }

-- ---- lists whose prefixes are all amounts

apart : (a r b : ℤ) → IsAmount a → IsAmount b → b ≡ a +ℤ r → IsRoom r
apart a r b p q e = record { low = omega (arith, ints); high = omega (arith, ints) }

amount_wide : (z : ℤ) → IsAmount z → IsWide z
amount_wide z h = record { low = omega (arith, ints); high = omega (arith, ints) }

-- if each prefix is an amount, the room of each node fits
pub room_fits : (ns : List Shape) → SizesFit ns → RoomFits ns
room_fits ns fit = record {
  each = λ before n rest e.
      apart (size_of before) (room_of n) (size_of (before ++ n ∷ []))
      (fit before (n ∷ rest) e)
      (fit (before ++ n ∷ []) rest (append_assoc before (n ∷ []) rest ∙ e))
      (size-append before n);
  prefixes = λ before rest e. amount_wide (size_of before) (fit before rest e);
}
