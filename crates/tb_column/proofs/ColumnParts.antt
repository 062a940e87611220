-- What holds of the beginning of a text column, and still holds with footnotes or bottom floats below, holds of both orders.
use Rattle.std.proofs.Common.{Bool, true, false, List, [], ◌∷◌, ◌++◌}
use Rattle.std.specs.Prelude.{if◌then◌else◌}
use Rattle.std.specs.List.{AllByRecursion}
use Rattle.tb_node.specs.PlainNodes.{PlainNode}
use Rattle.tb_param.specs.declared.Params.{Params}
use Rattle.tb_float.specs.Lists.{FloatLists}
use Rattle.tb_column.specs.declared.Standing.{Standing}
use Rattle.tb_column.specs.declared.Standing.TheVariants as standings
use Rattle.tb_column.specs.Column.{Notes, standing_of, is_at, is_below, notes_at, notes_among, with_feet, with_bottoms, with_below}

pub below-has : (p : Params) (l : FloatLists) (notes : List Notes) (P : List PlainNode → Type 0) (ns : List PlainNode)
    → ((ms : List PlainNode) → P ms → P (with_feet p l notes ms)) → ((ms : List PlainNode) → P ms → P (with_bottoms p l ms)) → P ns → P (with_below p l notes ns)
below-has p l notes P ns feet bottoms h = by_place (is_below p.footplace)
  where
    by_place : (b : Bool) → P (if b then with_feet p l notes (with_bottoms p l ns) else with_bottoms p l (with_feet p l notes ns))
    by_place true = feet (with_bottoms p l ns) (bottoms ns h)
    by_place false = bottoms (with_feet p l notes ns) (feet ns h)

-- what holds of the insertions of each class holds of those that stand somewhere
at-have : (P : Notes → Type 0) (s : Standing) (ns : List Notes) → AllByRecursion P ns → AllByRecursion P (notes_at s ns)
at-have P s [] h = tt
at-have P s (n ∷ ns) h = by_test (is_at s (standing_of n.class n.below)) (at-have P s ns h.1)
  where
    by_test : (b : Bool) → AllByRecursion P (notes_at s ns) → AllByRecursion P (if b then n ∷ notes_at s ns else notes_at s ns)
    by_test true k = (h.0, k)
    by_test false k = k

-- and of those of footnotes with what stands below them, and of those above them
pub among-have : (P : Notes → Type 0) (feet : Bool) (ns : List Notes) → AllByRecursion P ns → AllByRecursion P (notes_among feet ns)
among-have P true ns h = both (notes_at standings.Feet ns) (notes_at standings.Below ns) (at-have P standings.Feet ns h) (at-have P standings.Below ns h)
  where
    both : (xs ys : List Notes) → AllByRecursion P xs → AllByRecursion P ys → AllByRecursion P (xs ++ ys)
    both [] ys h k = k
    both (x ∷ xs) ys h k = (h.0, both xs ys h.1 k)
among-have P false ns h = at-have P standings.Above ns h
