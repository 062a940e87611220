-- Lists of at most 2^23 nodes, each amount of which is in the range of its kind, have sums that fit.
use Rattle.std.proofs.Common.{◌≡◌, ap, sym, subst, ℕ, suc, ◌*◌, ◌≤◌, ℤ, pos, neg_ℤ, ◌+ℤ◌, ◌-ℤ◌, ◌≤ℤ◌, List, [], ◌∷◌, ◌++◌, length, map, length-append, append-nil, arith}
use Rattle.std.specs.Prelude.{All}
use Rattle.std.proofs.lemmas.Int.{ints}
use Rattle.std.proofs.lemmas.List.{length-map}
use Rattle.std.proofs.lemmas.List.Elements.{All-nil, All-cons, All-head, All-tail, All-map}
use Rattle.tb_pool.specs.Lists.{Lists, list_at}
use Rattle.tb_scaled.specs.declared.Order.{Order}
use Rattle.tb_scaled.specs.declared.Order.TheVariants.{Normal, Fil, Fill, Filll}
use Rattle.tb_scaled.specs.Scaled.{min_ℤ}
use Rattle.tb_node.specs.declared.Node.{Node}
use Rattle.tb_node.specs.PlainNodes.{shape_of}
use Rattle.tb_node.specs.Shape.{Shape, box, glue, kern, penalty, other}
use Rattle.tb_node.specs.Sums.{room_of, depth_after, size_of, depth_from, last_depth, amount_at, stretch_of, list_stretch, shrink_of, list_shrink, limited_depth, sums_of}
use Rattle.tb_node.specs.SmallAmounts.{IsAmount, IsSmall, IsSmallShape}
use Rattle.tb_node.specs.Fit.{shapes, NodesFit, SumsFit, IsDimension, IsExtent, IsPenalty, IsSized, IsSizedNode, IsSummable}

-- at most b in absolute value
pub record IsWithin (b : ℕ) (z : ℤ) : Type 0 where
  pub low : neg_ℤ (pos b) ≤ℤ z
  pub high : z ≤ℤ pos b

pub dimension_small : (z : ℤ) → IsDimension z → IsAmount z
dimension_small z h = record { low = omega (arith, ints); high = omega (arith, ints) }

pub extent_small : (z : ℤ) → IsExtent z → IsAmount z
extent_small z h = record { low = omega (arith, ints); high = omega (arith, ints) }

penalty_small : (z : ℤ) → IsPenalty z → IsAmount z
penalty_small z h = record { low = omega (arith, ints); high = omega (arith, ints) }

both_small : (h d : ℤ) → IsExtent h → IsExtent d → IsAmount (h +ℤ d)
both_small h d p q = record { low = omega (arith, ints); high = omega (arith, ints) }

-- the amounts of a sized node fit
pub sized-fits : (n : Shape) → IsSized n → IsSmallShape n
sized-fits (box h d) s = (extent_small h s.0, extent_small d s.1, both_small h d s.0 s.1)
sized-fits (glue g) s = (dimension_small g.width s.0, dimension_small g.stretch s.1, dimension_small g.shrink s.2)
sized-fits (kern w) s = dimension_small w s
sized-fits (penalty p) s = penalty_small p s
sized-fits other s = tt

-- a node in the middle of a list of sized nodes
sized_inside : (before : List Shape) (n : Shape) (rest : List Shape) → All IsSized (before ++ n ∷ rest) → IsSized n
sized_inside [] n rest h = All-head IsSized n rest h
sized_inside (m ∷ ms) n rest h = sized_inside ms n rest (All-tail IsSized m (ms ++ n ∷ rest) h)

sized_front : (before rest : List Shape) → All IsSized (before ++ rest) → All IsSized before
sized_front [] rest h = All-nil IsSized
sized_front (m ∷ ms) rest h = All-cons IsSized m ms (All-head IsSized m (ms ++ rest) h) (sized_front ms rest (All-tail IsSized m (ms ++ rest) h))

-- the amounts of each node of such a list fit
pub nodes_fit : (ns : List Shape) → All IsSized ns → NodesFit ns
nodes_fit ns h before n rest e = sized-fits n (sized_inside before n rest (subst (All IsSized) (sym e) h))

room_within : (n : Shape) → IsSized n → IsWithin 2147483646 (room_of n)
room_within (box h d) s = record { low = omega (arith, ints); high = omega (arith, ints) }
room_within n s = record { low = omega (arith, ints); high = omega (arith, ints) }

amount_within : (o o' : Order) (z : ℤ) → IsDimension z → IsWithin 1073741823 (amount_at o o' z)
amount_within Normal Normal z h = record { low = omega (arith, ints); high = omega (arith, ints) }
amount_within Fil Fil z h = record { low = omega (arith, ints); high = omega (arith, ints) }
amount_within Fill Fill z h = record { low = omega (arith, ints); high = omega (arith, ints) }
amount_within Filll Filll z h = record { low = omega (arith, ints); high = omega (arith, ints) }
amount_within _ _ z h = record { low = omega (arith, ints); high = omega (arith, ints) }

nothing_within : IsWithin 1073741823 (pos 0)
nothing_within = record { low = omega (arith, ints); high = omega (arith, ints) }

stretch_within : (o : Order) (n : Shape) → IsSized n → IsWithin 1073741823 (stretch_of o n)
stretch_within o (glue g) s = amount_within o g.order g.stretch s.1
stretch_within o n s = nothing_within

shrink_within : (n : Shape) → IsSized n → IsWithin 1073741823 (shrink_of n)
shrink_within (glue g) s = record { low = omega (arith, ints); high = omega (arith, ints) }
shrink_within n s = nothing_within

-- a sum of one more amount
more_within : (b k : ℕ) (x y : ℤ) → IsWithin b x → IsWithin (b * k) y → IsWithin (b * suc k) (x +ℤ y)
more_within b k x y p q = record { low = omega (arith, ints); high = omega (arith, ints) }

-- the room of a list is at most its length times the greatest room of a node
pub size_within : (ns : List Shape) → All IsSized ns → IsWithin (2147483646 * length ns) (size_of ns)
size_within [] h = record { low = omega (arith, ints); high = omega (arith, ints) }
size_within (n ∷ ns) h = more_within 2147483646 (length ns) (room_of n) (size_of ns) (room_within n (All-head IsSized n ns h)) (size_within ns (All-tail IsSized n ns h))

pub list_stretch_within : (o : Order) (ns : List Shape) → All IsSized ns → IsWithin (1073741823 * length ns) (list_stretch o ns)
list_stretch_within o [] h = record { low = omega (arith, ints); high = omega (arith, ints) }
list_stretch_within o (n ∷ ns) h = more_within 1073741823 (length ns) (stretch_of o n) (list_stretch o ns) (stretch_within o n (All-head IsSized n ns h)) (list_stretch_within o ns (All-tail IsSized n ns h))

pub list_shrink_within : (ns : List Shape) → All IsSized ns → IsWithin (1073741823 * length ns) (list_shrink ns)
list_shrink_within [] h = record { low = omega (arith, ints); high = omega (arith, ints) }
list_shrink_within (n ∷ ns) h = more_within 1073741823 (length ns) (shrink_of n) (list_shrink ns) (shrink_within n (All-head IsSized n ns h)) (list_shrink_within ns (All-tail IsSized n ns h))

depth_extent : (d : ℤ) (n : Shape) → IsExtent d → IsSized n → IsExtent (depth_after d n)
depth_extent d (box h e) p s = s.1
depth_extent d (glue g) p s = record { low = omega (arith, ints); high = omega (arith, ints) }
depth_extent d (kern w) p s = record { low = omega (arith, ints); high = omega (arith, ints) }
depth_extent d (penalty q) p s = p
depth_extent d other p s = p

depth_from_extent : (d : ℤ) (ns : List Shape) → IsExtent d → All IsSized ns → IsExtent (depth_from d ns)
depth_from_extent d [] p h = p
depth_from_extent d (n ∷ ns) p h = depth_from_extent (depth_after d n) ns (depth_extent d n p (All-head IsSized n ns h)) (All-tail IsSized n ns h)

-- the depth at the end of such a list is in the range of a depth
pub last_depth_extent : (ns : List Shape) → All IsSized ns → IsExtent (last_depth ns)
last_depth_extent ns h = depth_from_extent (pos 0) ns (record { low = omega (arith, ints); high = omega (arith, ints) }) h

-- so is the depth up to a limit that is not below 0
pub limited_extent : (limit d : ℤ) → pos 0 ≤ℤ limit → IsExtent d → IsExtent (min_ℤ d limit)
limited_extent limit d l p = record { low = grind (arith, ints); high = grind (arith, ints) }

pub total_small : (k : ℕ) (size depth : ℤ) → k ≤ 8388608 → IsWithin (2147483646 * k) size → IsExtent depth → IsAmount (size -ℤ depth)
total_small k size depth few s d = record { low = omega (arith, ints); high = omega (arith, ints) }

sum_small : (k : ℕ) (z : ℤ) → k ≤ 8388608 → IsWithin (1073741823 * k) z → IsAmount z
sum_small k z few h = record { low = omega (arith, ints); high = omega (arith, ints) }

-- the sums of such a list fit
pub summed-fits : (limit : ℤ) (ns : List Shape) → pos 0 ≤ℤ limit → IsSummable ns → IsSmall (sums_of limit ns)
summed-fits limit ns low h =
    let depth : IsExtent (limited_depth limit ns) = limited_extent limit (last_depth ns) low (last_depth_extent ns h.sized) in
    let stretch : (o : Order) → IsAmount (list_stretch o ns) = λ o. sum_small (length ns) (list_stretch o ns) h.few (list_stretch_within o ns h.sized) in
    record {
      total = total_small (length ns) (size_of ns) (limited_depth limit ns) h.few (size_within ns h.sized) depth;
      depth = extent_small (limited_depth limit ns) depth;
      stretch = (stretch Normal, (stretch Fil, (stretch Fill, (stretch Filll, tt))));
      shrink = sum_small (length ns) (list_shrink ns) h.few (list_shrink_within ns h.sized);
    }

front_shorter : (before rest ns : List Shape) → before ++ rest ≡ ns → length before ≤ length ns
front_shorter before rest ns e = omega (arith, length-append before rest, ap length e)

-- the sums of each prefix of such a list fit, under each limit that is not below 0
pub sums_fit : (limit : ℤ) (ns : List Shape) → pos 0 ≤ℤ limit → IsSummable ns → SumsFit limit ns
sums_fit limit ns low h before rest e =
    let shorter : length before ≤ length ns = front_shorter before rest ns e in
    summed-fits limit before low (record { sized = sized_front before rest (subst (All IsSized) (sym e) h.sized); few = omega (arith, shorter, h.few) })

-- the shapes of a list of the store can be summed
pub summable : (ns : List Node) → All IsSizedNode ns → length ns ≤ 8388608 → IsSummable (map shape_of ns)
summable ns h few = record { sized = All-map IsSized shape_of ns h; few = omega (arith, few, length-map {B = Shape} ns) }

-- what a caller of `list_sums` or of a vertical split must show of a list whose nodes are sized
pub list_nodes_fit : (store : Lists Node) (l : ℕ) → All IsSizedNode (list_at store l) → NodesFit (shapes store l)
list_nodes_fit store l h = nodes_fit (shapes store l) (All-map IsSized shape_of (list_at store l) h)

pub list_sums_fit : (store : Lists Node) (l : ℕ) (limit : ℤ) → pos 0 ≤ℤ limit → All IsSizedNode (list_at store l) → length (list_at store l) ≤ 8388608 → SumsFit limit (shapes store l)
list_sums_fit store l limit low h few = sums_fit limit (shapes store l) low (summable (list_at store l) h few)

pub ruleset list_fits = (list_nodes_fit, list_sums_fit)

-- the sums of the whole of a list are those of a prefix
pub whole_fits : (limit : ℤ) (ns : List Shape) → SumsFit limit ns → IsSmall (sums_of limit ns)
whole_fits limit ns h = h ns [] (append-nil ns)
