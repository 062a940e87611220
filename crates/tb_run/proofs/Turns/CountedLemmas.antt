-- The nodes that are held, against the limit on them.
use Rattle.std.proofs.Common.{◌≡◌, refl, sym, subst, ap, ℕ, ◌+◌, ◌≤◌, ℤ, pos, true, false, List, [], ◌∷◌, length, map, None, Some, arith}
use Rattle.std.specs.Prelude.{All, int_lt, min, if◌then◌else◌}
use Rattle.std.specs.List.{AllByRecursion}
use Rattle.std.proofs.lemmas.Int.{ints}
use Rattle.std.proofs.lemmas.List.Elements.{recursion_from_All}
use Rattle.tb_pool.specs.Lists.{list_at}
use Rattle.tb_node.specs.declared.Kind.{Kind}
use Rattle.tb_node.specs.declared.Kind.TheVariants as kinds
use Rattle.tb_node.specs.declared.Node.{Node}
use Rattle.tb_node.specs.Fit.{IsSizedNode, IsSizedPlain}
use Rattle.tb_node.specs.PlainNodes.{plain_of, plain_kind, plain_list}
use Rattle.tb_param.specs.declared.Params.{Params}
use Rattle.tb_builder.specs.Contents.{contents_count, kind_count, node_count, box_count}
use Rattle.tb_builder.proofs.Ranges.PageableLemmas.{count-append}
use Rattle.tb_items.specs.ItemsLeft.{nodes_left}
use Rattle.tb_column.specs.Page.{is_leaf_kind, AreLeaves}
use Rattle.tb_run.specs.declared.routine.Routine.{Routine}
use Rattle.tb_run.specs.declared.routine.Ending.TheVariants as endings
use Rattle.tb_steps.specs.Run.{held_count}
use Rattle.tb_run.specs.Routine.{built_in, state_of, IsConsistent, IsBounded, over_limit}

-- ---- a list of a page

leaf-one : (held : ℕ → List Node) (k : Kind) → is_leaf_kind k → kind_count (plain_kind held k) ≡ 1
leaf-one held (kinds.Ins i) l = absurd l
leaf-one held (kinds.Act a) l = absurd l
leaf-one held k l = refl

-- its nodes count as one each
pub leaves-count : (held : ℕ → List Node) (ns : List Node) → AreLeaves ns → node_count (map (plain_of held) ns) ≡ length ns
leaves-count held [] h = refl
leaves-count held (n ∷ ns) h = let a = leaf-one held n.kind h.0 in let b = leaves-count held ns h.1 in omega (arith, a, b)

kind-sized : (held : ℕ → List Node) (l : ℕ) (k : Kind) → IsSizedNode (record { line = l; kind = k }) → IsSizedPlain (plain_of held (record { line = l; kind = k }))
kind-sized held l (kinds.Hbox what h d) s = s
kind-sized held l k s = s

shown-by : (held : ℕ → List Node) (ns : List Node) → AllByRecursion IsSizedNode ns → AllByRecursion IsSizedPlain (map (plain_of held) ns)
shown-by held [] h = tt
shown-by held (n ∷ ns) h = (kind-sized held n.line n.kind h.0, shown-by held ns h.1)

-- what a store shows of sized nodes is sized
pub shown-sized : (held : ℕ → List Node) (ns : List Node) → All IsSizedNode ns → AllByRecursion IsSizedPlain (map (plain_of held) ns)
shown-sized held ns h = shown-by held ns (recursion_from_All IsSizedNode ns h)

-- ---- the limit

not-over : (z : ℤ) (a b : ℕ) → a ≤ b → int_lt z (pos b) ≡ false → int_lt z (pos a) ≡ false
not-over z a b less e = grind (arith, ints, less, e)

small-min : (x : ℕ) → x ≤ 8388608 → min x 18446744073709551615 ≡ x
small-min x h = grind (arith, h)

-- a number that is not over the limit
pub none-over : (p : Params) (a b : ℕ) → a ≤ b → int_lt p.maxnodes (pos b) ≡ false → None ≡ over_limit p a
none-over p a b less e = sym (ap (λ t. if t then Some (endings.NodeLimit a) else None) (not-over p.maxnodes a b less e))

-- a number that is over it
pub some-over : (p : Params) (a b : ℕ) → b ≡ a → int_lt p.maxnodes (pos b) ≡ true → Some (endings.NodeLimit b) ≡ over_limit p a
some-over p a b same e = subst (λ n. Some (endings.NodeLimit b) ≡ over_limit p n) same (sym (ap (λ t. if t then Some (endings.NodeLimit b) else None) e))

-- the nodes that wait, those of the items that are left, those of the held page and those of boxes
counted-so : (r : Routine) → held_count (state_of r) ≡ node_count (built_in r).waiting + node_count (nodes_left r.left) + node_count (plain_list r.store r.machine.held_page) + box_count (built_in r).boxes
counted-so r = ap (λ n. n + node_count (plain_list r.store r.machine.held_page) + box_count (built_in r).boxes) (count-append (built_in r).waiting (nodes_left r.left))

-- those of the items that are left are not too many
pub left-few : (r : Routine) → IsBounded 8388608 r → node_count (nodes_left r.left) ≤ 8388608
left-few r bounded = by_number (node_count (built_in r).waiting) (node_count (nodes_left r.left)) (box_count (built_in r).boxes) (node_count (plain_list r.store r.machine.held_page)) (held_count (state_of r)) (counted-so r) bounded.held bounded.few
  where
    by_number : (w z b h all : ℕ) → all ≡ w + z + h + b → all ≤ r.most → r.most ≤ 8388608 → z ≤ 8388608
    by_number w z b h all is at few = omega (arith, is, at, few)

-- the nodes that are counted are those that are held
pub counted-all : (r : Routine) → IsConsistent r → IsBounded 8388608 r → (nodes held left : ℕ) → nodes ≡ contents_count (built_in r) → held ≡ length (list_at r.store r.machine.held_page) → left ≡ node_count (nodes_left r.left)
    → nodes + held + left ≡ held_count (state_of r)
counted-all r whole bounded nodes held left e f g =
    by_number (node_count (built_in r).waiting) (node_count (nodes_left r.left)) (box_count (built_in r).boxes) (node_count (plain_list r.store r.machine.held_page)) (held_count (state_of r)) (counted-so r)
    (leaves-count (list_at r.store) (list_at r.store r.machine.held_page) whole.machine.held_page.leaves) e f g bounded.held
    bounded.few
  where
    by_number : (w z b h all : ℕ) → all ≡ w + z + h + b → h ≡ length (list_at r.store r.machine.held_page) → nodes ≡ min (w + b) 18446744073709551615 → held ≡ length (list_at r.store r.machine.held_page) → left ≡ z → all ≤ r.most → r.most ≤ 8388608 → nodes + held + left ≡ all
    by_number w z b h all sum long void is rest at few = let m = small-min (w + b) (omega (arith, sum, at, few)) in omega (arith, sum, m, long, void, is, rest, at)

-- what is counted fits
pub counted-fits : (r : Routine) → IsConsistent r → IsBounded 8388608 r → (nodes held left : ℕ) → nodes ≡ contents_count (built_in r) → held ≡ length (list_at r.store r.machine.held_page) → left ≡ node_count (nodes_left r.left)
    → nodes + held + left ≤ 8388608
counted-fits r whole bounded nodes held left e f g = let same = counted-all r whole bounded nodes held left e f g in let a = bounded.held in let b = bounded.few in by_number (held_count (state_of r)) same a b
  where
    by_number : (all : ℕ) → nodes + held + left ≡ all → all ≤ r.most → r.most ≤ 8388608 → nodes + held + left ≤ 8388608
    by_number all same a b = omega (arith, same, a, b)

-- and so do those that wait, those in boxes, and those of the held page
pub counted-few : (r : Routine) → IsConsistent r → IsBounded 8388608 r → (nodes held : ℕ) → nodes ≡ contents_count (built_in r) → held ≡ length (list_at r.store r.machine.held_page) → nodes + held ≤ 8388608
counted-few r whole bounded nodes held e f = let a = counted-fits r whole bounded nodes held (node_count (nodes_left r.left)) e f refl in by_number (node_count (nodes_left r.left)) a
  where
    by_number : (z : ℕ) → nodes + held + z ≤ 8388608 → nodes + held ≤ 8388608
    by_number z a = omega (arith, a)
