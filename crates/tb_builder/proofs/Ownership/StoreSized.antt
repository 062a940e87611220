-- Sized nodes of a store as the definitions see them, and back.
use Rattle.std.proofs.Common.{◌≡◌, refl, ℕ, ◌≤◌, true, List, [], ◌∷◌, length, map, arith}
use Rattle.std.specs.Prelude.{All}
use Rattle.std.specs.List.{AllByRecursion}
use Rattle.std.proofs.lemmas.List.Elements.{All-from_recursion, recursion_from_All}
use Rattle.tb_pool.specs.Lists.{Lists, list_at}
use Rattle.tb_node.specs.declared.Node.{Node}
use Rattle.tb_node.specs.declared.Kind.{Kind}
use Rattle.tb_node.specs.declared.Kind.TheVariants as kinds
use Rattle.tb_node.specs.Fit.{IsSized, IsSizedNode, IsSizedLeaf}
use Rattle.tb_node.specs.PlainNodes.{matter_shape, matter_of, leaf_of, plain_kind, plain_of, shape_of_kind, kind_shape, plain_list}
use Rattle.tb_builder.specs.declared.ClassList.{ClassList}
use Rattle.tb_builder.specs.Contents.{boxed_of, kind_count, node_count}
use Rattle.tb_builder.specs.Ownership.{is_plain, AllPlain}
use Rattle.tb_builder.specs.Pageable.{IsSizedOnPage}
use Rattle.tb_builder.specs.SizedContents.{AreBoxesOf}
use Rattle.tb_builder.proofs.Events.WholeLemmas.{IsMatterKind, AreMatter}

-- ---- nodes of an insertion's list, or of a class box

leaf_sized : (k : Kind) → IsSized (shape_of_kind k) → IsSized (matter_shape (matter_of k))
leaf_sized (kinds.Hbox what h d) s = s
leaf_sized k s = s

leaves_by : (ns : List Node) → AllByRecursion IsSizedNode ns → AllByRecursion IsSizedLeaf (map leaf_of ns)
leaves_by [] h = tt
leaves_by (n ∷ ns) h = (leaf_sized n.kind h.0, leaves_by ns h.1)

-- the nodes of a list of the store
pub leaves-sized : (ns : List Node) → All IsSizedNode ns → All IsSizedLeaf (map leaf_of ns)
leaves-sized ns h = All-from_recursion IsSizedLeaf (map leaf_of ns) (leaves_by ns (recursion_from_All IsSizedNode ns h))

sized_leaf : (k : Kind) → IsSized (matter_shape (matter_of k)) → IsSized (shape_of_kind k)
sized_leaf (kinds.Hbox what h d) s = s
sized_leaf k s = s

leaves_back : (ns : List Node) → AllByRecursion IsSizedLeaf (map leaf_of ns) → AllByRecursion IsSizedNode ns
leaves_back [] h = tt
leaves_back (n ∷ ns) h = (sized_leaf n.kind h.0, leaves_back ns h.1)

-- the nodes that a class box had are sized
pub leaves-back : (ns : List Node) → All IsSizedLeaf (map leaf_of ns) → All IsSizedNode ns
leaves-back ns h = All-from_recursion IsSizedNode ns (leaves_back ns (recursion_from_All IsSizedLeaf (map leaf_of ns) h))

-- ---- nodes of a page

module _ (held : ℕ → List Node) where
  kind_back : (k : Kind) → IsSized (kind_shape (plain_kind held k)) → IsSized (shape_of_kind k)
  kind_back (kinds.Ins i) s = tt
  kind_back (kinds.Act a) s = tt
  kind_back k s = s

  nodes_back : (ns : List Node) → AllByRecursion IsSizedOnPage (map (plain_of held) ns) → AllByRecursion IsSizedNode ns
  nodes_back [] h = tt
  nodes_back (n ∷ ns) h = (kind_back n.kind h.0.shape, nodes_back ns h.1)

  counted : (k : Kind) → 1 ≤ kind_count (plain_kind held k)
  counted (kinds.Hbox what h d) = omega arith
  counted k = omega arith

  length_by : (ns : List Node) → length ns ≤ node_count (map (plain_of held) ns)
  length_by [] = omega arith
  length_by (n ∷ ns) = let h = length_by ns in let k = counted n.kind in omega (arith, h, k)

-- a list that the definitions see as sized has sized nodes
pub list-back : (store : Lists Node) (l : ℕ) → All IsSizedOnPage (plain_list store l) → All IsSizedNode (list_at store l)
list-back store l h = All-from_recursion IsSizedNode (list_at store l) (nodes_back (list_at store) (list_at store l) (recursion_from_All IsSizedOnPage (plain_list store l) h))

-- and it has at most as many as are counted
pub list-length : (store : Lists Node) (l : ℕ) → length (list_at store l) ≤ node_count (plain_list store l)
list-length store l = length_by (list_at store) (list_at store l)

-- if the definitions see neither insertions nor acts, the store's nodes are neither
module _ (held : ℕ → List Node) where
  kind_plain : (k : Kind) → IsMatterKind (plain_kind held k) → is_plain k ≡ true
  kind_plain (kinds.Ins i) m = absurd m
  kind_plain (kinds.Act a) m = absurd m
  kind_plain k m = refl

  pub matter-plain : (ns : List Node) → AreMatter (map (plain_of held) ns) → AllPlain ns
  matter-plain [] m = tt
  matter-plain (n ∷ ns) m = (kind_plain n.kind m.0, matter-plain ns m.1)

-- each class of a builder has its box
pub boxes_of : (s : Lists Node) (es : List ClassList) → AreBoxesOf (map (λ e. e.class) es) (map (boxed_of s) es)
boxes_of s [] = tt
boxes_of s (e ∷ es) = (refl, boxes_of s es)
