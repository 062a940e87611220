-- The items of a valid galley can be handed over.
use Rattle.std.proofs.Common.{◌≡◌, refl, ℕ, ◌≤◌, Bool, true, false, List, [], ◌∷◌, ◌++◌, map, arith}
use Rattle.std.specs.Cmp.{first_so, second_so}
use Rattle.std.specs.Prelude.{All, IsTrue, ◌||◌, ◌==◌, nat_le}
use Rattle.std.specs.List.{list_all, list_any}
use Rattle.std.proofs.lemmas.Bool.Decides.{nat_tests}
use Rattle.std.proofs.lemmas.List.{length-map}
use Rattle.std.proofs.lemmas.List.Elements.{All-nil, All-cons}
use Rattle.tb_node.specs.declared.Node.{Node}
use Rattle.tb_node.specs.Fit.{IsSizedNode}
use Rattle.tb_param.specs.declared.Params.{Params}
use Rattle.tb_builder.specs.Ownership.{has_class}
use Rattle.tb_galley.specs.declared.ClassLine.{ClassLine}
use Rattle.tb_galley.specs.declared.Leaf.{Leaf}
use Rattle.tb_galley.specs.declared.LeafKind.{LeafKind}
use Rattle.tb_galley.specs.declared.LeafKind.TheVariants as leaves
use Rattle.tb_galley.specs.declared.Item.{Item}
use Rattle.tb_galley.specs.declared.ItemKind.{ItemKind}
use Rattle.tb_galley.specs.declared.ItemKind.TheVariants as items
use Rattle.tb_galley.specs.declared.Galley.{Galley}
use Rattle.tb_galley.specs.Fields.{is_class_among}
use Rattle.tb_galley.specs.Valid.{is_leaf, is_item, weight_of, weight, has_known_class, IsValid}
use Rattle.tb_items.specs.Classes.{foot_class, enlarging_class, class_of, classes_of}
use Rattle.tb_items.specs.WaitingNodes.{leaf_kind, leaf_list, IsItem, AreItems}
use Rattle.tb_column.proofs.RangeLemmas.{dimension}
use Rattle.tb_items.proofs.ItemAmounts.{both-extents, glue-sized, penalty-served}

-- ---- footnotes

leaf-node-sized : (l : Leaf) → IsTrue (is_leaf l.kind) → IsSizedNode (record { line = l.line; kind = leaf_kind l.kind })
leaf-node-sized l v = by_kind l.kind v
  where
    by_kind : (k : LeafKind) → IsTrue (is_leaf k) → IsSizedNode (record { line = l.line; kind = leaf_kind k })
    by_kind (leaves.Hbox name h d) v = both-extents _ h d v
    by_kind (leaves.Rule name h d) v = both-extents _ h d v
    by_kind (leaves.Skip g) v = glue-sized g v
    by_kind (leaves.Kern w) v = dimension w v
    by_kind (leaves.Penalty q) v = (penalty-served q v).sized

nodes-sized : (ls : List Leaf) → IsTrue (list_all (λ (l : Leaf). is_leaf l.kind) ls) → All IsSizedNode (leaf_list ls)
nodes-sized [] v = All-nil IsSizedNode
nodes-sized (l ∷ ls) v =
    All-cons IsSizedNode _ (leaf_list ls) (leaf-node-sized l (first_so (is_leaf l.kind) (list_all (λ (m : Leaf). is_leaf m.kind) ls) v))
    (nodes-sized ls (second_so (is_leaf l.kind) (list_all (λ (m : Leaf). is_leaf m.kind) ls) v))

-- ---- classes

abbrev numbers : List ClassLine → List ℕ
numbers cs = map (λ (c : ClassLine). c.number) cs

last-known : (n : ℕ) → IsTrue ((n == 254) || false) → ((254 == n) || ((255 == n) || false)) ≡ true
last-known n h = grind (arith, nat_tests, h)

passed-by : (a b r s : Bool) → (IsTrue (a || r) → s ≡ true) → IsTrue (a || (b || r)) → (b || s) ≡ true
passed-by a true r s later h = refl
passed-by a false r s later h = later h

-- a class that a galley declares, or that of the footnotes, is one of its classes
class-known : (p : Params) (cs : List ClassLine) (n : ℕ) → IsTrue (is_class_among (numbers cs) n) → has_class (map class_of cs ++ foot_class p ∷ enlarging_class ∷ []) n ≡ true
class-known p [] n h = last-known n h
class-known p (c ∷ cs) n h = passed-by (n == 254) (c.number == n) (list_any (λ k. k == n) (numbers cs)) (has_class (map class_of cs ++ foot_class p ∷ enlarging_class ∷ []) n) (class-known p cs n) h

-- that of what makes a page higher is one of them
enlarging-known : (p : Params) (cs : List ClassLine) → has_class (map class_of cs ++ foot_class p ∷ enlarging_class ∷ []) 255 ≡ true
enlarging-known p [] = refl
enlarging-known p (c ∷ cs) = later (c.number == 255) (has_class (map class_of cs ++ foot_class p ∷ enlarging_class ∷ []) 255) (enlarging-known p cs)
  where
    later : (b s : Bool) → s ≡ true → (b || s) ≡ true
    later true s h = refl
    later false s h = h

-- ---- items

-- a number that passes the test of the most lines
pub most : (n : ℕ) → IsTrue (nat_le n 100000) → n ≤ 100000
most n h = grind (arith, nat_tests, h)

module _ (g : Galley) where
  one-item : (l : ℕ) (k : ItemKind) → IsTrue (is_item l k) → IsTrue (has_known_class (numbers g.classes) k) → weight_of k ≤ 100000 → IsItem (classes_of g) k
  one-item l (items.Foot class ls) v known w = (class-known g.params g.classes class known, nodes-sized ls v, let e = length-map {B = Node} ls (λ (x : Leaf). record { line = x.line; kind = leaf_kind x.kind }) in omega (arith, e, w))
  one-item l (items.Enlarge by star) v known w = (enlarging-known g.params g.classes, dimension by v)
  one-item l k v known w = tt

  abbrev known_item : Item → Bool
  known_item n = has_known_class (numbers g.classes) n.kind

  all-items : (ns : List Item) → IsTrue (list_all (λ (n : Item). is_item n.line n.kind) ns) → IsTrue (list_all known_item ns) → weight ns ≤ 100000 → AreItems (classes_of g) ns
  all-items [] v known w = All-nil (λ (n : Item). IsItem (classes_of g) n.kind)
  all-items (n ∷ ns) v known w =
      All-cons (λ (m : Item). IsItem (classes_of g) m.kind) n ns
      (one-item n.line n.kind (first_so (is_item n.line n.kind) _ v) (first_so (known_item n) _ known) (omega (arith, w)))
      (all-items ns (second_so (is_item n.line n.kind) _ v) (second_so (known_item n) _ known) (omega (arith, w)))

  pub galley-items : IsValid g → AreItems (classes_of g) g.items
  galley-items v = all-items g.items v.items v.feet (most (weight g.items) v.count)
