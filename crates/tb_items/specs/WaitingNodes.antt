-- What waits at a page builder when nodes were handed to it.
use Rattle.std.specs.Prelude.{◌≡◌, false, ℕ, ℤ, pos, Bool, true, List, [], ◌∷◌, ◌++◌, ◌≤◌, map, length, All, if◌then◌else◌}
use Rattle.std.specs.FinMap.{get}
use Rattle.tb_pool.specs.Lists.{Lists, IsLive}
use Rattle.tb_node.specs.declared.RuleOf.TheVariants as rules
use Rattle.tb_node.specs.declared.What.TheVariants.{Text, Blank}
use Rattle.tb_node.specs.declared.Kind.{Kind}
use Rattle.tb_node.specs.declared.Kind.TheVariants as kinds
use Rattle.tb_node.specs.declared.Node.{Node}
use Rattle.tb_node.specs.Fit.{IsDimension, IsSizedNode}
use Rattle.tb_node.specs.PlainNodes.{PlainNode, plain_of}
use Rattle.tb_insert.specs.declared.Class.{Class}
use Rattle.tb_galley.specs.declared.Leaf.{Leaf}
use Rattle.tb_galley.specs.declared.LeafKind.{LeafKind}
use Rattle.tb_galley.specs.declared.LeafKind.TheVariants as leaves
use Rattle.tb_galley.specs.declared.Item.{Item}
use Rattle.tb_galley.specs.declared.ItemKind.{ItemKind}
use Rattle.tb_galley.specs.declared.ItemKind.TheVariants as items
use Rattle.tb_galley.specs.GalleyNodes.{back_glue}
use Rattle.tb_builder.specs.declared.Builder.{Builder}
use Rattle.tb_builder.specs.Contents.{contents_of}
use Rattle.tb_builder.specs.Ownership.{Lacks, has_class, ids_of, owned}
use Rattle.tb_builder.specs.Courses.{IsSound}
use Rattle.tb_builder.specs.Contributions.{ends_in_kern}

-- the builder's page does not end with a kern, so that any node may wait
pub record CanTake (b : Builder) (s : Lists Node) : Type 0 where
  pub sound : IsSound b s
  pub no_kern : ends_in_kern (contents_of b s).page ≡ false

-- these nodes wait behind those that waited; lists that were not the builder's are as they were, and still not its own
pub record Waits (ns : List PlainNode) (b : Builder) (s : Lists Node) (d : Builder) (t : Lists Node) : Type 0 where
  pub sound : IsSound d t
  pub contents : contents_of d t ≡ record (contents_of b s) { waiting = (contents_of b s).waiting ++ ns }
  pub others : (q : ℕ) → IsLive s q → Lacks q (owned (ids_of b) s) → get t.lists q ≡ get s.lists q
  pub apart : (q : ℕ) → IsLive s q → Lacks q (owned (ids_of b) s) → Lacks q (owned (ids_of d) t)

-- a node that is no insertion, as the definitions see it
abbrev pub lone : ℕ → Kind → PlainNode
lone line kind = plain_of (λ l. []) (record { line = line; kind = kind })

-- ---- footnotes

-- the node of the store that a box, rule, glue, kern or penalty is
abbrev pub leaf_kind : LeafKind → Kind
leaf_kind (leaves.Hbox name h d) = kinds.Hbox (Text name) h d
leaf_kind (leaves.Rule name h d) = kinds.Rule (rules.Item name) h d
leaf_kind (leaves.Skip g) = kinds.Skip g
leaf_kind (leaves.Kern w) = kinds.Kern w
leaf_kind (leaves.Penalty q) = kinds.Pen q

-- the node of the store that a leaf is
abbrev pub leaf_node : Leaf → Node
leaf_node l = record { line = l.line; kind = leaf_kind l.kind }

-- the nodes of a footnote in order
abbrev pub leaf_list : List Leaf → List Node
leaf_list ls = map (λ l. record { line = l.line; kind = leaf_kind l.kind }) ls

-- ---- a page that is made higher

-- the list of its insertion: glue that goes back, and before it a blank box if the contents are to be shrunk
abbrev pub enlarging_list : ℤ → Bool → List Node
enlarging_list by star = (if star then record { line = 0; kind = kinds.Hbox Blank (pos 0) (pos 0) } ∷ [] else []) ++ record { line = 0; kind = kinds.Skip (back_glue by) } ∷ []

-- ---- items

-- the class of a footnote is one of these, and its nodes are sized and not too many; the class of a page that is made higher is one of these, and the amount is a dimension
abbrev pub IsItem : List Class → ItemKind → Type 0
IsItem cs (items.Foot class ls) = (has_class cs class ≡ true) × All IsSizedNode (leaf_list ls) × (length (leaf_list ls) ≤ 8388608)
IsItem cs (items.Enlarge by star) = (has_class cs 255 ≡ true) × IsDimension by
IsItem cs _ = Unit {0}

-- the same of each item
abbrev pub AreItems : List Class → List Item → Type 0
AreItems cs = All (λ n. IsItem cs n.kind)
