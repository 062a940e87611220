-- The items of a galley whose nodes do not wait yet, and what comes behind the nodes that do.
use Rattle.std.specs.Prelude.{◌≡◌, ℕ, ◌+◌, ◌<◌, Bool, true, false, List, [], ◌∷◌, ◌++◌, map, length, Option, Some, None}
use Rattle.tb_pool.specs.Lists.{Lists}
use Rattle.tb_node.specs.declared.Node.{Node}
use Rattle.tb_node.specs.PlainNodes.{PlainNode, node_shape, without_acts, on_line, clearpage_kinds}
use Rattle.tb_break.specs.Places.{last_or}
use Rattle.tb_param.specs.declared.Params.{Params}
use Rattle.tb_insert.specs.declared.Class.{Class}
use Rattle.tb_galley.specs.declared.Item.{Item}
use Rattle.tb_galley.specs.declared.ItemKind.{ItemKind}
use Rattle.tb_galley.specs.declared.ItemKind.TheVariants as items
use Rattle.tb_galley.specs.declared.Galley.{Galley}
use Rattle.tb_galley.specs.GalleyNodes.{item_kinds, item_nodes, two_after, params_after}
use Rattle.tb_builder.specs.declared.Builder.{Builder}
use Rattle.tb_builder.specs.Contents.{Contents}
use Rattle.tb_builder.specs.Contributions.{is_kern}
use Rattle.tb_items.specs.declared.items_left.ItemsLeft.{ItemsLeft}
use Rattle.tb_items.specs.WaitingNodes.{Waits, AreItems}

-- ---- what is left

-- the nodes of the items that are left, from the parameters and the columns that hold before them, and those of a clear
abbrev pub nodes_of : ItemsLeft → List PlainNode
nodes_of l = item_nodes l.params l.two l.items.now ++ on_line l.galley.now.end_line clearpage_kinds

-- the same; none if nothing is left
abbrev pub nodes_left : Option ItemsLeft → List PlainNode
nodes_left None = []
nodes_left (Some l) = nodes_of l

-- the items that are left can be handed to a builder with these classes
abbrev pub AreItemsLeft : List Class → Option ItemsLeft → Type 0
AreItemsLeft cs None = Unit {0}
AreItemsLeft cs (Some l) = AreItems cs l.items.now

-- the items that are left and the clear, each counted once
abbrev pub pieces_left : Option ItemsLeft → ℕ
pieces_left None = 0
pieces_left (Some l) = length l.items.now + 1

-- ---- what waits before them

-- the same contents with more nodes behind those that wait
abbrev pub with_more : List PlainNode → Contents → Contents
with_more more c = record c { waiting = c.waiting ++ more }

-- whether the last node of a list, acts aside, is a kern; for acts alone this is given
abbrev pub kern_last : Bool → List PlainNode → Bool
kern_last given ns = last_or given (map (λ n. is_kern (node_shape n)) (without_acts ns))

-- if anything is left, the nodes before do not end with a kern, acts aside: whether a kern is a legal place never depends on what is left
abbrev pub IsOpen : Option ItemsLeft → List PlainNode → Type 0
IsOpen None ns = Unit {0}
IsOpen (Some l) ns = kern_last false ns ≡ false

-- the nodes of such an item end neither with a kern nor with acts alone
abbrev pub ends_batch : ItemKind → Bool
ends_batch (items.Hbox name h d) = true
ends_batch (items.Rule name h d) = true
ends_batch (items.Skip g) = true
ends_batch (items.Kern w) = false
ends_batch (items.Penalty n) = true
ends_batch (items.Mark name) = true
ends_batch (items.Note name) = true
ends_batch (items.Foot class foot) = true
ends_batch (items.Float f vert) = false
ends_batch (items.Margin m vert) = true
ends_batch items.NewPage = true
ends_batch items.ClearPage = true
ends_batch (items.PageBreak n) = true
ends_batch (items.NoPageBreak n) = true
ends_batch items.OneColumn = true
ends_batch items.TwoColumn = true
ends_batch (items.Suppress area) = false
ends_batch (items.Page n) = false
ends_batch (items.Head f) = false
ends_batch (items.Enlarge by star) = true
ends_batch (items.Set c) = false

-- the last of the items is such an item
abbrev pub are_ended : List Item → Bool
are_ended ns = last_or false (map (λ n. ends_batch n.kind) ns)

-- ---- the next of them are handed over

-- the nodes of some of the items wait behind those that waited; what is left then is the rest
pub record IsHandedOver (l : ItemsLeft) (rest : Option ItemsLeft) (b : Builder) (s : Lists Node) (d : Builder) (t : Lists Node) : Type 0 where
  pub nodes : List PlainNode
  pub waits : Waits nodes b s d t
  pub all : nodes ++ nodes_left rest ≡ nodes_of l
  pub ends : IsOpen rest nodes
  pub items : (cs : List Class) → AreItems cs l.items.now → AreItemsLeft cs rest
  pub fewer : pieces_left rest < pieces_left (Some l)

-- ---- the next one is handed over

-- the nodes of the first of these items, by the parameters and the columns that hold before it; those of the clear if there is none
abbrev pub first_nodes : Galley → Params → Bool → List Item → List PlainNode
first_nodes g p two [] = on_line g.end_line clearpage_kinds
first_nodes g p two (n ∷ ns) = on_line n.line (item_kinds p two n.kind)

-- the nodes of the next item; those of the clear if no item is left
abbrev pub next_nodes : ItemsLeft → List PlainNode
next_nodes l = first_nodes l.galley.now l.params l.two l.items.now

-- the items of these after this one are left
pub record IsPastItem (l r : ItemsLeft) (n : Item) : Type 0 where
  pub galley : r.galley ≡ l.galley
  pub items : l.items.now ≡ n ∷ r.items.now
  pub params : r.params ≡ params_after l.params n.kind
  pub two : r.two ≡ two_after l.two n.kind

-- what is left after the next item; nothing after the clear
abbrev pub IsPastNext : ItemsLeft → Option ItemsLeft → Type 0
IsPastNext l None = l.items.now ≡ []
IsPastNext l (Some r) = (n : Item) × IsPastItem l r n

-- the nodes of the next item wait behind those that waited; what is left then is the rest
pub record IsHandedNext (l : ItemsLeft) (rest : Option ItemsLeft) (b : Builder) (s : Lists Node) (d : Builder) (t : Lists Node) : Type 0 where
  pub waits : Waits (next_nodes l) b s d t
  pub past : IsPastNext l rest
  pub all : next_nodes l ++ nodes_left rest ≡ nodes_of l
  pub items : (cs : List Class) → AreItems cs l.items.now → AreItemsLeft cs rest
