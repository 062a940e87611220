-- The items of a galley whose nodes do not wait yet, under the page makeup.
use Rattle.std.specs.Prelude.{◌≡◌, ℕ, ◌+◌, ◌<◌, false, List, [], ◌++◌, length, Option, Some, None}
use Rattle.tb_pool.specs.Lists.{Lists}
use Rattle.tb_node.specs.declared.Node.{Node}
use Rattle.tb_node.specs.PlainNodes.{PlainNode, on_line}
use Rattle.tb_insert.specs.declared.Class.{Class}
use Rattle.tb_builder.specs.declared.Builder.{Builder}
use Rattle.tb_items.specs.WaitingNodes.{Waits, AreItems}
use Rattle.tb_items.specs.ItemsLeft.{kern_last}
use Rattle.tb_plain.specs.GalleyNodes.{clearing_kinds, makeup_nodes}
use Rattle.tb_makeup.specs.declared.makeup_left.MakeupLeft.{MakeupLeft}

-- the nodes of the items that are left, and those of a clear
abbrev pub nodes_of : MakeupLeft → List PlainNode
nodes_of l = makeup_nodes l.galley.now.params l.items.now ++ on_line l.galley.now.end_line clearing_kinds

-- the same; none if nothing is left
abbrev pub nodes_left : Option MakeupLeft → List PlainNode
nodes_left None = []
nodes_left (Some l) = nodes_of l

-- the items that are left can be handed to a builder with these classes
abbrev pub AreItemsLeft : List Class → Option MakeupLeft → Type 0
AreItemsLeft cs None = Unit {0}
AreItemsLeft cs (Some l) = AreItems cs l.items.now

-- the items that are left and the clear, each counted once
abbrev pub pieces_left : Option MakeupLeft → ℕ
pieces_left None = 0
pieces_left (Some l) = length l.items.now + 1

-- if anything is left, the nodes before do not end with a kern, acts aside: whether a kern is a legal place never depends on what is left
abbrev pub IsOpen : Option MakeupLeft → List PlainNode → Type 0
IsOpen None ns = Unit {0}
IsOpen (Some l) ns = kern_last false ns ≡ false

-- the nodes of some of the items wait behind those that waited; what is left then is the rest
pub record IsHandedOver (l : MakeupLeft) (rest : Option MakeupLeft) (b : Builder) (s : Lists Node) (d : Builder) (t : Lists Node) : Type 0 where
  pub nodes : List PlainNode
  pub waits : Waits nodes b s d t
  pub all : nodes ++ nodes_left rest ≡ nodes_of l
  pub ends : IsOpen rest nodes
  pub items : (cs : List Class) → AreItems cs l.items.now → AreItemsLeft cs rest
  pub fewer : pieces_left rest < pieces_left (Some l)
