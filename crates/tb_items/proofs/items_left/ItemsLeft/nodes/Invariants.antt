use Rattle.std.proofs.Common.{◌≡◌, ◌+◌, drop}
use Rattle.tb_galley.specs.GalleyNodes.{item_nodes}
use Rattle.tb_builder.specs.Contents.{node_count}
use Rattle.tb_items.specs.ItemsLeft.{nodes_of}
use Rattle.tb_items.proofs.items_left.ItemsLeft.nodes.Given as goal

-- with the nodes of the items from here on they are all
abbrev pub invariant-loop-item : goal.invariant-loop-item
invariant-loop-item l = l.count + node_count (item_nodes l.fn.self.params l.two (drop l.item-index l.fn.self.items.now)) ≡ node_count (nodes_of l.fn.self)
