use Rattle.std.proofs.Common.{◌≡◌, ◌+◌, drop}
use Rattle.tb_builder.specs.Contents.{node_count}
use Rattle.tb_plain.specs.GalleyNodes.{makeup_nodes}
use Rattle.tb_makeup.specs.MakeupLeft.{nodes_of}
use Rattle.tb_makeup.proofs.makeup_left.MakeupLeft.nodes.Given as goal

-- with the nodes of the items from here on they are all
abbrev pub invariant-loop-item : goal.invariant-loop-item
invariant-loop-item l = l.count + node_count (makeup_nodes l.fn.self.galley.now.params (drop l.item-index l.fn.self.items.now)) ≡ node_count (nodes_of l.fn.self)
