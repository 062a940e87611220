use Rattle.std.proofs.Common.{take}
use Rattle.tb_plain.specs.GalleyNodes.{makeup_nodes}
use Rattle.tb_items.specs.WaitingNodes.{Waits}
use Rattle.tb_makeup.proofs.galley_nodes.put_items.Given as goal

-- the nodes of the items before wait
abbrev pub invariant-loop-item : goal.invariant-loop-item
invariant-loop-item l = Waits (makeup_nodes l.p (take l.item-index l.items)) l.fn.builder l.fn.store l.builder l.store
