use Rattle.std.proofs.Common.{◌≡◌, take}
use Rattle.tb_galley.specs.GalleyNodes.{item_nodes, two_past, params_past}
use Rattle.tb_items.specs.WaitingNodes.{Waits}
use Rattle.tb_items.proofs.galley_nodes.put_items.Given as goal

-- the nodes of the items before wait, and the columns and the parameters are those after them
abbrev pub invariant-loop-item : goal.invariant-loop-item
invariant-loop-item l = (l.two ≡ two_past l.fn.two (take l.item-index l.items)) × (l.p ≡ params_past l.fn.p (take l.item-index l.items)) × Waits (item_nodes l.fn.p l.fn.two (take l.item-index l.items)) l.fn.builder l.fn.store l.builder l.store
