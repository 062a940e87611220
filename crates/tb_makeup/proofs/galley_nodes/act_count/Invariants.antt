use Rattle.std.proofs.Common.{◌≡◌, ◌≤◌, ◌+◌, drop}
use Rattle.tb_plain.specs.GalleyNodes.{makeup_nodes}
use Rattle.tb_plain.specs.Run.{act_count}
use Rattle.tb_makeup.proofs.galley_nodes.act_count.Given as goal

abbrev pub invariant-loop-item : goal.invariant-loop-item
invariant-loop-item l = record {
  few : l.count ≤ l.item-index;
  sum : l.count + act_count (makeup_nodes l.fn.galley.params (drop l.item-index l.item-items)) ≡ act_count (makeup_nodes l.fn.galley.params l.fn.galley.items);
}
