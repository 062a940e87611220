use Rattle.std.proofs.Common.{◌≡◌, ◌≤◌, ◌+◌, drop}
use Rattle.tb_rate.specs.RatedRun.{inserted_first}
use Rattle.tb_rate.proofs.held.inserted_first.Given as goal

abbrev pub invariant-loop-item : goal.invariant-loop-item
invariant-loop-item l = record {
  few : l.count ≤ l.item-index;
  counted : l.count + inserted_first (drop l.item-index l.items) ≡ inserted_first l.items;
}
