use Rattle.std.proofs.Common.{◌≡◌, drop}
use Rattle.tb_plain.specs.Suitability.{unsuited_among}
use Rattle.tb_makeup.proofs.suitability.unsuited_among.Given as goal

-- each item before is served
abbrev pub invariant-loop-item : goal.invariant-loop-item
invariant-loop-item l = unsuited_among l.items ≡ unsuited_among (drop l.item-index l.items)
