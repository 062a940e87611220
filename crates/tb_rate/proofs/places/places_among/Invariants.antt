use Rattle.std.proofs.Common.{◌≡◌, ◌++◌, drop}
use Rattle.tb_rate.specs.Places.{places_among}
use Rattle.tb_rate.proofs.places.places_among.Given as goal

abbrev pub invariant-loop-item : goal.invariant-loop-item
invariant-loop-item l = l.places.items ++ places_among (drop l.item-index l.items) ≡ places_among l.fn.items
