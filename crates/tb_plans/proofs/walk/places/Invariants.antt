use Rattle.std.proofs.Common.{◌≡◌, ◌++◌, drop}
use Rattle.tb_plans.specs.Places.{places_of}
use Rattle.tb_plans.specs.Walk.{places_left}
use Rattle.tb_plans.proofs.walk.places.Given as goal

abbrev pub invariant-loop-k : goal.invariant-loop-k
invariant-loop-k l = l.found.items ++ places_left l.galley.params l.walk l.k (drop l.k l.item-items) ≡ places_of l.fn.galley
