use Rattle.std.proofs.Common.{sym, subst}
use Rattle.std.specs.Prelude.{replicate, None}
use Rattle.tb_builder.specs.ClassPlaces.{ArePlaces}
use Rattle.tb_builder.proofs.Ownership.ClassPlaceLemmas.{none_placed}
use Rattle.tb_builder.proofs.class_lists.ClassLists.with_capacity.Goals as goal

pub invariant_of-result : goal.invariant_of-result
invariant_of-result c = subst (λ es. ArePlaces es (replicate 256 None)) (sym c.in_ok-with_capacity.ensures.items) none_placed
