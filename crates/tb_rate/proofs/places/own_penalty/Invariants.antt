use Rattle.std.proofs.Common.{◌≡◌, drop}
use Rattle.std.specs.List.{AllByRecursion}
use Rattle.tb_rate.specs.Places.{own_penalty, IsMildPlace}
use Rattle.tb_rate.proofs.places.own_penalty.Given as goal

abbrev pub invariant-loop-place : goal.invariant-loop-place
invariant-loop-place l = record {
  later : own_penalty (drop l.place-index l.places) l.line ≡ own_penalty l.fn.places l.fn.line;
  mild : AllByRecursion IsMildPlace (drop l.place-index l.places);
}
