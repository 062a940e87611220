use Rattle.std.proofs.Common.{◌≡◌, ◌≤◌, ◌++◌, drop, length}
use Rattle.tb_plans.specs.Plans.{broken}
use Rattle.tb_plans.proofs.broken_galley.broken.Given as goal

abbrev pub invariant-loop-k : goal.invariant-loop-k
invariant-loop-k l = record {
  made : l.made ++ broken l.k (drop l.k l.items) (drop l.next l.places) ≡ broken 0 l.items l.places;
  within : l.next ≤ length l.places;
}
