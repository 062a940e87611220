use Rattle.std.proofs.Common.{◌≡◌, take}
use Rattle.tb_plans.proofs.broken_galley.copied_classes.Given as goal

abbrev pub invariant-loop-class : goal.invariant-loop-class
invariant-loop-class l = l.made ≡ take l.class-index l.class-items
