use Rattle.std.proofs.Common.{arith}
use Rattle.tb_plans.proofs.CopyLemmas.{before-below}
use Rattle.tb_plans.proofs.broken_galley.copied_classes.Goals as goal

pub push-requires : goal.push-requires
push-requires c = rw c.loop-class.invariant (before-below c.as_slice-class-items.result.now (rw c.as_slice-class-items.ensures c.requires) c.loop-class.class-index _ (omega (arith, c.loop-class-test.true)))
