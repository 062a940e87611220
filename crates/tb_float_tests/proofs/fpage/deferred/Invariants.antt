use Rattle.tb_float.specs.Pool.{HasNoMarks}
use Rattle.tb_float_tests.proofs.fpage.deferred.Given as goal

abbrev pub invariant-loop-height : goal.invariant-loop-height
invariant-loop-height l = HasNoMarks l.pool
