use Rattle.std.specs.Prelude.{length}
use Rattle.tb_float.specs.Pool.{marked_floats}
use Rattle.tb_column.proofs.MovingLemmas.{MarkedSoFar}
use Rattle.tb_column.proofs.float_columns.push_marked.Given as goal

abbrev pub invariant-floats : goal.invariant-floats
invariant-floats l = MarkedSoFar l.from l.sep l.l l.fn.store l.fn.pool l.store l.pool

abbrev pub decreases-floats : goal.decreases-floats
decreases-floats l = length (marked_floats l.from l.pool)
