use Rattle.std.specs.Prelude.{length}
use Rattle.tb_float.specs.Lists.{floats_of}
use Rattle.tb_column.proofs.MovingLemmas.{AreaSoFar}
use Rattle.tb_column.proofs.areas.push_floats.Given as goal

abbrev pub invariant-floats : goal.invariant-floats
invariant-floats l = AreaSoFar l.area l.place l.sep l.l l.fn.store l.fn.pool l.store l.pool

abbrev pub decreases-floats : goal.decreases-floats
decreases-floats l = length (floats_of l.area l.pool.lists)
