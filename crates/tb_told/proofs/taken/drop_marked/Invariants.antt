use Rattle.std.specs.Prelude.{◌≡◌, length}
use Rattle.tb_float.specs.Pool.{marked_floats}
use Rattle.tb_float.specs.MarkedFloats.{without_marked}
use Rattle.tb_told.proofs.taken.drop_marked.Given as goal

abbrev pub invariant-floats : goal.invariant-floats
invariant-floats l = without_marked l.from l.pool ≡ without_marked l.from l.fn.pool

abbrev pub decreases-floats : goal.decreases-floats
decreases-floats l = length (marked_floats l.from l.pool)
