use Rattle.std.specs.Prelude.{◌≡◌, length}
use Rattle.tb_float.specs.declared.Part.TheVariants as parts
use Rattle.tb_float.specs.Pool.{without_entries}
use Rattle.tb_column.proofs.areas.clear_here.Given as goal

abbrev pub invariant-floats : goal.invariant-floats
invariant-floats l = without_entries parts.Here l.pool ≡ without_entries parts.Here l.fn.pool

abbrev pub decreases-floats : goal.decreases-floats
decreases-floats l = length l.pool.lists.here
