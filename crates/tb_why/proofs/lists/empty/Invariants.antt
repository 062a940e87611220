use Rattle.std.proofs.Common.{◌≡◌, [], length}
use Rattle.tb_float.specs.Lists.{floats_of, with_floats_of}
use Rattle.tb_float.specs.Pool.{HasNoMarks}
use Rattle.tb_why.proofs.lists.empty.Given as goal

abbrev pub invariant-floats : goal.invariant-floats
invariant-floats l = record {
  lists : with_floats_of l.part [] l.pool.lists ≡ with_floats_of l.part [] l.fn.pool.lists;
  unmarked : HasNoMarks l.fn.pool → HasNoMarks l.pool;
}

abbrev pub decreases-floats : goal.decreases-floats
decreases-floats l = length (floats_of l.part l.pool.lists)
