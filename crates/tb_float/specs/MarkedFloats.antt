-- The pool once the floats that are chosen for a column have left.
use Rattle.std.specs.Prelude.{false, length, replicate}
use Rattle.tb_float.specs.declared.Part.{Part}
use Rattle.tb_float.specs.Lists.{with_floats_of}
use Rattle.tb_float.specs.Pool.{FloatPool, with_marks_of, unmarked_floats}

-- the floats of the list that are not marked stay in their order, and none of them is marked
abbrev pub without_marked : Part → FloatPool → FloatPool
without_marked from v =
    with_marks_of from (replicate (length (unmarked_floats from v)) false) (record v { lists = with_floats_of from (unmarked_floats from v) v.lists })
