use Rattle.std.proofs.Common.{◌≡◌, ◌≤◌, ◌+◌, [], length}
use Rattle.tb_float.specs.declared.Suppress.{Suppress}
use Rattle.tb_float.specs.Lists.{floats_of}
use Rattle.tb_float.specs.Pool.{HasNoMarks}
use Rattle.tb_area.specs.Deferred.{doubled}
use Rattle.tb_area.specs.DeferredWalk.{IsOnWay}
use Rattle.tb_area.proofs.deferred.fill_double.Given as goal

abbrev pub invariant-loop-turn : goal.invariant-loop-turn
invariant-loop-turn l = record {
  way : (s : Suppress) → IsOnWay l.from (doubled l.from l.p s) l.kept l.pool.lists (doubled l.from l.p s [] (floats_of l.from l.initial.pool.lists) l.initial.pool.lists);
  fewer : l._turn + length (floats_of l.from l.pool.lists) ≤ length (floats_of l.from l.initial.pool.lists);
  size : l.pool.size ≡ l.initial.pool.size;
  unmarked : HasNoMarks l.initial.pool → HasNoMarks l.pool;
}
