use Rattle.std.proofs.Common.{◌≡◌, ◌≤◌, ◌+◌, [], length}
use Rattle.tb_float.specs.declared.Part.TheVariants as parts
use Rattle.tb_float.specs.Pool.{HasNoMarks}
use Rattle.tb_area.specs.Deferred.{filled}
use Rattle.tb_area.specs.DeferredWalk.{IsOnWay}
use Rattle.tb_area.proofs.deferred.fill_waiting.Given as goal

abbrev pub invariant-loop-turn : goal.invariant-loop-turn
invariant-loop-turn l = record {
  way : IsOnWay parts.Deferred (filled l.p l.s) l.kept l.pool.lists (filled l.p l.s [] l.initial.pool.lists.deferred l.initial.pool.lists);
  fewer : l._turn + length l.pool.lists.deferred ≤ length l.initial.pool.lists.deferred;
  size : l.pool.size ≡ l.initial.pool.size;
  unmarked : HasNoMarks l.initial.pool → HasNoMarks l.pool;
}
