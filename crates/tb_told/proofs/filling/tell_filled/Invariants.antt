use Rattle.std.proofs.Common.{◌≡◌, ◌+◌, [], ◌++◌, length, take, drop}
use Rattle.tb_float.specs.Pool.{HasNoMarks}
use Rattle.tb_area.specs.Deferred.{filled}
use Rattle.tb_told.specs.Filled.{filled_pieces}
use Rattle.tb_told.proofs.filling.tell_filled.Given as goal

abbrev pub invariant-loop-turn : goal.invariant-loop-turn
invariant-loop-turn l = record {
  lists : filled l.p l.s [] l.initial.pool.lists.deferred l.initial.pool.lists ≡ filled l.p l.s (take l.kept l.pool.lists.deferred) (drop l.kept l.pool.lists.deferred) l.pool.lists;
  told : l.pieces.items ++ filled_pieces l.p l.s (take l.kept l.pool.lists.deferred) (drop l.kept l.pool.lists.deferred) l.pool.lists ≡ l.initial.pieces.items ++ filled_pieces l.p l.s [] l.initial.pool.lists.deferred l.initial.pool.lists;
  left : length l.pool.lists.deferred + l._turn ≡ length l.initial.pool.lists.deferred + l.kept;
  unmarked : HasNoMarks l.initial.pool → HasNoMarks l.pool;
}
