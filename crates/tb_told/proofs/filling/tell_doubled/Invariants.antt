use Rattle.std.proofs.Common.{◌≡◌, ◌+◌, [], ◌++◌, length, take, drop}
use Rattle.tb_float.specs.Lists.{floats_of}
use Rattle.tb_float.specs.Pool.{HasNoMarks}
use Rattle.tb_area.specs.Deferred.{doubled}
use Rattle.tb_told.specs.Filled.{doubled_pieces, none_suppressed}
use Rattle.tb_told.proofs.filling.tell_doubled.Given as goal

abbrev pub invariant-loop-turn : goal.invariant-loop-turn
invariant-loop-turn l = record {
  lists : doubled l.from l.p none_suppressed [] (floats_of l.from l.initial.pool.lists) l.initial.pool.lists ≡ doubled l.from l.p none_suppressed (take l.kept (floats_of l.from l.pool.lists)) (drop l.kept (floats_of l.from l.pool.lists)) l.pool.lists;
  told : l.pieces.items ++ doubled_pieces l.from l.p (take l.kept (floats_of l.from l.pool.lists)) (drop l.kept (floats_of l.from l.pool.lists)) l.pool.lists ≡ l.initial.pieces.items ++ doubled_pieces l.from l.p [] (floats_of l.from l.initial.pool.lists) l.initial.pool.lists;
  left : length (floats_of l.from l.pool.lists) + l._turn ≡ length (floats_of l.from l.initial.pool.lists) + l.kept;
  unmarked : HasNoMarks l.initial.pool → HasNoMarks l.pool;
}
