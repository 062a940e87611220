use Rattle.std.proofs.Common.{◌++◌, ◌-◌, length}
use Rattle.tb_why.specs.Seen.{all_float_told, all_float_seen}
use Rattle.tb_why.proofs.TellingLemmas.{FloatsLeft}
use Rattle.tb_why.proofs.Seen.float_columns.Given as goal

abbrev pub invariant-loop-turn : goal.invariant-loop-turn
invariant-loop-turn l =
    FloatsLeft l.p l.clearing (length l.fn.self.floats.deferred - l._turn) l.self l.pieces.items
    (l.fn.pieces.items ++ all_float_told l.p l.clearing l.fn.self) (all_float_seen l.p l.clearing l.fn.self)
