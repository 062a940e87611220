use Rattle.std.proofs.Common.{◌++◌, ◌-◌, length}
use Rattle.tb_float.specs.Lists.{wide_waiting}
use Rattle.tb_why.specs.Seen.{all_wide_told, all_wide_seen}
use Rattle.tb_why.proofs.TellingLemmas.{WidesLeft}
use Rattle.tb_why.proofs.Seen.wide_pages.Given as goal

abbrev pub invariant-loop-turn : goal.invariant-loop-turn
invariant-loop-turn l =
    WidesLeft l.p l.clearing (length (wide_waiting l.p l.fn.self.floats) - l._turn) l.self l.pieces.items
    (l.fn.pieces.items ++ all_wide_told l.p l.clearing l.fn.self) (all_wide_seen l.p l.clearing l.fn.self)
