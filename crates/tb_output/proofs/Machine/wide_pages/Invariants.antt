use Rattle.std.proofs.Common.{◌-◌, length}
use Rattle.tb_float.specs.Lists.{wide_waiting}
use Rattle.tb_output.proofs.ColumnPages.FloatTurns.{PagesLeft}
use Rattle.tb_output.proofs.Machine.wide_pages.Given as goal

abbrev pub invariant-loop-turn : goal.invariant-loop-turn
invariant-loop-turn l = PagesLeft l.clearing (length (wide_waiting l.fn.self.params l.fn.self.pool.lists) - l._turn) l.fn.self l.self l.fn.store l.store
