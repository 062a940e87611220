use Rattle.std.proofs.Common.{◌-◌, length}
use Rattle.tb_output.proofs.ColumnPages.FloatTurns.{ColumnsLeft}
use Rattle.tb_output.proofs.Machine.float_columns.Given as goal

abbrev pub invariant-loop-turn : goal.invariant-loop-turn
invariant-loop-turn l = ColumnsLeft l.clearing (length l.fn.self.pool.lists.deferred - l._turn) l.fn.self l.self l.fn.store l.store
