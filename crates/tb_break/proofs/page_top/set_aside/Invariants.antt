use Rattle.std.proofs.Common.{length}
use Rattle.tb_pool.specs.Lists.{list_at}
use Rattle.tb_break.proofs.PageTopLemmas.{Turning}
use Rattle.tb_break.proofs.page_top.set_aside.Given as goal

abbrev pub invariant-loop-turn : goal.invariant-loop-turn
invariant-loop-turn l = Turning l.initial.store l.store l.fn.l l._turn (length (list_at l.initial.store l.fn.l)) l.kept
