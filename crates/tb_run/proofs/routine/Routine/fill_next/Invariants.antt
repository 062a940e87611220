use Rattle.tb_run.proofs.Filling.FillingLemmas.{IsUnderway, turns_left}
use Rattle.tb_run.proofs.routine.Routine.fill_next.Given as goal

abbrev pub invariant-next : goal.invariant-next
invariant-next l = IsUnderway l.fn.wanted l.fn.self l.self l.ask l.happened.items

abbrev pub decreases-next : goal.decreases-next
decreases-next l = turns_left l.fn.self l.self
