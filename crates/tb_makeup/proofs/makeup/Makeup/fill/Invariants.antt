use Rattle.tb_makeup.proofs.Filled.UnderwayLemmas.{IsUnderway, rounds_left}
use Rattle.tb_makeup.proofs.makeup.Makeup.fill.Given as goal

abbrev pub invariant-next : goal.invariant-next
invariant-next l = IsUnderway l.fn.wanted l.fn.self l.self l.happened.items

abbrev pub decreases-next : goal.decreases-next
decreases-next l = rounds_left l.self
