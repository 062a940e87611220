use Rattle.tb_lines.proofs.TableBack.{IsBack, place_height}
use Rattle.tb_lines.proofs.solution.named_breaks.Given as goal

abbrev pub invariant-back : goal.invariant-back
invariant-back l = IsBack l.rows l.last l.fn.from l.breaks.items l.at

abbrev pub decreases-back : goal.decreases-back
decreases-back l = place_height l.at
