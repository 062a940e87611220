use Rattle.std.proofs.Common.{rules}
use Rattle.tb_dvi.proofs.BoundLemmas.{bounded-right, within-kept, bounded-kept}
use Rattle.tb_dvi.proofs.moves.past_rule.Goals as goal

pub returns-then-moves-clause-bounded : goal.returns-then-moves-clause-bounded
returns-then-moves-clause-bounded c = λ k b.
    let place = c.place_after-h.ensures.within k (within-kept k c.args.r.h (search rules) b.h) in
    let moved = bounded-right k c.args.r c.place_after-h.result b place in
    search (rules, bounded-kept, moved)
