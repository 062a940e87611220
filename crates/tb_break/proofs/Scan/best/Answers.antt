use Rattle.std.proofs.Common.{ap, sym, subst}
use Rattle.tb_break.specs.Scan.{Scanned, Offered}
use Rattle.tb_break.proofs.LastLemmas.{last_of_best}
use Rattle.tb_break.proofs.Scan.best.Goals as goal

pub returns-clause-last_least : goal.returns-clause-last_least
returns-clause-last_least c = λ bs h.
    last_of_best c.self.inside.best bs (subst (λ o. Offered o bs) (sym (ap (λ (x : Scanned). x.best) c.self.view_is)) h)
