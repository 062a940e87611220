use Rattle.std.proofs.Common.{arith}
use Rattle.std.proofs.lemmas.Result.{IfOk-weaker}
use Rattle.tb_top.proofs.Rated.RatedOutcomes.{unseen-refused}
use Rattle.tb_top.proofs.chosen_pages.greedy_demerits.Goals as goal

pub returns-clause-demerits : goal.returns-clause-demerits
returns-clause-demerits c = IfOk-weaker c.rate_pages.result _ _ (λ d h. h.demerits) c.rate_pages.ensures.done

pub returns-clause-done : goal.returns-clause-done
returns-clause-done c = IfOk-weaker c.rate_pages.result _ _ (λ d h. h.ended) c.rate_pages.ensures.done

pub returns-clause-refused : goal.returns-clause-refused
returns-clause-refused c = unseen-refused c.rate_pages.result _ _ _ _ (λ is. let rose = c.rate_pages.ensures.cause is in grind (arith, rose)) c.rate_pages.ensures.refused
