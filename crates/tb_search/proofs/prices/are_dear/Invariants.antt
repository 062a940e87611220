use Rattle.tb_search.specs.Told.{IsDearIn}
use Rattle.tb_search.proofs.ToldLemmas.{AllIfRest}
use Rattle.tb_search.proofs.prices.are_dear.Given as goal

-- no place costs less if none from here on does
abbrev pub invariant-loop-happening : goal.invariant-loop-happening
invariant-loop-happening l = AllIfRest IsDearIn l.happening-index l.happened
