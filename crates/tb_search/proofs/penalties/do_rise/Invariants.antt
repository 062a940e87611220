use Rattle.tb_search.proofs.PenaltyLemmas.{AllRiseIf}
use Rattle.tb_search.proofs.penalties.do_rise.Given as goal

-- all lines rise if those from here on do
abbrev pub invariant-loop-place : goal.invariant-loop-place
invariant-loop-place l = AllRiseIf l.least l.place-index l.places
