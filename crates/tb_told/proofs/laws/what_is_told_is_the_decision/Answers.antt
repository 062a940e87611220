use Rattle.tb_told.proofs.AreaLemmas.{call_decides, next_decides, wide_decides}
use Rattle.tb_told.proofs.laws.what_is_told_is_the_decision.Goals as goal

pub returns : goal.returns
returns c = record { call = call_decides; next = next_decides; wide = wide_decides }
