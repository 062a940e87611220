use Rattle.std.proofs.Common.{arith}
use Rattle.tb_search.proofs.PenaltyLemmas.{all-rise}
use Rattle.tb_search.proofs.penalties.do_rise.Goals as goal

pub returns : goal.returns
returns c _ = let done = c.loop-place-test.false in all-rise c.loop-place.least c.loop-place.place-index c.args.places.now (omega (arith, done)) c.loop-place.invariant
