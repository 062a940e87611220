use Rattle.std.proofs.Common.{arith}
use Rattle.tb_search.specs.Told.{IsDearIn}
use Rattle.tb_search.proofs.ToldLemmas.{all-walked}
use Rattle.tb_search.proofs.prices.are_dear.Goals as goal

pub returns : goal.returns
returns c _ = let done = c.loop-happening-test.false in all-walked IsDearIn c.args.happened.now c.loop-happening.happening-index (omega (arith, done)) c.loop-happening.invariant
