use Rattle.tb_pool.proofs.RefillLemmas.{Emptying}
use Rattle.tb_pool.proofs.copies.emptied.Given as goal

abbrev pub invariant-loop-key : goal.invariant-loop-key
invariant-loop-key l = Emptying l.heads l.new l.key
