use Rattle.tb_pool.proofs.RefillLemmas.{Copying}
use Rattle.tb_pool.proofs.Lists.copy_from.Given as goal

-- the lists with lower ids are copied, and the others are empty
abbrev pub invariant-loop-index : goal.invariant-loop-index
invariant-loop-index g l = Copying l.other-inside.heads l.fn.other l.self l.index
