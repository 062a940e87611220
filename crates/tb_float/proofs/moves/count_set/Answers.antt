use Rattle.std.proofs.Common.{arith}
use Rattle.tb_float.proofs.ClassLemmas.{count-few}
use Rattle.tb_float.proofs.moves.count_set.Goals as goal

pub overflow_add-set : goal.overflow_add-set
overflow_add-set c = omega (arith, count-few c.args.flags.now, c.loop-flag.invariant.counted)
