use Rattle.std.proofs.Common.{arith}
use Rattle.tb_column.proofs.MovingLemmas.{here_more}
use Rattle.tb_column.proofs.areas.clear_here.Goals as goal

pub floats-smaller : goal.floats-smaller
floats-smaller c = omega (arith, here_more c.floats.pool c.retire.new.self c.in-Some.field-0 c.in-Some.ensures.first c.in-Some.ensures.rest)
