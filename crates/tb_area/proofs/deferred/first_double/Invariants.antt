use Rattle.tb_float.specs.declared.Suppress.{Suppress}
use Rattle.tb_float.specs.Lists.{floats_of}
use Rattle.tb_area.specs.Deferred.{doubled}
use Rattle.tb_area.specs.DeferredWalk.{GoesOn}
use Rattle.tb_area.proofs.FirstWalks.{AreBehind}
use Rattle.tb_area.proofs.deferred.first_double.Given as goal

abbrev pub invariant-loop-first : goal.invariant-loop-first
invariant-loop-first l = record {
  behind : AreBehind l.fn.firsts l.first-index (floats_of l.fn.from l.fn.pool.lists) l.kept.count;
  way : (s : Suppress) → GoesOn l.fn.from (doubled l.fn.from l.fn.p s) l.fn.pool.lists l.initial.kept l.kept;
}
