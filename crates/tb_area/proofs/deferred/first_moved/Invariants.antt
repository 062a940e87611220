use Rattle.tb_float.specs.declared.Part.TheVariants as parts
use Rattle.tb_area.specs.Deferred.{filled}
use Rattle.tb_area.specs.DeferredWalk.{GoesOn}
use Rattle.tb_area.proofs.FirstWalks.{AreBehind}
use Rattle.tb_area.proofs.deferred.first_moved.Given as goal

abbrev pub invariant-loop-first : goal.invariant-loop-first
invariant-loop-first l = record {
  behind : AreBehind l.fn.firsts l.first-index l.fn.pool.lists.deferred l.kept.count;
  way : GoesOn parts.Deferred (filled l.fn.p l.fn.s) l.fn.pool.lists l.initial.kept l.kept;
}
