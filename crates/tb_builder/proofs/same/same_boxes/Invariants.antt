use Rattle.std.proofs.Common.{drop}
use Rattle.tb_builder.proofs.SameLemmas.{Passing}
use Rattle.tb_builder.proofs.same.same_boxes.Given as goal

abbrev pub invariant-loop-k : goal.invariant-loop-k
invariant-loop-k l = Passing l.fn.store l.fn.other_store l.boxes l.other (drop l.k l.boxes) (drop l.k l.other)
