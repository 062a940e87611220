use Rattle.std.proofs.Common.{◌≡◌, ◌+◌, length, map, drop}
use Rattle.tb_pool.specs.Lists.{list_at}
use Rattle.tb_node.specs.PlainNodes.{shape_of}
use Rattle.tb_break.specs.SplitPlace.{shapes}
use Rattle.tb_break.proofs.FindLemmas.{Finding}
use Rattle.tb_break.proofs.splits.find.Given as goal

abbrev pub invariant-loop-n : goal.invariant-loop-n
invariant-loop-n l = record {
  can_next : (goal.iterator-loop-n).can_next l.n-iterator;
  is_finite : (goal.iterator-loop-n).is_finite l.n-iterator;
  ahead : l.ahead ≡ drop 1 l.n-iterator;
  finding : Finding l.fn.height l.fn.max_depth (shapes l.fn.store l.fn.l) l.scan l.best l.index l.lasting (map shape_of l.n-iterator);
  few : l.index + length l.n-iterator ≡ length (list_at l.fn.store l.fn.l);
}
