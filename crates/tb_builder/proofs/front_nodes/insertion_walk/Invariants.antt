use Rattle.tb_pool.specs.Lists.{list_at}
use Rattle.tb_builder.proofs.Sorting.PlaceLemmas.{Looking}
use Rattle.tb_builder.proofs.front_nodes.insertion_walk.Given as goal

abbrev pub invariant-loop-n : goal.invariant-loop-n
invariant-loop-n l = record {
  can_next : (goal.iterator-loop-n).can_next l.n-iterator;
  is_finite : (goal.iterator-loop-n).is_finite l.n-iterator;
  looking : Looking (list_at l.fn.store l.fn.l) l.n-iterator l.left;
}
