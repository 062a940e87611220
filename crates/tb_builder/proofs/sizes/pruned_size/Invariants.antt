use Rattle.tb_pool.specs.Lists.{list_at}
use Rattle.tb_builder.proofs.Ownership.SizeLemmas.{Sized}
use Rattle.tb_builder.proofs.sizes.pruned_size.Given as goal

abbrev pub invariant-loop-n : goal.invariant-loop-n
invariant-loop-n l = record {
  can_next : (goal.iterator-loop-n).can_next l.n-iterator;
  is_finite : (goal.iterator-loop-n).is_finite l.n-iterator;
  sized : Sized (list_at l.fn.store l.fn.l) l.n-iterator l.total;
}
