use Rattle.tb_pool.specs.Lists.{list_at}
use Rattle.tb_pool.proofs.RefillLemmas.{Pushing}
use Rattle.tb_pool.proofs.Lists.push_all.Given as goal

-- the values so far are pushed, and there is room for those that are left
abbrev pub invariant-loop-value : goal.invariant-loop-value
invariant-loop-value g l = record {
  can_next : (goal.iterator-loop-value g).can_next l.value-iterator;
  is_finite : (goal.iterator-loop-value g).is_finite l.value-iterator;
  pushing : Pushing l.fn.self l.self l.fn.l (list_at l.fn.other l.fn.l) l.value-iterator;
}
