use Rattle.tb_pool.specs.Lists.{list_at}
use Rattle.tb_dvi.proofs.PlacementLemmas.{Placing}
use Rattle.tb_dvi.proofs.page.put_part.Given as goal

abbrev pub invariant-loop-node : goal.invariant-loop-node
invariant-loop-node l = record {
  can_next : (goal.iterator-loop-node).can_next l.node-iterator;
  is_finite : (goal.iterator-loop-node).is_finite l.node-iterator;
  placing : Placing (list_at l.fn.store) l.fn.part.h l.fn.part.at l.fn.part.set (list_at l.fn.store l.fn.part.list) l.tops l.fn.out.items l.out.items l.node-iterator;
}
