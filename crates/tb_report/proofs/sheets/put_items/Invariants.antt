use Rattle.tb_pool.specs.Lists.{list_at}
use Rattle.tb_report.proofs.PrintLemmas.{Printing}
use Rattle.tb_report.proofs.sheets.put_items.Given as goal

abbrev pub invariant-loop-node : goal.invariant-loop-node
invariant-loop-node l = record {
  can_next : (goal.iterator-loop-node).can_next l.node-iterator;
  is_finite : (goal.iterator-loop-node).is_finite l.node-iterator;
  printing : Printing (list_at l.fn.store) l.fn.set (list_at l.fn.store l.fn.list) l.tops l.fn.out.items l.out.items l.node-iterator;
}
