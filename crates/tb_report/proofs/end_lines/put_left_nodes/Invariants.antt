use Rattle.tb_pool.specs.Lists.{list_at}
use Rattle.tb_node.specs.PlainNodes.{plain_list}
use Rattle.tb_report.specs.Lines.{left_lines}
use Rattle.tb_report.proofs.PrintLemmas.{Leaving}
use Rattle.tb_report.proofs.end_lines.put_left_nodes.Given as goal

abbrev pub invariant-loop-node : goal.invariant-loop-node
invariant-loop-node l = record {
  can_next : (goal.iterator-loop-node).can_next l.node-iterator;
  is_finite : (goal.iterator-loop-node).is_finite l.node-iterator;
  leaving : Leaving (list_at l.fn.store) l.fn.out.items (left_lines (plain_list l.fn.store l.fn.left)) l.out.items l.node-iterator;
}
