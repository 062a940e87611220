use Rattle.tb_node.specs.PlainNodes.{plain_list}
use Rattle.tb_builder.specs.Contents.{node_count}
use Rattle.tb_builder.proofs.Amounts.CountLemmas.{Counting}
use Rattle.tb_builder.proofs.counts.count_nodes.Given as goal

abbrev pub invariant-loop-n : goal.invariant-loop-n
invariant-loop-n l = record {
  can_next : (goal.iterator-loop-n).can_next l.n-iterator;
  is_finite : (goal.iterator-loop-n).is_finite l.n-iterator;
  counting : Counting l.fn.store 18446744073709551615 (node_count (plain_list l.fn.store l.fn.l)) l.n-iterator l.total;
}
