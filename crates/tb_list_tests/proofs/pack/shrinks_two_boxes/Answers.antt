use Rattle.std.proofs.Common.{pos, rules, arith}
use Rattle.tb_node.proofs.FitLemmas.{list_nodes_fit, list_sums_fit}
use Rattle.tb_list_tests.proofs.pack.shrinks_two_boxes.Goals as goal

pub pack-fits-requires-clause-nodes : goal.pack-fits-requires-clause-nodes
pack-fits-requires-clause-nodes g c = list_nodes_fit c.put-3.new.lists _ c.put-3.ensures.list

pub pack-fits-requires-clause-sums : goal.pack-fits-requires-clause-sums
pack-fits-requires-clause-sums g c = list_sums_fit c.put-3.new.lists _ (pos 0) (search rules) c.put-3.ensures.list (omega (arith, c.put-3.ensures.few))

pub pack-overfull-requires-clause-nodes : goal.pack-overfull-requires-clause-nodes
pack-overfull-requires-clause-nodes g c = list_nodes_fit c.put-3.new.lists _ c.put-3.ensures.list

pub pack-overfull-requires-clause-sums : goal.pack-overfull-requires-clause-sums
pack-overfull-requires-clause-sums g c = list_sums_fit c.put-3.new.lists _ (pos 0) (search rules) c.put-3.ensures.list (omega (arith, c.put-3.ensures.few))
