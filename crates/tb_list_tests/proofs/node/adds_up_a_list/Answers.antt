use Rattle.std.proofs.Common.{pos, rules, arith}
use Rattle.tb_node.proofs.FitLemmas.{list_nodes_fit, list_sums_fit}
use Rattle.tb_list_tests.proofs.node.adds_up_a_list.Goals as goal

pub list_sums-sums-requires-clause-nodes : goal.list_sums-sums-requires-clause-nodes
list_sums-sums-requires-clause-nodes g c = list_nodes_fit c.put-4.new.lists _ c.put-4.ensures.list

pub list_sums-sums-requires-clause-sums : goal.list_sums-sums-requires-clause-sums
list_sums-sums-requires-clause-sums g c = list_sums_fit c.put-4.new.lists _ (pos 1) (search rules) c.put-4.ensures.list (omega (arith, c.put-4.ensures.few))
