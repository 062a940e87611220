use Rattle.std.proofs.Common.{sym, subst, All}
use Rattle.tb_node.specs.Fit.{IsSizedNode}
use Rattle.tb_node.proofs.FitLemmas.{list_nodes_fit}
use Rattle.tb_pool.proofs.CallerLemmas.{live_same}
use Rattle.tb_list_tests.proofs.breaks.prunes_up_to_the_box.Goals as goal

pub prune-requires-clause-nodes : goal.prune-requires-clause-nodes
prune-requires-clause-nodes g c = list_nodes_fit c.in_ok-s.s.store c.in_ok-s.s.list (subst (All IsSizedNode) (sym c.in_ok-s.ensures.whole) c.page_top.ensures)

pub iter-n-items-requires : goal.iter-n-items-requires
iter-n-items-requires g c = live_same c.in_ok-s.s.store c.prune.new.store c.in_ok-s.s.list _ c.prune.ensures.pruned
