use Rattle.std.proofs.Common.{◌≤◌, ap, sym, subst, length, pos, All, arith}
use Rattle.std.proofs.lemmas.Int.{ints}
use Rattle.tb_pool.specs.Lists.{list_at}
use Rattle.tb_node.specs.Fit.{IsSizedNode}
use Rattle.tb_node.proofs.FitLemmas.{list_nodes_fit, list_sums_fit}
use Rattle.tb_break.proofs.StoreLemmas.{live-parted}
use Rattle.tb_list_tests.proofs.breaks.splits_at_the_later_of_equal_costs.Goals as goal

pub find-found-requires-clause-nodes : goal.find-found-requires-clause-nodes
find-found-requires-clause-nodes g c = list_nodes_fit c.in_ok-s.s.store c.in_ok-s.s.list (subst (All IsSizedNode) (sym c.in_ok-s.ensures.whole) c.five.ensures)

pub find-found-requires-clause-sums : goal.find-found-requires-clause-sums
find-found-requires-clause-sums g c =
    let few : length (list_at c.in_ok-s.s.store c.in_ok-s.s.list) ≤ 8388608 = omega (arith, ap length c.in_ok-s.ensures.whole, c.five.type_inv) in
    list_sums_fit c.in_ok-s.s.store c.in_ok-s.s.list (pos 1) (omega (arith, ints)) (subst (All IsSizedNode) (sym c.in_ok-s.ensures.whole) c.five.ensures) few

pub split-split-requires-clause-nodes : goal.split-split-requires-clause-nodes
split-split-requires-clause-nodes g c = list_nodes_fit c.in_ok-s.s.store c.in_ok-s.s.list (subst (All IsSizedNode) (sym c.in_ok-s.ensures.whole) c.five.ensures)

pub split-split-requires-clause-sums : goal.split-split-requires-clause-sums
split-split-requires-clause-sums g c =
    let few : length (list_at c.in_ok-s.s.store c.in_ok-s.s.list) ≤ 8388608 = omega (arith, ap length c.in_ok-s.ensures.whole, c.five.type_inv) in
    list_sums_fit c.in_ok-s.s.store c.in_ok-s.s.list (pos 1) (omega (arith, ints)) (subst (All IsSizedNode) (sym c.in_ok-s.ensures.whole) c.five.ensures) few

pub len-requires : goal.len-requires
len-requires g c = live-parted c.in_ok-s.s.store c.split-split.new.store c.in_ok-s.s.list c.in_ok-s.s.rest _ _ c.split-split.ensures.parted c.in_ok-s.s.list c.in_ok-s.ensures.live.0

pub len-requires-2 : goal.len-requires-2
len-requires-2 g c = live-parted c.in_ok-s.s.store c.split-split.new.store c.in_ok-s.s.list c.in_ok-s.s.rest _ _ c.split-split.ensures.parted c.in_ok-s.s.rest c.in_ok-s.ensures.live.1
