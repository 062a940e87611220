use Rattle.std.proofs.Common.{rules}
use Rattle.tb_makeup.proofs.Shipping.ShipLemmas.{left-few, nodes-few, all-counted}
use Rattle.tb_makeup.proofs.makeup.Makeup.waiting_nodes.Goals as goal

pub nodes_left-requires : goal.nodes_left-requires
nodes_left-requires c = left-few c.args.self.now c.requires.few

pub overflow_add-result : goal.overflow_add-result
overflow_add-result c =
    let few = nodes-few c.args.self.now c.requires.few c.nodes.result c.requires.void c.nodes.ensures in
    let left = left-few c.args.self.now c.requires.few in
    search rules

pub returns : goal.returns
returns c = all-counted c.args.self.now c.requires.few c.nodes.result c.requires.void c.nodes.ensures c.nodes_left.result c.nodes_left.ensures
