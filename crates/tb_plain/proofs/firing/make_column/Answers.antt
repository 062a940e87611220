use Rattle.std.proofs.Common.{◌≡◌, rules, FitsSigned, w64}
use Rattle.std.proofs.lemmas.Int.{to_z-of_z}
use Rattle.tb_node.specs.Fit.{shapes}
use Rattle.tb_pack.specs.Pack.{packed}
use Rattle.tb_node.proofs.FitLemmas.{list_nodes_fit, list_sums_fit}
use Rattle.tb_plain.proofs.FireLemmas.{made-page, grown-column}
use Rattle.tb_plain.proofs.firing.make_column.Goals as goal

pub pack-requires-clause-nodes : goal.pack-requires-clause-nodes
pack-requires-clause-nodes c = list_nodes_fit c.gather.new.store c.args.list (made-page c.args.p.now c.args.b.now c.gather.new.b c.args.store.now c.gather.new.store c.args.page.now c.args.list _ _ c.requires.params c.requires.page c.requires.empty c.gather.ensures.grows).sized

pub pack-requires-clause-sums : goal.pack-requires-clause-sums
pack-requires-clause-sums c =
    let limit : FitsSigned w64 c.args.p.now.maxdepth = search rules in
    simp to_z-of_z (list_sums_fit c.gather.new.store c.args.list c.args.p.now.maxdepth c.requires.params.maxdepth.low (made-page c.args.p.now c.args.b.now c.gather.new.b c.args.store.now c.gather.new.store c.args.page.now c.args.list _ _ c.requires.params c.requires.page c.requires.empty c.gather.ensures.grows).sized (made-page c.args.p.now c.args.b.now c.gather.new.b c.args.store.now c.gather.new.store c.args.page.now c.args.list _ _ c.requires.params c.requires.page c.requires.empty c.gather.ensures.grows).few)

pub returns-clause-column : goal.returns-clause-column
returns-clause-column c =
    let limit : FitsSigned w64 c.args.p.now.maxdepth = search rules in
    let height : FitsSigned w64 c.args.p.now.textheight = search rules in
    let set : c.pack.result ≡ packed c.args.p.now.textheight c.args.p.now.maxdepth (shapes c.gather.new.store c.args.list) = simp to_z-of_z at c.pack.ensures.value in
    grown-column c.args.list _ _ _ c.args.b.now c.gather.new.b c.args.store.now c.gather.new.store c.requires.empty c.gather.ensures.grows c.args.p.now.textheight c.args.p.now.maxdepth c.pack.result set

pub returns-clause-sized : goal.returns-clause-sized
returns-clause-sized c = record { list = made-page c.args.p.now c.args.b.now c.gather.new.b c.args.store.now c.gather.new.store c.args.page.now c.args.list _ _ c.requires.params c.requires.page c.requires.empty c.gather.ensures.grows; share = c.pack.ensures.divisor }
