use Rattle.std.proofs.Common.{ap, sym, subst, rules, FitsSigned, w64}
use Rattle.std.proofs.lemmas.Int.{to_z-of_z}
use Rattle.tb_pool.specs.Lists.{list_at}
use Rattle.tb_node.specs.declared.Sums.{Sums}
use Rattle.tb_node.specs.Fit.{IsExtent}
use Rattle.tb_node.proofs.FitLemmas.{list_nodes_fit, list_sums_fit}
use Rattle.tb_plain.proofs.FireLemmas.{body-extent}
use Rattle.tb_plain.proofs.firing.body_depth.Goals as goal

pub list_sums-requires-clause-nodes : goal.list_sums-requires-clause-nodes
list_sums-requires-clause-nodes c = list_nodes_fit c.args.store.now c.args.body c.requires.body.sized

pub list_sums-requires-clause-sums : goal.list_sums-requires-clause-sums
list_sums-requires-clause-sums c =
    let limit : FitsSigned w64 c.args.p.now.maxdepth = search rules in
    simp to_z-of_z (list_sums_fit c.args.store.now c.args.body c.args.p.now.maxdepth c.requires.params.maxdepth.low c.requires.body.sized c.requires.body.few)

pub returns-clause-extent : goal.returns-clause-extent
returns-clause-extent c =
    let limit : FitsSigned w64 c.args.p.now.maxdepth = search rules in
    let depth : FitsSigned w64 c.list_sums.result.depth = search rules in
    let sums = simp to_z-of_z at c.list_sums.ensures in
    simp to_z-of_z (subst IsExtent (sym (ap (λ (s : Sums). s.depth) sums)) (body-extent c.args.p.now (list_at c.args.store.now c.args.body) c.requires.params.maxdepth c.requires.body.sized))
