use Rattle.std.proofs.Common.{◌∙◌, ap, FitsSigned, w64, rules}
use Rattle.std.proofs.lemmas.Int.{to_z-of_z}
use Rattle.tb_makeup.specs.Makeup.{over_limit}
use Rattle.tb_makeup.proofs.makeup.Makeup.node_limit.Goals as goal

pub returns : goal.returns
returns c =
    let limit : FitsSigned w64 c.args.self.now.limit = search rules in
    let over = simp to_z-of_z at c.over_limit.ensures in
    over ∙ ap (over_limit c.args.self.now.limit) c.waiting_nodes.ensures
