use Rattle.std.proofs.Common.{◌∙◌, ◌++◌, ap}
use Rattle.tb_node.specs.PlainNodes.{on_line}
use Rattle.tb_plain.specs.GalleyNodes.{clearing_kinds, makeup_nodes}
use Rattle.tb_makeup.proofs.FromGalley.ItemLemmas.{made_up-is}
use Rattle.tb_makeup.proofs.makeup_left.all_left.Goals as goal

pub returns-clause-nodes : goal.returns-clause-nodes
returns-clause-nodes c = ap (λ is. makeup_nodes c.args.galley.now.params is ++ on_line c.args.galley.now.end_line clearing_kinds) c.as_slice.ensures ∙ made_up-is c.args.galley.now
