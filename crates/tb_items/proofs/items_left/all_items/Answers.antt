use Rattle.std.proofs.Common.{◌∙◌, ◌++◌, ap, false}
use Rattle.tb_node.specs.PlainNodes.{on_line, clearpage_kinds}
use Rattle.tb_galley.specs.GalleyNodes.{item_nodes}
use Rattle.tb_items.proofs.ItemLemmas.{expanded-is}
use Rattle.tb_items.proofs.items_left.all_items.Goals as goal

pub returns-clause-nodes : goal.returns-clause-nodes
returns-clause-nodes c = ap (λ is. item_nodes c.args.galley.now.params false is ++ on_line c.args.galley.now.end_line clearpage_kinds) c.as_slice.ensures ∙ expanded-is c.args.galley.now
