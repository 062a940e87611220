use Rattle.std.proofs.Common.{subst}
use Rattle.tb_node.specs.PlainNodes.{on_line}
use Rattle.tb_items.specs.WaitingNodes.{Waits}
use Rattle.tb_items.proofs.WaitsLemmas.{on-ok}
use Rattle.tb_makeup.proofs.FromGalley.ItemLemmas.{kinds-same}
use Rattle.tb_makeup.proofs.galley_nodes.put_makeup.Goals as goal

pub returns-in_default : goal.returns-in_default
returns-in_default c =
    on-ok c.put_item.result
    (subst (λ ks. Waits (on_line c.args.line ks) c.args.builder.now c.args.store.now c.put_item.new.builder c.put_item.new.store) (kinds-same c.args.p.now c.args.kind.now c.in_default.not-Float c.in_default.not-ClearPage))
    c.put_item.ensures
