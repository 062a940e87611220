use Rattle.std.proofs.Common.{sym, subst}
use Rattle.tb_builder.specs.Ownership.{AllLive, ids_of, box_ids}
use Rattle.tb_builder.proofs.Amounts.CountLemmas.{boxes_live, waiting_live}
use Rattle.tb_builder.proofs.Builder.nodes.Goals as goal

pub count_boxes-boxes-requires-clause-live : goal.count_boxes-boxes-requires-clause-live
count_boxes-boxes-requires-clause-live c = subst (λ es. AllLive c.args.store.now (box_ids es)) (sym c.as_slice.ensures) (boxes_live (ids_of c.args.self.now) c.args.store.now c.requires.own)

pub count_nodes-requires-clause-inner : goal.count_nodes-requires-clause-inner
count_nodes-requires-clause-inner c = waiting_live (ids_of c.args.self.now) c.args.store.now c.requires.own
