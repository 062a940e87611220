use Rattle.std.proofs.Common.{◌∙◌, [], arith}
use Rattle.tb_pool.proofs.CallerLemmas.{live_same}
use Rattle.tb_column.proofs.StoreLemmas.{with_list-added}
use Rattle.tb_items.proofs.FootLemmas.{no-leaf}
use Rattle.tb_items.proofs.enlarging_nodes.put_node.Goals as goal

pub push_back-requires-clause-live : goal.push_back-requires-clause-live
push_back-requires-clause-live c = live_same c.args.store.now c.reserve.new.self c.args.l _ (c.in_ok-reserve.ensures.lists ∙ no-leaf c.args.store.now c.args.l c.requires)

pub push_back-requires-clause-room : goal.push_back-requires-clause-room
push_back-requires-clause-room c = omega (arith, c.in_ok-reserve.ensures.room)

pub returns : goal.returns
returns c =
    with_list-added c.args.store.now c.reserve.new.self c.push_back.new.self c.args.l [] _ (c.in_ok-reserve.ensures.lists ∙ no-leaf c.args.store.now c.args.l c.requires) c.push_back.ensures.pushed
