use Rattle.tb_pool.proofs.CallerLemmas.{live_same}
use Rattle.tb_column.proofs.PageLemmas.{list-opened}
use Rattle.tb_plain.proofs.taken_floats.here_list.Goals as goal

pub push_here-requires-clause-live : goal.push_here-requires-clause-live
push_here-requires-clause-live c = live_same c.reserve.new.self c.add_list.new.self c.in_ok-list.list _ c.in_ok-list.ensures.opened

pub returns-clause-lists : goal.returns-clause-lists
returns-clause-lists c = list-opened c.args.store.now c.reserve.new.self c.add_list.new.self c.push_here.new.store c.in_ok-list.list _ c.in_ok-reserve.ensures.lists c.in_ok-list.ensures.opened c.push_here.ensures.lists
