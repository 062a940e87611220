use Rattle.std.proofs.Common.{◌∙◌, ap, sym, []}
use Rattle.std.specs.FinMap.{get}
use Rattle.tb_pool.proofs.CallerLemmas.{live_same}
use Rattle.tb_page_tests.proofs.PlainLemmas.{list_made, list_others}
use Rattle.tb_page_tests.proofs.plain.node_list.Goals as goal

pub push_back-requires-clause-live : goal.push_back-requires-clause-live
push_back-requires-clause-live c = live_same c.reserve.new.self c.add_list.new.self c.in_ok-list.list [] c.in_ok-list.ensures.opened

pub returns-clause-fresh : goal.returns-clause-fresh
returns-clause-fresh c = ap (λ m. get m c.in_ok-list.list) (sym c.reserve.ensures.lists) ∙ c.in_ok-list.ensures.fresh

pub returns-clause-made : goal.returns-clause-made
returns-clause-made c = list_made c.args.store.now c.reserve.new.self c.add_list.new.self c.push_back.new.self c.in_ok-list.list c.args.n c.reserve.ensures.lists c.in_ok-list.ensures.fresh c.in_ok-list.ensures.opened c.push_back.ensures.pushed

pub returns-clause-others : goal.returns-clause-others
returns-clause-others c = list_others c.args.store.now c.reserve.new.self c.add_list.new.self c.push_back.new.self c.in_ok-list.list c.args.n c.reserve.ensures.lists c.in_ok-list.ensures.fresh c.in_ok-list.ensures.opened c.push_back.ensures.pushed
