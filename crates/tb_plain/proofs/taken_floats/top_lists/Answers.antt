use Rattle.std.proofs.Common.{ap, ◌∙◌, [], is_some, unwrap_or}
use Rattle.std.specs.FinMap.{get, remove}
use Rattle.tb_pool.proofs.CallerLemmas.{list_same, live_same}
use Rattle.tb_plain.proofs.PutLemmas.{opened-closed, two-opened}
use Rattle.tb_plain.proofs.taken_floats.top_lists.Goals as goal

pub close-requires-clause-live : goal.close-requires-clause-live
close-requires-clause-live c =
    ap (λ m. is_some (get m c.in_ok-list.list)) c.in_default.ensures.err ∙ live_same c.reserve.new.self c.add_list.new.self c.in_ok-list.list [] c.in_ok-list.ensures.opened

pub close-requires-clause-empty : goal.close-requires-clause-empty
close-requires-clause-empty c =
    ap (λ m. unwrap_or (get m c.in_ok-list.list) []) c.in_default.ensures.err ∙ list_same c.reserve.new.self c.add_list.new.self c.in_ok-list.list [] c.in_ok-list.ensures.opened

pub returns-in_default-clause-err : goal.returns-in_default-clause-err
returns-in_default-clause-err c =
    c.close.ensures.closed
    ∙ ap (λ m. remove m c.in_ok-list.list) (c.in_default.ensures.err ∙ c.in_ok-list.ensures.opened)
    ∙ opened-closed c.reserve.new.self.lists c.in_ok-list.list c.in_ok-list.ensures.fresh
    ∙ c.in_ok-reserve.ensures.lists

pub returns-clause-opened : goal.returns-clause-opened
returns-clause-opened c =
    two-opened c.args.store.now c.reserve.new.self c.add_list.new.self c.add_list-2.new.self c.in_ok-list.list c.in-Ok.inner c.in_ok-reserve.ensures.lists c.in_ok-list.ensures.fresh c.in_ok-list.ensures.opened
    c.in-Ok.ensures.fresh c.in-Ok.ensures.opened
