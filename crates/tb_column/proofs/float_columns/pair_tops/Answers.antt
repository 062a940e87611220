use Rattle.std.proofs.Common.{◌≡◌, ◌≤◌, length, subst, arith}
use Rattle.tb_pool.specs.Lists.{with_list}
use Rattle.tb_pool.proofs.CallerLemmas.{live_same}
use Rattle.tb_node.specs.declared.Where.TheVariants as places
use Rattle.tb_column.specs.Column.{pair_rule}
use Rattle.tb_column.specs.FloatColumns.{boxes_above}
use Rattle.tb_column.proofs.PageLemmas.{list-opened, fresh-before, is-opened, opened-frame, pair-shown, pair-list}
use Rattle.tb_column.proofs.float_columns.pair_tops.Goals as goal

pub push_above-requires-clause-live : goal.push_above-requires-clause-live
push_above-requires-clause-live c = live_same c.reserve.new.self c.add_list.new.self c.in_ok-tops.tops _ c.in_ok-tops.ensures.opened

-- what the store holds then
made_lists : (c : goal.After-push_above) → c.push_above.new.store.lists ≡ with_list c.args.store.now c.in_ok-tops.tops (boxes_above places.Double c.args.p.now.dblfloatsep (pair_rule c.args.p.now c.args.pool.now.lists) c.args.p.now.dbltextfloatsep c.args.pool.now.lists.double)
made_lists c =
    subst (λ r. c.push_above.new.store.lists ≡ with_list c.args.store.now c.in_ok-tops.tops (boxes_above places.Double c.args.p.now.dblfloatsep r c.args.p.now.dbltextfloatsep c.args.pool.now.lists.double)) c.pair_rule.ensures.value
    (list-opened c.args.store.now c.reserve.new.self c.add_list.new.self c.push_above.new.store c.in_ok-tops.tops _ c.in_ok-reserve.ensures.lists c.in_ok-tops.ensures.opened c.push_above.ensures.lists)

pub returns-clause-floats : goal.returns-clause-floats
returns-clause-floats c = pair-shown c.args.store.now c.push_above.new.store c.in_ok-tops.tops c.args.p.now c.args.pool.now.lists (made_lists c)

pub returns-clause-page : goal.returns-clause-page
returns-clause-page c =
    let few : length c.args.pool.now.lists.double ≤ 4096 = omega (arith, c.len.ensures.value, c.len.ensures.small) in
    pair-list c.args.store.now c.push_above.new.store c.in_ok-tops.tops c.args.p.now c.args.pool.now.lists (made_lists c)
    (fresh-before c.args.store.now c.reserve.new.self c.in_ok-tops.tops c.in_ok-reserve.ensures.lists c.in_ok-tops.ensures.fresh) c.requires c.len.ensures.sized few

pub returns-clause-opened : goal.returns-clause-opened
returns-clause-opened c =
    is-opened c.args.store.now c.push_above.new.store c.in_ok-tops.tops _
    (fresh-before c.args.store.now c.reserve.new.self c.in_ok-tops.tops c.in_ok-reserve.ensures.lists c.in_ok-tops.ensures.fresh) (made_lists c)

pub returns-clause-frame : goal.returns-clause-frame
returns-clause-frame c =
    opened-frame c.args.store.now c.push_above.new.store c.in_ok-tops.tops _
    (fresh-before c.args.store.now c.reserve.new.self c.in_ok-tops.tops c.in_ok-reserve.ensures.lists c.in_ok-tops.ensures.fresh) (made_lists c)
