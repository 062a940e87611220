use Rattle.std.proofs.Common.{sym, arith}
use Rattle.std.proofs.lemmas.List.{nil_from_length}
use Rattle.tb_pool.proofs.CallerLemmas.{live_same, live_other}
use Rattle.tb_node.specs.declared.Where.TheVariants as places
use Rattle.tb_column.specs.TextColumns.{top_list}
use Rattle.tb_column.proofs.StoreLemmas.{helper-apart, helped}
use Rattle.tb_column.proofs.MovingLemmas.{before-none}
use Rattle.tb_column.proofs.areas.put_above.Goals as goal

pub returns-then-len-eq0-clause-lists : goal.returns-then-len-eq0-clause-lists
returns-then-len-eq0-clause-lists c =
    before-none c.args.store.now c.args.body c.requires.live places.Top c.args.p.now.floatsep c.args.p.now.toprule c.args.p.now.textfloatsep c.args.pool.now.lists.top
    (nil_from_length c.args.pool.now.lists.top (omega (arith, c.len.ensures.value, c.if-len-eq0.true)))

pub push_above-requires-clause-live : goal.push_above-requires-clause-live
push_above-requires-clause-live c = live_same c.args.store.now c.add_list.new.self c.in_ok-above.above _ c.in_ok-above.ensures.opened

pub put_before-requires-clause-live : goal.put_before-requires-clause-live
put_before-requires-clause-live c =
    let apart = helper-apart c.args.store.now c.in_ok-above.above c.args.body c.in_ok-above.ensures.fresh c.requires.live in
    live_other c.add_list.new.self c.push_above.new.store c.in_ok-above.above _ c.args.body (λ e. apart (sym e)) c.push_above.ensures.lists
    (live_other c.args.store.now c.add_list.new.self c.in_ok-above.above _ c.args.body (λ e. apart (sym e)) c.in_ok-above.ensures.opened c.requires.live)

pub returns-clause-lists : goal.returns-clause-lists
returns-clause-lists c =
    helped c.args.store.now c.add_list.new.self c.push_above.new.store c.put_before.new.store c.in_ok-above.above c.args.body (top_list c.args.p.now c.args.pool.now.lists)
    c.in_ok-above.ensures.fresh c.requires.live c.in_ok-above.ensures.opened c.push_above.ensures.lists c.put_before.ensures.lists

pub returns-clause-live : goal.returns-clause-live
returns-clause-live c = live_same c.args.store.now c.put_before.new.store c.args.body _ (returns-clause-lists c)
