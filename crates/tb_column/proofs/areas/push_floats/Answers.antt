use Rattle.std.proofs.Common.{arith}
use Rattle.tb_pool.proofs.CallerLemmas.{live_same}
use Rattle.tb_column.proofs.MovingLemmas.{area_begin, area_float, area_more, area_go}
use Rattle.tb_column.proofs.areas.push_floats.Goals as goal

pub floats-init : goal.floats-init
floats-init c = area_begin c.args.area c.requires.area c.args.place c.args.sep c.args.l c.args.store.now c.args.pool.now c.requires.live

pub float_in-requires : goal.float_in-requires
float_in-requires c = area_float c.args.area c.requires.area c.floats.pool c.in-Some.entry c.in-Some.ensures.first

pub push_float-requires-clause-live : goal.push_float-requires-clause-live
push_float-requires-clause-live c = live_same c.args.store.now c.floats.store c.args.l _ c.floats.invariant.lists

pub floats-smaller : goal.floats-smaller
floats-smaller c =
    omega (arith, area_more c.args.area c.requires.area c.args.place c.args.sep c.args.l c.args.store.now c.args.pool.now c.floats.pool c.retire.new.self c.in-Some.entry c.in-Some.ensures.first c.in-Some.ensures.rest)

pub floats-preserved : goal.floats-preserved
floats-preserved c =
    area_go c.args.area c.requires.area c.args.place c.args.sep c.args.l c.args.store.now c.args.pool.now c.floats.store c.push_float.new.store c.push_made.new.store c.floats.pool c.retire.new.self c.in-Some.entry c.float_in.result
    c.floats.invariant c.in-Some.ensures.first c.in-Some.ensures.rest c.float_in.ensures c.push_float.ensures.lists c.push_float.ensures.spare c.push_made.ensures.lists c.push_made.ensures.spare

pub returns-clause-live : goal.returns-clause-live
returns-clause-live c = live_same c.args.store.now c.floats.store c.args.l _ c.floats.invariant.lists
