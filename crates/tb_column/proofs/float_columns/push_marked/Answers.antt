use Rattle.std.proofs.Common.{◌≡◌, ◌∙◌, [], arith}
use Rattle.tb_pool.proofs.CallerLemmas.{live_same}
use Rattle.tb_float.specs.Pool.{marked_floats}
use Rattle.tb_column.proofs.MovingLemmas.{marked_begin, marked_go, marked_left}
use Rattle.tb_column.proofs.float_columns.push_marked.Goals as goal

pub floats-init : goal.floats-init
floats-init c = marked_begin c.args.from c.requires.waiting c.args.sep c.args.l c.args.store.now c.args.pool.now c.requires.live c.requires.marks

pub push_made-requires-clause-live : goal.push_made-requires-clause-live
push_made-requires-clause-live c = live_same c.args.store.now c.floats.store c.args.l _ c.floats.invariant.lists

pub floats-preserved : goal.floats-preserved
floats-preserved c =
    marked_go c.args.from c.requires.waiting c.args.sep c.args.l c.args.store.now c.args.pool.now c.floats.store c.push_made.new.store c.push_float.new.store c.floats.pool c.retire_marked.new.self c.in-Some.float
    c.floats.invariant c.in-Some.ensures.first c.in-Some.ensures.others c.in-Some.ensures.rest c.push_made.ensures.lists c.push_made.ensures.spare c.push_float.ensures.lists c.push_float.ensures.spare

pub returns-clause-live : goal.returns-clause-live
returns-clause-live c = live_same c.args.store.now c.floats.store c.args.l _ c.floats.invariant.lists

pub returns-clause-pool : goal.returns-clause-pool
returns-clause-pool c =
    let none : marked_floats c.args.from c.floats.pool ≡ [] = grind (arith, c.in_default.ensures.none, c.in_default.is) in
    c.in_default.ensures.unchanged ∙ marked_left c.args.from c.requires.waiting c.args.sep c.args.l c.args.store.now c.args.pool.now c.floats.store c.floats.pool c.floats.invariant none c.in_default.ensures.all_unmarked
