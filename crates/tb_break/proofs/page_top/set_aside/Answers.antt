use Rattle.std.proofs.Common.{◌∙◌, ◌+◌, ◌<◌, sym, refl, length, arith}
use Rattle.tb_pool.specs.Lists.{list_at}
use Rattle.tb_pool.proofs.CallerLemmas.{live_same, with_list-same}
use Rattle.tb_break.proofs.PageTopLemmas.{Turning, begins, turns, stops, ends}
use Rattle.tb_break.proofs.page_top.set_aside.Goals as goal

pub loop-turn-init : goal.loop-turn-init
loop-turn-init c = begins c.args.store.now c.args.store.now c.args.l _ refl (with_list-same c.args.store.now c.args.store.now c.args.l c.requires refl) refl

pub turn-requires : goal.turn-requires
turn-requires c = live_same c.args.store.now c.loop-turn.store c.args.l _ c.loop-turn.invariant.lists

pub returns-in_default-clause-turned : goal.returns-in_default-clause-turned
returns-in_default-clause-turned c =
    let lt : c.loop-turn._turn < length (list_at c.args.store.now c.args.l) = omega arith in
    (stops c.args.store.now c.loop-turn.store c.turn.new.store c.args.l c.loop-turn._turn _ c.loop-turn.kept lt c.loop-turn.invariant c.turn.ensures.turned (sym c.turn.ensures.moved ∙ c.in_default.is)).lists

pub returns-in_default-clause-count : goal.returns-in_default-clause-count
returns-in_default-clause-count c =
    let lt : c.loop-turn._turn < length (list_at c.args.store.now c.args.l) = omega arith in
    (stops c.args.store.now c.loop-turn.store c.turn.new.store c.args.l c.loop-turn._turn _ c.loop-turn.kept lt c.loop-turn.invariant c.turn.ensures.turned (sym c.turn.ensures.moved ∙ c.in_default.is)).count_is

pub overflow_add-kept : goal.overflow_add-kept
overflow_add-kept c =
    let lt : c.loop-turn._turn < length (list_at c.args.store.now c.args.l) = omega arith in
    let later : Turning c.args.store.now c.turn.new.store c.args.l (c.loop-turn._turn + 1) (length (list_at c.args.store.now c.args.l)) (c.loop-turn.kept + c.in-Some.more) =
    turns c.args.store.now c.loop-turn.store c.turn.new.store c.args.l c.loop-turn._turn _ c.loop-turn.kept c.in-Some.more lt c.loop-turn.invariant c.turn.ensures.turned (sym c.turn.ensures.moved ∙ c.in-Some.is) c.turn.ensures.places in
    omega (arith, later.count_is, later.few)

pub loop-turn-preserved : goal.loop-turn-preserved
loop-turn-preserved c =
    let lt : c.loop-turn._turn < length (list_at c.args.store.now c.args.l) = omega arith in
    turns c.args.store.now c.loop-turn.store c.turn.new.store c.args.l c.loop-turn._turn _ c.loop-turn.kept c.in-Some.more lt c.loop-turn.invariant c.turn.ensures.turned (sym c.turn.ensures.moved ∙ c.in-Some.is) c.turn.ensures.places

pub returns-clause-turned : goal.returns-clause-turned
returns-clause-turned c = (ends c.args.store.now c.loop-turn.store c.args.l c.loop-turn._turn _ c.loop-turn.kept (omega arith) c.loop-turn.invariant).lists

pub returns-clause-count : goal.returns-clause-count
returns-clause-count c = (ends c.args.store.now c.loop-turn.store c.args.l c.loop-turn._turn _ c.loop-turn.kept (omega arith) c.loop-turn.invariant).count_is
