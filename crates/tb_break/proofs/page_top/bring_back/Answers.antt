use Rattle.std.proofs.Common.{◌<◌, refl, length, arith}
use Rattle.tb_pool.proofs.CallerLemmas.{live_same, with_list-same}
use Rattle.tb_break.proofs.PageTopLemmas.{starts_back, comes_back, all_back, some_left}
use Rattle.tb_break.proofs.page_top.bring_back.Goals as goal

pub loop-turn-init : goal.loop-turn-init
loop-turn-init c = record {
  live = c.requires;
  spare = refl;
  back = λ front aside is len. starts_back c.args.store.now c.args.store.now c.args.l refl (with_list-same c.args.store.now c.args.store.now c.args.l c.requires refl) front aside is;
}

pub returns-in_default-clause-moved : goal.returns-in_default-clause-moved
returns-in_default-clause-moved c = λ front aside is len.
    let lt : c.loop-turn._turn < length aside = omega arith in
    absurd (some_left c.args.store.now c.loop-turn.store c.args.l front aside c.loop-turn._turn lt (c.loop-turn.invariant.back front aside is len) (c.in_default.ensures.empty.0 refl))

pub push_front-requires-clause-live : goal.push_front-requires-clause-live
push_front-requires-clause-live c = live_same c.loop-turn.store c.pop_back.new.self c.args.l _ c.in-Some.ensures.rest

pub loop-turn-preserved : goal.loop-turn-preserved
loop-turn-preserved c = record {
  live = live_same c.pop_back.new.self c.push_front.new.self c.args.l _ c.push_front.ensures.pushed;
  spare = omega (arith, c.loop-turn.invariant.spare, c.in-Some.ensures.spare, c.push_front.ensures.spare);
  back = λ front aside is len.
      let lt : c.loop-turn._turn < length aside = omega arith in
      comes_back c.args.store.now c.loop-turn.store c.pop_back.new.self c.push_front.new.self c.args.l front aside c.loop-turn._turn c.in-Some.n _ lt (c.loop-turn.invariant.back front aside is len) c.in-Some.ensures.popped c.in-Some.ensures.rest c.push_front.ensures.pushed;
}

pub returns-clause-moved : goal.returns-clause-moved
returns-clause-moved c = λ front aside is len. all_back c.args.store.now c.loop-turn.store c.args.l front aside c.loop-turn._turn (omega arith) (c.loop-turn.invariant.back front aside is len)
