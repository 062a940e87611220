use Rattle.std.proofs.Common.{arith}
use Rattle.tb_items.proofs.HappenedLemmas.{here-distinct, here-live, closed-more, others-more}
use Rattle.tb_items.proofs.spent_lists.close_happened.Goals as goal

pub close_happening-requires-clause-live : goal.close_happening-requires-clause-live
close_happening-requires-clause-live c =
    here-live c.args.happened.now c.loop-happening.happening-index c.happening-item.result (omega arith) c.happening-item.is c.args.store.now c.loop-happening.store c.loop-happening.store c.requires.live c.requires.distinct c.loop-happening.invariant.closed c.loop-happening.invariant.others

pub close_happening-requires-clause-distinct : goal.close_happening-requires-clause-distinct
close_happening-requires-clause-distinct c =
    here-distinct c.args.happened.now c.loop-happening.happening-index c.happening-item.result (omega arith) c.happening-item.is c.args.store.now c.loop-happening.store c.loop-happening.store c.requires.live c.requires.distinct c.loop-happening.invariant.closed c.loop-happening.invariant.others

pub loop-happening-preserved : goal.loop-happening-preserved
loop-happening-preserved c = record {
  closed = closed-more c.args.happened.now c.loop-happening.happening-index c.happening-item.result (omega arith) c.happening-item.is c.args.store.now c.loop-happening.store c.close_happening.new.store c.requires.live c.requires.distinct c.loop-happening.invariant.closed c.loop-happening.invariant.others c.close_happening.ensures.closed c.close_happening.ensures.others;
  others = others-more c.args.happened.now c.loop-happening.happening-index c.happening-item.result (omega arith) c.happening-item.is c.args.store.now c.loop-happening.store c.close_happening.new.store c.requires.live c.requires.distinct c.loop-happening.invariant.closed c.loop-happening.invariant.others c.close_happening.ensures.closed c.close_happening.ensures.others;
}
