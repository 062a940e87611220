use Rattle.std.proofs.Common.{refl, arith}
use Rattle.tb_items.specs.ItemsLeft.{next_nodes}
use Rattle.tb_search.proofs.WaitingLemmas.{now-wait}
use Rattle.tb_search.proofs.moves.hand_next.Goals as goal

pub returns : goal.returns
returns c =
    let h = c.in_ok-more.ensures in
    let e = c.next_count-count.ensures in
    let few = c.requires.few in
    record {
      wait = now-wait (next_nodes c.args.ahead.now) c.args.routine.now _ c.requires.ready c.requires.none h.waits refl refl c.next_count-count.result refl (omega (arith, e)) (omega (arith, e, few));
      past = h.past;
      all = h.all;
      items = h.items;
    }
