use Rattle.std.proofs.Common.{◌≡◌, ◌++◌, List, length}
use Rattle.tb_pool.specs.Lists.{IsLive, list_at}
use Rattle.tb_node.specs.declared.Node.{Node}
use Rattle.tb_break.proofs.PageTopLemmas.{Returned}
use Rattle.tb_break.proofs.page_top.bring_back.Given as goal

abbrev pub invariant-loop-turn : goal.invariant-loop-turn
invariant-loop-turn l = record {
  live : IsLive l.store l.fn.l;
  spare : l.store.spare ≡ l.initial.store.spare;
  back : (front aside : List Node) → list_at l.initial.store l.fn.l ≡ front ++ aside → length aside ≡ l.fn.count → Returned l.initial.store l.store l.fn.l front aside l._turn;
}
