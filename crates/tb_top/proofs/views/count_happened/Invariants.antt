use Rattle.std.proofs.Common.{◌≡◌, drop}
use Rattle.tb_items.specs.Happenings.{events_of, ArePages}
use Rattle.tb_top.specs.Views.{with_events}
use Rattle.tb_top.proofs.views.count_happened.Given as goal

abbrev pub invariant-loop-happening : goal.invariant-loop-happening
invariant-loop-happening l = record {
  counted : with_events (events_of l.store (drop l.happening-index l.happened)) l.totals ≡ with_events (events_of l.store l.fn.happened) l.fn.totals;
  pages : ArePages l.store (drop l.happening-index l.happened);
}
