use Rattle.std.proofs.Common.{◌≡◌, ◌++◌, drop}
use Rattle.tb_items.specs.Happenings.{events_of, ArePages}
use Rattle.tb_top.specs.Report.{all_lines, event_lines}
use Rattle.tb_top.proofs.rated_pages.put_reports.Given as goal

abbrev pub invariant-loop-happening : goal.invariant-loop-happening
invariant-loop-happening l = record {
  lines : l.text.items ++ all_lines event_lines (events_of l.store (drop l.happening-index l.happened)) ≡ l.fn.text.items ++ all_lines event_lines (events_of l.store l.fn.happened);
  pages : ArePages l.store (drop l.happening-index l.happened);
}
