use Rattle.std.proofs.Common.{◌≤◌, ℕ, List, Option, drop}
use Rattle.std.specs.Io.KnownBytes.{append_known}
use Rattle.tb_dvi.specs.File.{Page}
use Rattle.tb_dvi.specs.Progress.{IsInFile}
use Rattle.tb_items.specs.Happenings.{events_of, ArePages}
use Rattle.tb_laws.specs.DviPages.{event_pages}
use Rattle.tb_top.specs.DviWritten.{HoldsPages}
use Rattle.tb_top.specs.Kept.{Grows}
use Rattle.tb_top.proofs.DviFiles.DviSending.{Sending}
use Rattle.tb_top.proofs.dvi_pages.send.Given as goal

abbrev pub invariant-loop-happening : goal.invariant-loop-happening
invariant-loop-happening g l = record {
  in_file : IsInFile l.progress;
  sent : (start : Option (List ℕ)) (ps : List Page) → Grows start (g.K.Sink.held l.fn.out) → HoldsPages start (append_known (g.K.Sink.held l.fn.out) l.fn.kept.items) l.fn.progress ps → Sending start (append_known (g.K.Sink.held l.out) l.kept.items) l.progress ps (event_pages (events_of l.store l.fn.happened)) (event_pages (events_of l.store (drop l.happening-index l.happened)));
  grown : Grows (g.K.Sink.held l.fn.out) (g.K.Sink.held l.out);
  later : g.K.Sink.faults l.fn.out ≤ g.K.Sink.faults l.out;
  pages : ArePages l.store (drop l.happening-index l.happened);
}
