use Rattle.std.proofs.Common.{◌≡◌, ◌≤◌}
use Rattle.std.specs.Io.KnownBytes.{append_known}
use Rattle.tb_makeup.specs.Makeup.{IsReady, state_of, turns_left}
use Rattle.tb_top.specs.Kept.{Grows}
use Rattle.tb_top.specs.MakeupWritten.{run_on}
use Rattle.tb_top.specs.Views.{viewed}
use Rattle.tb_top.proofs.Plain.MakeupGoing.{Going}
use Rattle.tb_top.proofs.makeup_pages.run_on.Given as goal

abbrev pub invariant-page : goal.invariant-page
invariant-page g l = record {
  ready : IsReady l.makeup;
  params : l.makeup.plain.params ≡ l.fn.makeup.plain.params;
  going : Going l.fn.makeup.plain.params l.fn.view (state_of l.makeup) (g.K.Sink.held l.fn.out) (append_known (g.K.Sink.held l.out) (viewed l.fn.view l.kept.items)) l.totals (run_on l.fn.makeup);
  grown : Grows (g.K.Sink.held l.fn.out) (g.K.Sink.held l.out);
  later : g.K.Sink.faults l.fn.out ≤ g.K.Sink.faults l.out;
}

abbrev pub decreases-page : goal.decreases-page
decreases-page g l = turns_left l.fn.makeup.plain.params (state_of l.makeup)
