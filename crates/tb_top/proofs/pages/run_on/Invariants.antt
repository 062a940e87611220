use Rattle.std.proofs.Common.{◌≡◌, ◌≤◌}
use Rattle.std.specs.Io.KnownBytes.{append_known}
use Rattle.tb_steps.specs.Run.{firings_left}
use Rattle.tb_run.specs.Routine.{IsReady, state_of}
use Rattle.tb_top.specs.Kept.{Grows}
use Rattle.tb_top.specs.PagesWritten.{run_on}
use Rattle.tb_top.specs.Views.{viewed}
use Rattle.tb_top.proofs.Written.GoingLemmas.{Going}
use Rattle.tb_top.proofs.Written.TallyLemmas.{IsTally}
use Rattle.tb_top.proofs.pages.run_on.Given as goal

abbrev pub invariant-firing : goal.invariant-firing
invariant-firing g l = record {
  ready : IsReady l.routine;
  going : Going l.fn.view (state_of l.routine) (g.K.Sink.held l.fn.out) (append_known (g.K.Sink.held l.out) (viewed l.fn.view l.kept.items)) l.totals (run_on l.fn.routine);
  grown : Grows (g.K.Sink.held l.fn.out) (g.K.Sink.held l.out);
  tally : IsTally l.totals (state_of l.routine);
  later : g.K.Sink.faults l.fn.out ≤ g.K.Sink.faults l.out;
}

abbrev pub decreases-firing : goal.decreases-firing
decreases-firing g l = firings_left (state_of l.routine)
