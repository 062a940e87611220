use Rattle.std.proofs.Common.{◌≡◌, ◌≤◌, None}
use Rattle.std.specs.Io.KnownBytes.{append_known}
use Rattle.tb_steps.specs.Run.{firings_left}
use Rattle.tb_run.specs.Routine.{IsReady, state_of}
use Rattle.tb_top.specs.declared.View.TheVariants as views
use Rattle.tb_top.specs.Kept.{Grows}
use Rattle.tb_top.specs.PagesWritten.{run_on}
use Rattle.tb_top.specs.WhyReport.{why_text}
use Rattle.tb_top.proofs.Written.GoingLemmas.{Going}
use Rattle.tb_top.proofs.Written.TallyLemmas.{IsTally}
use Rattle.tb_top.proofs.Why.WhyGoing.{WhyGoing}
use Rattle.tb_top.proofs.Why.WhyTurns.{AreFewSheets}
use Rattle.tb_top.proofs.told_pages.run_on.Given as goal

abbrev pub invariant-firing : goal.invariant-firing
invariant-firing g l = record {
  ready : IsReady l.routine;
  going : Going views.Trace (state_of l.routine) None None l.totals (run_on l.fn.routine);
  told : WhyGoing (state_of l.routine) (g.K.Sink.held l.fn.out) (append_known (g.K.Sink.held l.out) l.kept.items) l.summary (run_on l.fn.routine).events (why_text (state_of l.fn.routine));
  grown : Grows (g.K.Sink.held l.fn.out) (g.K.Sink.held l.out);
  tally : IsTally l.totals (state_of l.routine);
  sheets : AreFewSheets l.summary (state_of l.routine);
  later : g.K.Sink.faults l.fn.out ≤ g.K.Sink.faults l.out;
}

abbrev pub decreases-firing : goal.decreases-firing
decreases-firing g l = firings_left (state_of l.routine)
