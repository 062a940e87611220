use Rattle.std.proofs.Common.{◌≡◌, ◌≤◌, ◌++◌, None}
use Rattle.tb_steps.specs.Run.{firings_left, run_of_state}
use Rattle.tb_run.specs.Routine.{IsReady, state_of}
use Rattle.tb_rate.specs.RatedRun.{demerits_of_state, rated_of_state}
use Rattle.tb_best.specs.BestLines.{broken_columns}
use Rattle.tb_top.specs.BestText.{shown_columns}
use Rattle.tb_top.specs.declared.View.TheVariants as views
use Rattle.tb_top.specs.RatedReport.{rated_text}
use Rattle.tb_top.proofs.Written.GoingLemmas.{Going}
use Rattle.tb_top.proofs.Written.TallyLemmas.{IsTally}
use Rattle.tb_top.proofs.Rated.RatedGoing.{RatedGoing}
use Rattle.tb_top.proofs.Rated.RatedTurns.{IsSum}
use Rattle.tb_top.proofs.Rated.RatedColumns.{ColumnsGoing}
use Rattle.tb_top.proofs.rated_pages.run_on.Given as goal

abbrev pub invariant-firing : goal.invariant-firing
invariant-firing g l = record {
  ready : IsReady l.routine;
  going : Going views.Trace (state_of l.routine) None None l.totals (run_of_state (state_of l.fn.routine));
  tally : IsTally l.totals (state_of l.routine);
  rated : RatedGoing l.fn.places (state_of l.routine) (g.K.Sink.held l.fn.out) (g.K.Sink.held l.out) l.demerits (run_of_state (state_of l.fn.routine)).events (demerits_of_state l.fn.places (state_of l.fn.routine)) (rated_text l.fn.places (state_of l.fn.routine));
  columns : ColumnsGoing l.fn.places (state_of l.routine) (shown_columns l.fn.columns.items ++ broken_columns None (rated_of_state l.fn.places (state_of l.fn.routine))) (shown_columns l.columns.items);
  sum : IsSum l.demerits (state_of l.routine);
  later : g.K.Sink.faults l.fn.out ≤ g.K.Sink.faults l.out;
}

abbrev pub decreases-firing : goal.decreases-firing
decreases-firing g l = firings_left (state_of l.routine)
