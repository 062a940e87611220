use Rattle.std.proofs.Common.{◌≡◌, ◌≤◌}
use Rattle.std.specs.Io.KnownBytes.{append_known}
use Rattle.tb_dvi.specs.Progress.{IsInFile}
use Rattle.tb_steps.specs.Run.{run_of, firings_left}
use Rattle.tb_run.specs.Routine.{IsReady, state_of}
use Rattle.tb_top.specs.Kept.{Grows}
use Rattle.tb_top.proofs.DviFiles.DviGoing.{Going}
use Rattle.tb_top.proofs.dvi_pages.write_run.Given as goal

abbrev pub invariant-firing : goal.invariant-firing
invariant-firing g l = record {
  ready : IsReady l.routine;
  in_file : IsInFile l.progress;
  going : Going (state_of l.routine) (g.K.Sink.held l.fn.out) (append_known (g.K.Sink.held l.out) l.kept.items) l.progress (run_of l.fn.galley);
  grown : Grows (g.K.Sink.held l.fn.out) (g.K.Sink.held l.out);
  later : g.K.Sink.faults l.fn.out ≤ g.K.Sink.faults l.out;
}

abbrev pub decreases-firing : goal.decreases-firing
decreases-firing g l = firings_left (state_of l.routine)
