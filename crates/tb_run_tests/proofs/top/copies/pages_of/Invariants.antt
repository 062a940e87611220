use Rattle.tb_run.specs.Routine.{IsReady}
use Rattle.tb_run_tests.proofs.top.copies.pages_of.Given as goal

abbrev pub invariant-loop-turn : goal.invariant-loop-turn
invariant-loop-turn l = IsReady l.routine
