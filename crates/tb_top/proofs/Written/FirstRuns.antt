-- A routine that shows the first state of a galley runs as the galley does.
use Rattle.std.proofs.Common.{◌≡◌, ap, ℕ, Option, List}
use Rattle.std.proofs.KnownBytes.{Appends-nil}
use Rattle.tb_io.specs.Sink.{AppendsPrefix}
use Rattle.tb_galley.specs.declared.Galley.{Galley}
use Rattle.tb_galley.specs.GalleyNodes.{expanded}
use Rattle.tb_output.specs.State.{first_state}
use Rattle.tb_run.specs.declared.routine.Routine.{Routine}
use Rattle.tb_items.specs.Classes.{classes_of}
use Rattle.tb_steps.specs.Run.{run_of, run_of_state}
use Rattle.tb_run.specs.Routine.{state_of}
use Rattle.tb_top.specs.PagesWritten.{run_on}

module _ (g : Galley) (r : Routine) (state : state_of r ≡ first_state g.params (classes_of g) (expanded g)) where
  pub runs-galley : run_on r ≡ run_of g
  unfolding run_of
  runs-galley = ap run_of_state state

-- nothing is written before the first line
pub none-yet : (held : Option (List ℕ)) (whole : List ℕ) → AppendsPrefix held held whole
none-yet held whole = (0, Appends-nil held)
