use Rattle.std.proofs.Common.{◌≡◌, ◌∙◌, sym, subst, List, []}
use Rattle.std.specs.Prelude.{IfOk}
use Rattle.tb_insert.specs.declared.Class.{Class}
use Rattle.tb_output.specs.State.{first_state}
use Rattle.tb_run.specs.declared.routine.Routine.{Routine}
use Rattle.tb_steps.specs.Runnable.{AreRunClasses}
use Rattle.tb_run.specs.Routine.{state_of}
use Rattle.tb_run.proofs.routine.Routine.empty.Goals as goal

pub begun-requires-clause-classes : goal.begun-requires-clause-classes
begun-requires-clause-classes c = subst AreRunClasses (sym (c.as_slice.ensures.value ∙ c.in_ok-classes.ensures)) c.requires.classes

pub returns-clause-state : goal.returns-clause-state
returns-clause-state c =
    subst (λ (cs : List Class). IfOk c.begun.result (λ (r : Routine). state_of r ≡ first_state c.args.galley.now.params cs [])) (c.as_slice.ensures.value ∙ c.in_ok-classes.ensures) c.begun.ensures.state
