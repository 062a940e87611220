use Rattle.std.proofs.Common.{sym, subst}
use Rattle.tb_output.specs.Machine.{MachineView}
use Rattle.tb_routine_tests.specs.Scenes.{IsScene}
use Rattle.tb_routine_tests.proofs.SceneLemmas.{without-event}
use Rattle.tb_routine_tests.proofs.output.scene.Scene.next_event.Goals as goal
use Rattle.tb_routine_tests.proofs.output.scene.Scene.next_event.Goals.{in-Some, in-None}

pub invariant_of-self : goal.invariant_of-self
invariant_of-self c =
    let store = c.self.inside.store in
    elim c.match-sent.branch [
      | in-Some w ↦ without-event c.sent.new.self w.in-Some.sent store (subst (λ (m : MachineView). IsScene m store) w.in-Some.ensures.some c.self.invariant)
      | in-None w ↦ subst (λ (m : MachineView). IsScene m store) (sym w.in-None.ensures.none.1) c.self.invariant
    ]
