use Rattle.std.proofs.Common.{[], sym, subst, ◌∙◌}
use Rattle.tb_output.specs.Machine.{MachineView}
use Rattle.tb_routine_tests.specs.Scenes.{IsScene}
use Rattle.tb_routine_tests.proofs.SceneLemmas.{acted-classes}
use Rattle.tb_routine_tests.proofs.output.scene.Scene.act.Goals as goal

pub invariant_of-self : goal.invariant_of-self
invariant_of-self c = subst (λ (m : MachineView). IsScene m c.self.inside.store) (sym c.in_err-act.ensures.unchanged) c.self.invariant

pub invariant_of-self-2 : goal.invariant_of-self-2
invariant_of-self-2 c = record {
  machine = c.act.ensures.machine c.self.inside.store c.self.invariant.machine;
  classes = acted-classes c.self.inside.store [] [] c.self.inside.machine c.act.new.self c.args.a (c.in_ok-act.ensures.acted c.self.inside.store [] []) ∙ c.self.invariant.classes;
}
