use Rattle.std.proofs.Common.{sym, subst, ◌∙◌, List}
use Rattle.tb_insert.specs.declared.Class.{Class}
use Rattle.tb_output.specs.Machine.{AreClassesFrom}
use Rattle.tb_output.proofs.ColumnPages.ParamLemmas.{output-params}
use Rattle.tb_routine_tests.proofs.SceneLemmas.{classes-rise}
use Rattle.tb_routine_tests.proofs.output.scene.open.Goals as goal

pub new_machine-requires-clause-params : goal.new_machine-requires-clause-params
new_machine-requires-clause-params c = output-params c.args.p.now c.requires

pub new_machine-requires-clause-classes : goal.new_machine-requires-clause-classes
new_machine-requires-clause-classes c = subst (λ (cs : List Class). AreClassesFrom 0 cs) (sym c.classes.ensures) classes-rise

pub invariant_of-result : goal.invariant_of-result
invariant_of-result c = record { machine = c.in_ok-machine.ensures.machine; classes = c.in_ok-machine.ensures.classes ∙ c.classes.ensures }
