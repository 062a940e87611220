use Rattle.tb_output.proofs.ColumnPages.ParamLemmas.{output-params}
use Rattle.tb_routine_tests.proofs.output.scene.copied.Goals as goal

pub new_machine-requires-clause-params : goal.new_machine-requires-clause-params
new_machine-requires-clause-params c = output-params c.defaults.result c.defaults.ensures.in_range
