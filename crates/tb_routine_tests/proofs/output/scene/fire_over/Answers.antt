use Rattle.std.proofs.Common.{◌∙◌}
use Rattle.tb_routine_tests.proofs.SceneLemmas.{if-none}
use Rattle.tb_routine_tests.proofs.output.scene.fire_over.Goals as goal

pub fire-fired-requires-clause-page : goal.fire-fired-requires-clause-page
fire-fired-requires-clause-page c = if-none c.args.machine.now.fault _ c.requires.page

pub returns : goal.returns
returns c = record { machine = c.fire-fired.ensures.keeps.machine; classes = c.fire-fired.ensures.keeps.classes ∙ c.requires.scene.classes }
