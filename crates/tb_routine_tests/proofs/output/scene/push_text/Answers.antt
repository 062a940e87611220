use Rattle.tb_pool.proofs.CallerLemmas.{length-pushed, get_other}
use Rattle.tb_routine_tests.proofs.SceneLemmas.{page-more}
use Rattle.tb_routine_tests.proofs.output.scene.push_text.Goals as goal

pub returns-clause-page : goal.returns-clause-page
returns-clause-page c = page-more c.args.store.now c.push_back.new.self c.args.list c.args.kind c.requires.page c.requires.few c.push_back.ensures.pushed c.requires.kind

pub returns-clause-count : goal.returns-clause-count
returns-clause-count c = length-pushed c.args.store.now c.push_back.new.self c.args.list _ c.push_back.ensures.pushed

pub returns-clause-others : goal.returns-clause-others
returns-clause-others c = λ q ne. get_other c.args.store.now c.push_back.new.self c.args.list _ q ne c.push_back.ensures.pushed
