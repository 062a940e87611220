use Rattle.tb_node.specs.Fit.{IsSizedNode}
use Rattle.tb_pool.proofs.CallerLemmas.{length-pushed, All-pushed}
use Rattle.tb_text_tests.proofs.report.put.Goals as goal

pub returns-clause-sized : goal.returns-clause-sized
returns-clause-sized c = All-pushed c.args.lists.now c.push_back.new.self c.args.l _ IsSizedNode c.push_back.ensures.pushed c.requires.sized c.requires.node

pub returns-clause-length : goal.returns-clause-length
returns-clause-length c = length-pushed c.args.lists.now c.push_back.new.self c.args.l _ c.push_back.ensures.pushed
