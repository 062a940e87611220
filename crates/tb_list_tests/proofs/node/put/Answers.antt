use Rattle.std.proofs.Common.{arith}
use Rattle.tb_node.specs.Fit.{IsSizedNode}
use Rattle.tb_pool.proofs.CallerLemmas.{length-pushed, All-pushed}
use Rattle.tb_list_tests.proofs.node.put.Goals as goal

pub returns-clause-list : goal.returns-clause-list
returns-clause-list c = All-pushed c.args.lists.now c.push_back.new.self c.args.l _ IsSizedNode c.push_back.ensures.pushed c.requires.list c.requires.node

pub returns-clause-length : goal.returns-clause-length
returns-clause-length c = length-pushed c.args.lists.now c.push_back.new.self c.args.l _ c.push_back.ensures.pushed

pub returns-clause-few : goal.returns-clause-few
returns-clause-few c = omega (arith, c.requires.few, length-pushed c.args.lists.now c.push_back.new.self c.args.l _ c.push_back.ensures.pushed)
