use Rattle.tb_output.proofs.InText.PushLemmas.{pushed-first}
use Rattle.tb_output.proofs.back_list.push_clear.Goals as goal

pub returns-clause-ok : goal.returns-clause-ok
returns-clause-ok c = pushed-first c.args.store.now c.reserve.new.self c.push_clear_nodes.new.store c.args.l _ c.in_ok-reserve.ensures.lists c.push_clear_nodes.ensures
