use Rattle.tb_column.proofs.StoreLemmas.{with_list-added}
use Rattle.tb_output.proofs.InText.PushLemmas.{pushed-first}
use Rattle.tb_output.proofs.back_list.push_blank_clear.Goals as goal

pub returns-clause-ok : goal.returns-clause-ok
returns-clause-ok c =
    let one = pushed-first c.args.store.now c.reserve.new.self c.push_made.new.store c.args.l _ c.in_ok-reserve.ensures.lists c.push_made.ensures.lists in
    with_list-added c.args.store.now c.push_made.new.store c.push_clear_nodes.new.store c.args.l _ _ one c.push_clear_nodes.ensures
