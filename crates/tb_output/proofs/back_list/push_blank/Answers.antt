use Rattle.tb_column.proofs.StoreLemmas.{with_list-added}
use Rattle.tb_output.proofs.back_list.push_blank.Goals as goal

pub returns-clause-lists : goal.returns-clause-lists
returns-clause-lists c = with_list-added c.args.store.now c.push_made.new.store c.push_made-2.new.store c.args.l _ _ c.push_made.ensures.lists c.push_made-2.ensures.lists
