use Rattle.tb_column.proofs.StoreLemmas.{with_list-added}
use Rattle.tb_column.proofs.notes.push_plain_rule.Goals as goal

pub returns-clause-lists : goal.returns-clause-lists
returns-clause-lists c =
    let two = with_list-added c.args.store.now c.push_made.new.store c.push_made-2.new.store c.args.l _ _ c.push_made.ensures.lists c.push_made-2.ensures.lists in
    let three = with_list-added c.args.store.now c.push_made-2.new.store c.push_made-3.new.store c.args.l _ _ two c.push_made-3.ensures.lists in
    with_list-added c.args.store.now c.push_made-3.new.store c.push_made-4.new.store c.args.l _ _ three c.push_made-4.ensures.lists
