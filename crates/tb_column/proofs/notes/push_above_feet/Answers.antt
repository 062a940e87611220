use Rattle.tb_column.proofs.StoreLemmas.{with_list-added}
use Rattle.tb_column.proofs.notes.push_above_feet.Goals as goal

pub returns-clause-lists : goal.returns-clause-lists
returns-clause-lists c =
    let two = with_list-added c.args.store.now c.push_kern.new.store c.push_glue.new.store c.args.l _ _ c.push_kern.ensures.lists c.push_glue.ensures.lists in
    let last = with_list-added c.push_glue.new.store c.push_made.new.store c.push_rule.new.store c.args.l _ _ c.push_made.ensures.lists c.push_rule.ensures.lists in
    with_list-added c.args.store.now c.push_glue.new.store c.push_rule.new.store c.args.l _ _ two last
