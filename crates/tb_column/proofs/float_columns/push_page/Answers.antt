use Rattle.tb_column.proofs.MovingLemmas.{page-put}
use Rattle.tb_column.proofs.float_columns.push_page.Goals as goal

pub returns-clause-lists : goal.returns-clause-lists
returns-clause-lists c =
    page-put c.args.store.now c.push_made.new.store c.push_made-2.new.store c.push_marked.new.store c.push_made-3.new.store c.args.l c.args.around.now _
    c.push_made.ensures.lists (rw c.negate.ensures at c.push_made-2.ensures.lists) c.push_marked.ensures.lists c.push_made-3.ensures.lists
