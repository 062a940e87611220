use Rattle.tb_column.proofs.GatherLemmas.{front_apart, front_text, front_joined}
use Rattle.tb_column.proofs.text_columns.put_front.Goals as goal

pub join_notes-requires-clause-notes : goal.join_notes-requires-clause-notes
join_notes-requires-clause-notes c = front_apart c.args.store.now c.put_above.new.store c.put_top_glue.new.store c.args.p.now c.args.pool.now.lists c.args.body c.in_ok-put_above.ensures.lists c.put_top_glue.ensures.lists c.args.notes.now c.requires.notes

pub returns-clause-text : goal.returns-clause-text
returns-clause-text c = front_text c.args.store.now c.put_above.new.store c.put_top_glue.new.store c.args.p.now c.args.pool.now.lists c.args.body c.in_ok-put_above.ensures.lists c.put_top_glue.ensures.lists c.args.notes.now c.requires.notes c.join_notes.new.store c.join_notes.ensures.text

pub returns-clause-lists : goal.returns-clause-lists
returns-clause-lists c = front_joined c.args.store.now c.put_above.new.store c.put_top_glue.new.store c.args.p.now c.args.pool.now.lists c.args.body c.in_ok-put_above.ensures.lists c.put_top_glue.ensures.lists c.args.notes.now c.requires.notes c.join_notes.new.store c.join_notes.ensures.lists
