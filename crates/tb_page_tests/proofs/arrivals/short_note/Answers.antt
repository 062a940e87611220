use Rattle.std.proofs.Common.{arith}
use Rattle.tb_insert.specs.WorkedPages.{short_nodes}
use Rattle.tb_insert.proofs.WorkedLemmas.{note_inserted, note_inner, short_sized}
use Rattle.tb_page_tests.proofs.arrivals.short_note.Goals as goal

pub returns-clause-inner : goal.returns-clause-inner
returns-clause-inner c = note_inner c.args.p.now.store c.note.result c.args.class c.args.p.now.short short_nodes _ c.requires.short_made c.note.ensures short_sized (omega arith)

pub returns-clause-inserted : goal.returns-clause-inserted
returns-clause-inserted c = note_inserted c.args.p.now.store c.note.result c.args.class c.args.p.now.short short_nodes _ c.requires.short_made c.note.ensures
