use Rattle.std.proofs.Common.{arith}
use Rattle.tb_insert.specs.WorkedPages.{single_node}
use Rattle.tb_insert.proofs.WorkedLemmas.{note_inserted, note_inner, single_sized}
use Rattle.tb_page_tests.proofs.arrivals.single_note.Goals as goal

pub returns-clause-inner : goal.returns-clause-inner
returns-clause-inner c = note_inner c.args.p.now.store c.note.result 254 c.args.p.now.single single_node _ c.requires.single_made c.note.ensures single_sized (omega arith)

pub returns-clause-inserted : goal.returns-clause-inserted
returns-clause-inserted c = note_inserted c.args.p.now.store c.note.result 254 c.args.p.now.single single_node _ c.requires.single_made c.note.ensures
