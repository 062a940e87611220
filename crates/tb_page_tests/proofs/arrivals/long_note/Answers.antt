use Rattle.std.proofs.Common.{arith}
use Rattle.tb_insert.specs.WorkedPages.{long_nodes}
use Rattle.tb_insert.proofs.WorkedLemmas.{note_inserted, note_inner, long_sized}
use Rattle.tb_page_tests.proofs.arrivals.long_note.Goals as goal

pub returns-clause-inner : goal.returns-clause-inner
returns-clause-inner c = note_inner c.args.p.now.store c.note.result 254 c.args.p.now.long long_nodes _ c.requires.long_made c.note.ensures long_sized (omega arith)

pub returns-clause-inserted : goal.returns-clause-inserted
returns-clause-inserted c = note_inserted c.args.p.now.store c.note.result 254 c.args.p.now.long long_nodes _ c.requires.long_made c.note.ensures
