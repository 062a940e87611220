use Rattle.tb_insert.proofs.WorkedLemmas.{end_arrives}
use Rattle.tb_page_tests.proofs.arrivals.an_insertion_that_is_split_at_its_end.Goals as goal

pub arrive-requires-clause-fits : goal.arrive-requires-clause-fits
arrive-requires-clause-fits g c = end_arrives c.in_ok-p.p.store c.in_ok-p.p.account c.in_ok-p.p.scan c.single_note-note.result c.footnotes.result c.in_ok-p.ensures.stands c.footnotes.ensures c.single_note-note.ensures.inner c.single_note-note.ensures.inserted
