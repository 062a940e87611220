use Rattle.tb_insert.proofs.WorkedLemmas.{split_arrives}
use Rattle.tb_page_tests.proofs.arrivals.an_insertion_that_the_page_splits.Goals as goal

pub arrive-requires-clause-fits : goal.arrive-requires-clause-fits
arrive-requires-clause-fits g c = split_arrives c.in_ok-p.p.store c.in_ok-p.p.account c.in_ok-p.p.scan c.short_note-note.result c.footnotes.result c.in_ok-p.ensures.stands c.footnotes.ensures c.short_note-note.ensures.inner c.add.new.self c.make_box.result c.make_box.ensures c.add.ensures.value c.short_note-note.ensures.inserted
