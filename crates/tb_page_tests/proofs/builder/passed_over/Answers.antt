use Rattle.tb_builder.specs.Contents.{contents_of}
use Rattle.tb_builder.proofs.Ranges.PageableLemmas.{contents_fit}
use Rattle.tb_page_tests.proofs.builder.passed_over.Goals as goal

pub next_without_tries-requires-clause-fits : goal.next_without_tries-requires-clause-fits
next_without_tries-requires-clause-fits c = contents_fit (contents_of c.args.p.now.builder c.args.p.now.store) c.args.p.now.ask c.requires.pageable
