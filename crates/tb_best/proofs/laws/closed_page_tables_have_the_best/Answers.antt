use Rattle.tb_best.specs.ClosedTables.{rows_know}
use Rattle.tb_best.proofs.PageTableLemmas.{closed-pages-best}
use Rattle.tb_best.proofs.laws.closed_page_tables_have_the_best.Goals as goal

pub returns : goal.returns
returns c = λ g plan total rows. closed-pages-best g plan total (rows_know rows)
