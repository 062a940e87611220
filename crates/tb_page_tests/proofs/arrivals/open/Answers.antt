use Rattle.tb_insert.proofs.WorkedLemmas.{new_stands}
use Rattle.tb_page_tests.proofs.arrivals.open.Goals as goal

pub returns-clause-stands : goal.returns-clause-stands
returns-clause-stands c = new_stands c.new_account.result c.new_scan.result c.new_account.ensures c.new_scan.ensures.value
