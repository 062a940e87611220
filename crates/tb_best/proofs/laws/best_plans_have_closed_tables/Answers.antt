use Rattle.tb_best.proofs.ReachedLemmas.{reached-closed, reached-by-pages}
use Rattle.tb_best.proofs.laws.best_plans_have_closed_tables.Goals as goal

pub returns-clause-states : goal.returns-clause-states
returns-clause-states c = reached-closed

pub returns-clause-pages : goal.returns-clause-pages
returns-clause-pages c = reached-by-pages
