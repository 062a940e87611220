use Rattle.tb_insert.proofs.StandsLemmas.{stands-plain}
use Rattle.tb_insert.proofs.law.plain_nodes_join.Goals as goal

pub returns : goal.returns
returns _ = stands-plain
