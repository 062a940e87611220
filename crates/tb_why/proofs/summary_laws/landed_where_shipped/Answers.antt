use Rattle.tb_why.proofs.LandingLemmas.{landed_as_shipped}
use Rattle.tb_why.proofs.summary_laws.landed_where_shipped.Goals as goal

pub returns : goal.returns
returns c = landed_as_shipped
