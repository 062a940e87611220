use Rattle.tb_told.proofs.ColumnLemmas.{column_takes}
use Rattle.tb_told.proofs.laws.the_company_is_told.Goals as goal

pub returns : goal.returns
returns c = column_takes
