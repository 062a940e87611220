use Rattle.tb_param.proofs.RowNames.{row-read}
use Rattle.tb_param.proofs.table.row_at.Goals as goal

pub returns : goal.returns
returns c = row-read c.args.rows.now c.args.place _ c.requires
