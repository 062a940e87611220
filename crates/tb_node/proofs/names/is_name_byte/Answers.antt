use Rattle.tb_node.proofs.NameBytes.{table_is}
use Rattle.tb_node.proofs.names.is_name_byte.Goals as goal

pub returns : goal.returns
returns c = rw c.from.ensures (table_is c.args.byte c.ranges.byte.fits)
