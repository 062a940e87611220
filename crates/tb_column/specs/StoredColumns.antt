-- Columns as the definitions see them, in a store that holds their lists.
use Rattle.tb_pool.specs.Lists.{Lists}
use Rattle.tb_node.specs.declared.Node.{Node}
use Rattle.tb_node.specs.PlainNodes.{plain_list}
use Rattle.tb_column.specs.declared.Column.{Column}
use Rattle.tb_column.specs.Column.{PlainColumn}

-- a column with the nodes of its list
abbrev pub column_shown : Lists Node → Column → PlainColumn
column_shown store c = record { kind = c.kind; nodes = plain_list store c.list; set = c.set }
