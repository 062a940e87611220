-- What a report asks of the lists that it prints: they are live, and the sums of each of their fronts fit.
use Rattle.std.specs.Prelude.{ℕ, ℤ, pos, ◌≢◌}
use Rattle.tb_pool.specs.Lists.{Lists, IsLive}
use Rattle.tb_node.specs.declared.Node.{Node}
use Rattle.tb_node.specs.Fit.{shapes, NodesFit, SumsFit}
use Rattle.tb_column.specs.declared.Column.{Column}
use Rattle.tb_sheet.specs.declared.Sheet.{Sheet}
use Rattle.tb_sheet.specs.declared.Sheet.TheVariants as sheets
use Rattle.tb_sheet.specs.declared.Sent.{Sent}
use Rattle.tb_sheet.specs.declared.Sent.TheVariants as events

-- the list is live, and its nodes and sums fit under some depth limit
pub record IsPrintableList (store : Lists Node) (l : ℕ) : Type 0 where
  pub live : IsLive store l
  pub limit : ℤ
  pub nodes : NodesFit (shapes store l)
  pub sums : SumsFit limit (shapes store l)

-- the column's list can be printed, and the share of its glue has a value
pub record IsPrintable (store : Lists Node) (c : Column) : Type 0 where
  pub list : IsPrintableList store c.list
  pub share : c.set.den ≢ pos 0

-- each column of a page can be printed, and the list of its wide floats
abbrev pub IsPrintableSheet : Lists Node → Sheet → Type 0
IsPrintableSheet store (sheets.One c) = IsPrintable store c
IsPrintableSheet store (sheets.Wide c) = IsPrintable store c
IsPrintableSheet store (sheets.Two tops at left right) = IsPrintableList store tops × IsPrintable store left × IsPrintable store right

-- the page of an event can be printed
abbrev pub IsPrintableSent : Lists Node → Sent → Type 0
IsPrintableSent store (events.Warn w) = Unit {0}
IsPrintableSent store (events.Ship page sheet) = IsPrintableSheet store sheet
