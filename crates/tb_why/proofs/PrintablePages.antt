-- The events of the output routine's machine are live, and can be printed.
use Rattle.std.proofs.Common.{ℕ, arith}
use Rattle.std.specs.Prelude.{pos}
use Rattle.std.proofs.lemmas.Int.{ints}
use Rattle.tb_pool.specs.Lists.{Lists}
use Rattle.tb_node.specs.declared.Node.{Node}
use Rattle.tb_node.proofs.FitLemmas.{list_nodes_fit, list_sums_fit}
use Rattle.tb_column.specs.declared.Column.{Column}
use Rattle.tb_sheet.specs.declared.Sheet.{Sheet}
use Rattle.tb_sheet.specs.declared.Sheet.TheVariants as sheets
use Rattle.tb_sheet.specs.declared.Sent.{Sent}
use Rattle.tb_sheet.specs.declared.Sent.TheVariants as events
use Rattle.tb_sheet.specs.StoredSheets.{IsLiveSheet, IsLiveSent, IsPageSheet, IsPageSent}
use Rattle.tb_column.specs.Page.{IsPageList, IsPageColumn}
use Rattle.tb_report.specs.Printable.{IsPrintableList, IsPrintable, IsPrintableSheet, IsPrintableSent}

printable-list : (store : Lists Node) (l : ℕ) → IsPageList store l → IsPrintableList store l
printable-list store l h = record {
  live = h.live;
  limit = pos 0;
  nodes = list_nodes_fit store l h.sized;
  sums = list_sums_fit store l (pos 0) (omega (arith, ints)) h.sized h.few;
}

printable-column : (store : Lists Node) (c : Column) → IsPageColumn store c → IsPrintable store c
printable-column store c h = record { list = printable-list store c.list h.list; share = h.share }

pub printable-sheet : (store : Lists Node) (s : Sheet) → IsPageSheet store s → IsPrintableSheet store s
printable-sheet store (sheets.One c) h = printable-column store c h
printable-sheet store (sheets.Wide c) h = printable-column store c h
printable-sheet store (sheets.Two tops at left right) h = (printable-list store tops h.0, printable-column store left h.1, printable-column store right h.2)

pub printable-sent : (store : Lists Node) (e : Sent) → IsPageSent store e → IsPrintableSent store e
printable-sent store (events.Warn w) h = tt
printable-sent store (events.Ship page sheet) h = printable-sheet store sheet h

live-sheet : (store : Lists Node) (s : Sheet) → IsPageSheet store s → IsLiveSheet store s
live-sheet store (sheets.One c) h = h.list.live
live-sheet store (sheets.Wide c) h = h.list.live
live-sheet store (sheets.Two tops at left right) h = (h.0.live, h.1.list.live, h.2.list.live)

pub live-sent : (store : Lists Node) (e : Sent) → IsPageSent store e → IsLiveSent store e
live-sent store (events.Warn w) h = tt
live-sent store (events.Ship page sheet) h = live-sheet store sheet h
