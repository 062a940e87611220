-- The pages that were sent have not too many nodes to be counted.
use Rattle.std.proofs.Common.{ℕ, ◌≤◌, ◌++◌, length, length-append, arith}
use Rattle.std.proofs.lemmas.List.{length-map}
use Rattle.tb_pool.specs.Lists.{Lists, list_at}
use Rattle.tb_node.specs.declared.Node.{Node}
use Rattle.tb_sheet.specs.declared.Sheet.{Sheet}
use Rattle.tb_sheet.specs.declared.Sheet.TheVariants as sheets
use Rattle.tb_sheet.specs.declared.Sent.{Sent}
use Rattle.tb_sheet.specs.declared.Sent.TheVariants as events
use Rattle.tb_sheet.specs.StoredSheets.{sheet_shown, sent_shown, IsPageSheet, IsPageSent}
use Rattle.tb_column.specs.Page.{IsPageList}
use Rattle.tb_node.specs.PlainNodes.{plain_of, plain_list}
use Rattle.tb_report.specs.RunTotals.{sheet_nodes}
use Rattle.tb_top.specs.PagesWritten.{node_total}

shown-length : (store : Lists Node) (l : ℕ) → IsPageList store l → length (plain_list store l) ≤ 8388608
shown-length store l h = let e = length-map (list_at store l) (plain_of (list_at store)) in let few = h.few in omega (arith, e, few)

sheet-few : (store : Lists Node) (s : Sheet) → IsPageSheet store s → length (sheet_nodes (sheet_shown store s)) ≤ 25165824
sheet-few store (sheets.One c) h = let a = shown-length store c.list h.list in omega (arith, a)
sheet-few store (sheets.Wide c) h = let a = shown-length store c.list h.list in omega (arith, a)
sheet-few store (sheets.Two tops at left right) h =
    let a = shown-length store tops h.0 in let b = shown-length store left.list h.1.list in let c = shown-length store right.list h.2.list in
    let d = length-append (plain_list store tops ++ plain_list store left.list) (plain_list store right.list) in
    let e = length-append (plain_list store tops) (plain_list store left.list) in
    let f = length-append (plain_list store tops) (plain_list store left.list ++ plain_list store right.list) in
    let g = length-append (plain_list store left.list) (plain_list store right.list) in
    omega (arith, a, b, c, d, e, f, g)

-- a page has not too many nodes to be counted
pub few-sent : (store : Lists Node) (e : Sent) → IsPageSent store e → node_total (sent_shown store e) ≤ 25165824
few-sent store (events.Warn w) h = omega arith
few-sent store (events.Ship page sheet) h = sheet-few store sheet h
