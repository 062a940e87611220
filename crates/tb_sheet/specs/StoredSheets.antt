-- Pages and warnings as the definitions see them, in a store that holds their lists.
use Rattle.std.specs.Prelude.{ℕ, List, [], ◌∷◌}
use Rattle.tb_pool.specs.Lists.{Lists, IsLive}
use Rattle.tb_node.specs.declared.Node.{Node}
use Rattle.tb_node.specs.PlainNodes.{plain_list}
use Rattle.tb_column.specs.StoredColumns.{column_shown}
use Rattle.tb_column.specs.Page.{IsPageList, IsPageColumn}
use Rattle.tb_sheet.specs.declared.Sheet.{Sheet}
use Rattle.tb_sheet.specs.declared.Sheet.TheVariants as sheets
use Rattle.tb_sheet.specs.declared.Sent.{Sent}
use Rattle.tb_sheet.specs.declared.Sent.TheVariants as events
use Rattle.tb_sheet.specs.Sheet.{PlainSheet, one, wide, two, PlainSent, warned, shipped}

-- a page with its columns, and the wide floats above two of them
abbrev pub sheet_shown : Lists Node → Sheet → PlainSheet
sheet_shown store (sheets.One c) = one (column_shown store c)
sheet_shown store (sheets.Wide c) = wide (column_shown store c)
sheet_shown store (sheets.Two tops at left right) = two (plain_list store tops) at (column_shown store left) (column_shown store right)

-- a warning, or a page under its number
abbrev pub sent_shown : Lists Node → Sent → PlainSent
sent_shown store (events.Warn w) = warned w
sent_shown store (events.Ship page sheet) = shipped page (sheet_shown store sheet)

-- all lists of a page are live
abbrev pub IsLiveSheet : Lists Node → Sheet → Type 0
IsLiveSheet store (sheets.One c) = IsLive store c.list
IsLiveSheet store (sheets.Wide c) = IsLive store c.list
IsLiveSheet store (sheets.Two tops at left right) = IsLive store tops × IsLive store left.list × IsLive store right.list

-- all lists of the page of an event are live
abbrev pub IsLiveSent : Lists Node → Sent → Type 0
IsLiveSent store (events.Warn w) = Unit {0}
IsLiveSent store (events.Ship page sheet) = IsLiveSheet store sheet

-- the lists of a page
abbrev pub sheet_lists : Sheet → List ℕ
sheet_lists (sheets.One c) = c.list ∷ []
sheet_lists (sheets.Wide c) = c.list ∷ []
sheet_lists (sheets.Two tops at left right) = tops ∷ left.list ∷ right.list ∷ []

-- the lists of an event
abbrev pub sent_lists : Sent → List ℕ
sent_lists (events.Warn w) = []
sent_lists (events.Ship page sheet) = sheet_lists sheet

-- all lists of a page may be on one
abbrev pub IsPageSheet : Lists Node → Sheet → Type 0
IsPageSheet store (sheets.One c) = IsPageColumn store c
IsPageSheet store (sheets.Wide c) = IsPageColumn store c
IsPageSheet store (sheets.Two tops at left right) = IsPageList store tops × IsPageColumn store left × IsPageColumn store right

-- all lists of an event may be on a page
abbrev pub IsPageSent : Lists Node → Sent → Type 0
IsPageSent store (events.Warn w) = Unit {0}
IsPageSent store (events.Ship page sheet) = IsPageSheet store sheet
