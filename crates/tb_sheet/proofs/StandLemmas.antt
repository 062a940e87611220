-- What columns and pages show depends on their own lists alone.
use Rattle.std.proofs.Common.{◌≡◌, refl, sym, subst, ◌∙◌, ap, ℕ, ◌≤◌, List, [], ◌∷◌, length, map, Option, IsSome}
use Rattle.std.specs.Prelude.{All}
use Rattle.std.specs.List.{AllByRecursion}
use Rattle.std.specs.FinMap.{get}
use Rattle.tb_pool.specs.Lists.{Lists, IsLive, list_at}
use Rattle.tb_node.specs.declared.Kind.{Kind}
use Rattle.tb_node.specs.declared.Kind.TheVariants as kinds
use Rattle.tb_node.specs.declared.Node.{Node}
use Rattle.tb_node.specs.PlainNodes.{PlainNode, plain_of, plain_kind, plain_list}
use Rattle.tb_node.specs.Fit.{IsSizedNode}
use Rattle.tb_column.specs.declared.Column.{Column}
use Rattle.tb_column.specs.Column.{PlainColumn}
use Rattle.tb_column.specs.StoredColumns.{column_shown}
use Rattle.tb_column.specs.Page.{is_leaf_kind, AreLeaves, IsPageList, IsPageColumn}
use Rattle.tb_sheet.specs.declared.Sheet.{Sheet}
use Rattle.tb_sheet.specs.declared.Sheet.TheVariants as sheets
use Rattle.tb_sheet.specs.declared.Sent.{Sent}
use Rattle.tb_sheet.specs.declared.Sent.TheVariants as events
use Rattle.tb_sheet.specs.Sheet.{one, wide, two, shipped}
use Rattle.tb_sheet.specs.StoredSheets.{sheet_shown, sent_shown, sheet_lists, sent_lists, IsPageSheet, IsPageSent}

-- ---- leaves

kind-held : (f g : ℕ → List Node) (k : Kind) → is_leaf_kind k → plain_kind f k ≡ plain_kind g k
kind-held f g (kinds.Ins i) s = absurd s
kind-held f g (kinds.Act a) s = absurd s
kind-held f g k s = refl

-- a list without insertions shows nothing of other lists
pub leaves-shown : (f g : ℕ → List Node) (ns : List Node) → AreLeaves ns → map (plain_of f) ns ≡ map (plain_of g) ns
leaves-shown f g [] h = refl
leaves-shown f g (n ∷ ns) h = λ i. record { line = n.line; kind = kind-held f g n.kind h.0 i } ∷ leaves-shown f g ns h.1 i

-- ---- lists that are as they were

abbrev column_with : Column → List PlainNode → PlainColumn
column_with c ns = record { kind = c.kind; nodes = ns; set = c.set }

module _ (store new : Lists Node) where
  -- the list is as before
  abbrev pub Stands : ℕ → Type 0
  Stands q = get new.lists q ≡ get store.lists q

  pub list-same : (q : ℕ) → Stands q → list_at new q ≡ list_at store q
  list-same q e = rw e refl

  pub live-same : (q : ℕ) → Stands q → IsLive store q → IsLive new q
  live-same q e live = subst (λ (o : Option (List Node)). IsSome o) (sym e) live

  pub nodes-stand : (q : ℕ) → Stands q → AreLeaves (list_at store q) → plain_list new q ≡ plain_list store q
  nodes-stand q e h = ap (map (plain_of (list_at new))) (list-same q e) ∙ leaves-shown (list_at new) (list_at store) (list_at store q) h

  pub list-stands : (q : ℕ) → Stands q → IsPageList store q → IsPageList new q
  list-stands q e h = record {
    live = live-same q e h.live;
    leaves = subst AreLeaves (sym same) h.leaves;
    sized = subst (All IsSizedNode) (sym same) h.sized;
    few = subst (λ (ns : List Node). length ns ≤ 8388608) (sym same) h.few;
  }
    where
      same : list_at new q ≡ list_at store q
      same = list-same q e

  pub column-stands : (c : Column) → Stands c.list → IsPageColumn store c → IsPageColumn new c
  column-stands c e h = record { list = list-stands c.list e h.list; share = h.share }

  pub column-shows : (c : Column) → Stands c.list → IsPageColumn store c → column_shown new c ≡ column_shown store c
  column-shows c e h = ap (column_with c) (nodes-stand c.list e h.list.leaves)

  pub sheet-stands : (s : Sheet) → AllByRecursion Stands (sheet_lists s) → IsPageSheet store s → IsPageSheet new s
  sheet-stands (sheets.One c) e h = column-stands c e.0 h
  sheet-stands (sheets.Wide c) e h = column-stands c e.0 h
  sheet-stands (sheets.Two tops at left right) e h = (list-stands tops e.0 h.0, column-stands left e.1.0 h.1, column-stands right e.1.1.0 h.2)

  pub sheet-shows : (s : Sheet) → AllByRecursion Stands (sheet_lists s) → IsPageSheet store s → sheet_shown new s ≡ sheet_shown store s
  sheet-shows (sheets.One c) e h = ap one (column-shows c e.0 h)
  sheet-shows (sheets.Wide c) e h = ap wide (column-shows c e.0 h)
  sheet-shows (sheets.Two tops at left right) e h =
      λ i. two (nodes-stand tops e.0 h.0.leaves i) at (column-shows left e.1.0 h.1 i) (column-shows right e.1.1.0 h.2 i)

  pub sent-stands : (s : Sent) → AllByRecursion Stands (sent_lists s) → IsPageSent store s → IsPageSent new s
  sent-stands (events.Warn w) e h = tt
  sent-stands (events.Ship page sheet) e h = sheet-stands sheet e h

  pub sent-shows : (s : Sent) → AllByRecursion Stands (sent_lists s) → IsPageSent store s → sent_shown new s ≡ sent_shown store s
  sent-shows (events.Warn w) e h = refl
  sent-shows (events.Ship page sheet) e h = ap (shipped page) (sheet-shows sheet e h)

-- ---- lists that are live

pub sheet-live : (store : Lists Node) (s : Sheet) → IsPageSheet store s → AllByRecursion (IsLive store) (sheet_lists s)
sheet-live store (sheets.One c) h = (h.list.live, tt)
sheet-live store (sheets.Wide c) h = (h.list.live, tt)
sheet-live store (sheets.Two tops at left right) h = (h.0.live, (h.1.list.live, (h.2.list.live, tt)))

pub sent-live : (store : Lists Node) (s : Sent) → IsPageSent store s → AllByRecursion (IsLive store) (sent_lists s)
sent-live store (events.Warn w) h = tt
sent-live store (events.Ship page sheet) h = sheet-live store sheet h
