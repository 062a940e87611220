-- Chosen floats were made a column, or there was no memory.
use Rattle.std.proofs.Common.{◌≡◌, sym, subst, ◌∙◌, ap, ℤ, [], ◌∷◌, Bool, false, true}
use Rattle.tb_builder.proofs.Events.NextLemmas.{fresh_apart}
use Rattle.tb_pool.specs.Lists.{Lists}
use Rattle.tb_pool.specs.Frame.{IsNoneOf}
use Rattle.tb_node.specs.declared.Node.{Node}
use Rattle.tb_float.specs.declared.Part.{Part}
use Rattle.tb_float.specs.declared.Part.TheVariants as parts
use Rattle.tb_float.specs.Lists.{IsWaiting, wide_part}
use Rattle.tb_float.specs.Pool.{marked_floats, without_marks}
use Rattle.tb_float.specs.MarkedFloats.{without_marked}
use Rattle.tb_float.specs.Rooms.{column_height_of}
use Rattle.tb_float.proofs.WaitingLemmas.{wide-waits}
use Rattle.tb_fpage.specs.declared.Wanted.{Wanted}
use Rattle.tb_fpage.specs.Choice.{IsChosen}
use Rattle.tb_column.specs.declared.Column.{Column}
use Rattle.tb_sheet.specs.declared.Sheet.TheVariants as sheets
use Rattle.tb_column.specs.Column.{float_column_of}
use Rattle.tb_sheet.specs.Sheet.{wide}
use Rattle.tb_column.specs.StoredColumns.{column_shown}
use Rattle.tb_column.specs.Page.{IsPageColumn}
use Rattle.tb_column.specs.ColumnChanges.{IsOpened}
use Rattle.tb_output.specs.declared.RunFault.{RunFault}
use Rattle.tb_output.specs.declared.RunFault.TheVariants as faults
use Rattle.tb_output.specs.State.{Work}
use Rattle.tb_output.specs.Columns
use Rattle.tb_output.specs.Pages
use Rattle.tb_output.specs.Machine.{MachineView, events_shown, machine_lists, IsMachine}
use Rattle.tb_output.specs.FiringWork.{shows, IsCutShort, Does, Continues}
use Rattle.tb_output.specs.MachineFrame.{KeepsMachine}
use Rattle.tb_output.specs.PageChanges.{HasShipped, HasNotShipped}
use Rattle.tb_output.specs.FiringParts.{column_done, wide_done}
use Rattle.tb_output.proofs.FiringWork.WorkingLemmas.{Fact, no-memory}
use Rattle.tb_output.proofs.FiringWork.StandLemmas.{IsShownBy, lists-shown}
use Rattle.tb_output.proofs.FiringWork.KeepLemmas.{keeps-same, keeps-then}
use Rattle.tb_output.proofs.ColumnPages.FloatMoves.{opened-shown, opened-none, opened-keeps, pooled-keeps}
use Rattle.tb_output.proofs.Clears.CompanyLemmas.{left-size, left-unmarked, back-size, back-unmarked, company-out, wide-out}
use Rattle.tb_output.proofs.ColumnPages.PuttingOut.{does-moved}
use Rattle.tb_output.proofs.ColumnPages.ShipLemmas.{ship-does, ship-fails, shipped-keeps, unshipped-same}

module _ (z : Wanted) (from : Part) (waits : IsWaiting from) (m mid now : MachineView) (store new : Lists Node) (is : IsMachine m store) (chosen : IsChosen z from m.pool mid.pool) (marked : mid ≡ record m { pool = mid.pool }) where
  -- the floats left the pool
  module _ (taken : now ≡ record mid { pool = without_marked from mid.pool }) (c : Column) (opened : IsOpened c.list store new) where
    pub taken-is : now ≡ record m { pool = without_marked from mid.pool }
    taken-is = taken ∙ (λ i. record (marked i) { pool = without_marked from mid.pool })

    pub taken-shown : IsShownBy m store new
    taken-shown = opened-shown (without_marked from mid.pool) m now taken-is c.list store new opened is

    pub taken-none : IsNoneOf c.list (machine_lists now)
    taken-none = opened-none (without_marked from mid.pool) m now taken-is c.list store new opened is

    pub taken-keeps : KeepsMachine [] m now store new
    taken-keeps = opened-keeps (without_marked from mid.pool) m now taken-is c.list store new opened is (left-size z m.pool mid.pool from waits chosen) (left-unmarked z m.pool mid.pool from waits chosen is.unmarked)

    -- and what was done with the column after that
    pub taken-then : (later : MachineView) (last : Lists Node) → KeepsMachine (c.list ∷ []) now later new last → KeepsMachine [] m later store last
    taken-then later last k = keeps-then [] (c.list ∷ []) m now later store new last taken-keeps k (λ q live none. ((λ e. fresh_apart store c.list q opened.fresh live (sym e)), tt))

  -- there was no memory: no float is chosen any more
  module _ (back : now ≡ record mid { pool = without_marks from mid.pool }) (lists : new.lists ≡ store.lists) where
    back-is : now ≡ record m { pool = without_marks from mid.pool }
    back-is = back ∙ (λ i. record (marked i) { pool = without_marks from mid.pool })

    pub back-keeps : KeepsMachine [] m now store new
    back-keeps =
        let first = pooled-keeps (without_marks from mid.pool) m now back-is [] store (back-size z m.pool mid.pool from waits chosen) (back-unmarked z m.pool mid.pool from waits chosen is.unmarked) is in
        keeps-then [] [] m now now store store new first (keeps-same [] now store new first.machine lists) (λ q live none. tt)

    pub back-cut : (f : Work → Work) → ((w : Work) → Continues w (f w)) → Does (shows m store) (IsCutShort faults.Memory now new) f
    back-cut f goes = no-memory m now store new f (ap (λ (n : MachineView). events_shown new n.events) back-is ∙ (lists-shown m store new is lists).events) goes

-- ---- a column of floats

-- the chosen floats were made a column
pub record ColumnTaken (clearing : Bool) (m mid now : MachineView) (store new : Lists Node) (c : Column) : Type 0 where
  pub machine : IsMachine m store
  pub chosen : IsChosen (Columns.single_wanted m.params m.pool.lists clearing) parts.Deferred m.pool mid.pool
  pub marked : mid ≡ record m { pool = mid.pool }
  pub taken : now ≡ record mid { pool = without_marked parts.Deferred mid.pool }
  pub opened : IsOpened c.list store new
  pub shown : column_shown new c ≡ float_column_of false m.params (column_height_of m.params m.pool.lists) (marked_floats parts.Deferred mid.pool)

pub column-taken : (clearing : Bool) (m mid now : MachineView) (store new : Lists Node) (c : Column) (height : ℤ) → IsMachine m store → IsChosen (Columns.single_wanted m.params m.pool.lists clearing) parts.Deferred m.pool mid.pool → mid ≡ record m { pool = mid.pool }
    → now ≡ record mid { pool = without_marked parts.Deferred mid.pool } → IsOpened c.list store new → height ≡ column_height_of m.params m.pool.lists → column_shown new c ≡ float_column_of false mid.params height (marked_floats parts.Deferred mid.pool) → ColumnTaken clearing m mid now store new c
column-taken clearing m mid now store new c height is chosen marked taken opened high shown = record {
  machine = is;
  chosen = chosen;
  marked = marked;
  taken = taken;
  opened = opened;
  shown = shown ∙ (λ i. float_column_of false (marked i).params (high i) (marked_floats parts.Deferred mid.pool));
}

module _ (clearing : Bool) (m mid now : MachineView) (store new : Lists Node) (c : Column) (h : ColumnTaken clearing m mid now store new c) where
  abbrev single : Wanted
  single = Columns.single_wanted m.params m.pool.lists clearing

  column-kept : KeepsMachine [] m now store new
  column-kept = taken-keeps single parts.Deferred tt m mid now store new h.machine h.chosen h.marked h.taken c h.opened

  pub column-machine : IsMachine now new
  column-machine = column-kept.machine

  pub column-none : IsNoneOf c.list (machine_lists now)
  column-none = taken-none single parts.Deferred tt m mid now store new h.machine h.chosen h.marked h.taken c h.opened

  -- it is put out
  pub column-out : (to : Fact) → Does (shows now new) to (Pages.put_out now.params (column_shown new c)) → Does (shows m store) to (column_done m.params clearing)
  column-out to does =
      let same = taken-is single parts.Deferred tt m mid now store new h.machine h.chosen h.marked h.taken c h.opened in
      does-moved m store new to (column_done m.params clearing) (taken-shown single parts.Deferred tt m mid now store new h.machine h.chosen h.marked h.taken c h.opened)
      (company-out m now new clearing mid.pool to h.chosen same (column_shown new c) h.shown (subst (λ p. Does (shows now new) to (Pages.put_out p (column_shown new c))) (ap (λ (n : MachineView). n.params) same) does))

  pub column-keeps : (later : MachineView) (last : Lists Node) → KeepsMachine (c.list ∷ []) now later new last → KeepsMachine [] m later store last
  column-keeps later last k = taken-then single parts.Deferred tt m mid now store new h.machine h.chosen h.marked h.taken c h.opened later last k

-- ---- a page of wide floats

-- the chosen floats were made a wide column
pub record WideTaken (clearing : Bool) (m mid now : MachineView) (store new : Lists Node) (c : Column) : Type 0 where
  pub machine : IsMachine m store
  pub chosen : IsChosen (Pages.wide_wanted m.params clearing) (wide_part m.params) m.pool mid.pool
  pub marked : mid ≡ record m { pool = mid.pool }
  pub taken : now ≡ record mid { pool = without_marked (wide_part m.params) mid.pool }
  pub opened : IsOpened c.list store new
  pub shown : column_shown new c ≡ float_column_of true m.params m.params.textheight (marked_floats (wide_part m.params) mid.pool)

-- where they waited
pub source-is : (m mid : MachineView) (from : Part) → mid ≡ record m { pool = mid.pool } → from ≡ wide_part mid.params → from ≡ wide_part m.params
source-is m mid from marked is = is ∙ ap (λ (n : MachineView). wide_part n.params) marked

pub wide-taken : (clearing : Bool) (m mid now : MachineView) (store new : Lists Node) (c : Column) (from : Part) (height : ℤ) → IsMachine m store → IsChosen (Pages.wide_wanted m.params clearing) (wide_part m.params) m.pool mid.pool → mid ≡ record m { pool = mid.pool }
    → from ≡ wide_part mid.params → now ≡ record mid { pool = without_marked from mid.pool } → IsOpened c.list store new → height ≡ mid.params.textheight → column_shown new c ≡ float_column_of true mid.params height (marked_floats from mid.pool) → WideTaken clearing m mid now store new c
wide-taken clearing m mid now store new c from height is chosen marked is_from taken opened high shown = record {
  machine = is;
  chosen = chosen;
  marked = marked;
  taken = taken ∙ ap (λ f. record mid { pool = without_marked f mid.pool }) (source-is m mid from marked is_from);
  opened = opened;
  shown = shown ∙ (λ i. float_column_of true (marked i).params ((high ∙ ap (λ (n : MachineView). n.params.textheight) marked) i) (marked_floats (source-is m mid from marked is_from i) mid.pool));
}

module _ (clearing : Bool) (m mid now : MachineView) (store new : Lists Node) (c : Column) (h : WideTaken clearing m mid now store new c) where
  abbrev wanted : Wanted
  wanted = Pages.wide_wanted m.params clearing

  abbrev waits : IsWaiting (wide_part m.params)
  waits = wide-waits m.params

  same : now ≡ record m { pool = without_marked (wide_part m.params) mid.pool }
  same = taken-is wanted (wide_part m.params) waits m mid now store new h.machine h.chosen h.marked h.taken c h.opened

  page-out : (to : Fact) → Does (shows now new) to (Pages.ship now.params (wide (column_shown new c))) → Does (shows m store) to (wide_done m.params clearing)
  page-out to does =
      does-moved m store new to (wide_done m.params clearing) (taken-shown wanted (wide_part m.params) waits m mid now store new h.machine h.chosen h.marked h.taken c h.opened)
      (wide-out m now new clearing mid.pool to h.chosen same (column_shown new c) h.shown (subst (λ p. Does (shows now new) to (Pages.ship p (wide (column_shown new c)))) (ap (λ (n : MachineView). n.params) same) does))

  none : IsNoneOf c.list (machine_lists now)
  none = taken-none wanted (wide_part m.params) waits m mid now store new h.machine h.chosen h.marked h.taken c h.opened

  kept : KeepsMachine [] m now store new
  kept = taken-keeps wanted (wide_part m.params) waits m mid now store new h.machine h.chosen h.marked h.taken c h.opened

  pub page-machine : IsMachine now new
  page-machine = kept.machine

  module _ (later : MachineView) where
    pub page-shipped : HasShipped (sheets.Wide c) now later → Does (shows m store) (shows later new) (wide_done m.params clearing)
    page-shipped s = page-out (shows later new) (ship-does now new (sheets.Wide c) later s)

    pub page-not : (e : RunFault) → HasNotShipped e now later → Does (shows m store) (IsCutShort e later new) (wide_done m.params clearing)
    page-not e s = page-out (IsCutShort e later new) (ship-fails now new (sheets.Wide c) e later s)

    pub page-keeps : IsPageColumn new c → HasShipped (sheets.Wide c) now later → KeepsMachine [] m later store new
    page-keeps page s = taken-then wanted (wide_part m.params) waits m mid now store new h.machine h.chosen h.marked h.taken c h.opened later new (shipped-keeps now new (sheets.Wide c) kept.machine later s page (tt, tt) (none, tt))

    pub page-kept : (e : RunFault) → HasNotShipped e now later → KeepsMachine [] m later store new
    page-kept e s = subst (λ n. KeepsMachine [] m n store new) (sym (unshipped-same e now later s)) kept

-- there was no memory: the wide floats wait as before
module _ (clearing : Bool) (m mid now : MachineView) (store new : Lists Node) (from : Part) (is : IsMachine m store) (chosen : IsChosen (Pages.wide_wanted m.params clearing) (wide_part m.params) m.pool mid.pool) (marked : mid ≡ record m { pool = mid.pool })
    (is_from : from ≡ wide_part mid.params) (back : now ≡ record mid { pool = without_marks from mid.pool }) (lists : new.lists ≡ store.lists) where
  unchosen : now ≡ record mid { pool = without_marks (wide_part m.params) mid.pool }
  unchosen = back ∙ ap (λ f. record mid { pool = without_marks f mid.pool }) (source-is m mid from marked is_from)

  pub wide-keeps : KeepsMachine [] m now store new
  wide-keeps = back-keeps (Pages.wide_wanted m.params clearing) (wide_part m.params) (wide-waits m.params) m mid now store new is chosen marked unchosen lists

  pub wide-cut : (f : Work → Work) → ((w : Work) → Continues w (f w)) → Does (shows m store) (IsCutShort faults.Memory now new) f
  wide-cut f goes = back-cut (Pages.wide_wanted m.params clearing) (wide_part m.params) (wide-waits m.params) m mid now store new is chosen marked unchosen lists f goes
