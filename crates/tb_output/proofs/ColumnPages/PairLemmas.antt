-- Two columns are shipped as a page under its wide floats: the work, and the machine.
use Rattle.std.proofs.Common.{◌≡◌, ◌≢◌, refl, sym, subst, ◌∙◌, ap, ℕ, pos, List, [], ◌∷◌, ◌++◌, false, Some, arith}
use Rattle.std.specs.Prelude.{ℤ, int_lt}
use Rattle.std.specs.FinMap.{get}
use Rattle.tb_builder.proofs.Events.NextLemmas.{fresh_apart}
use Rattle.tb_break.proofs.EachLemmas.{all-join}
use Rattle.tb_pool.specs.Lists.{Lists, IsLive}
use Rattle.tb_pool.specs.Frame.{IsNoneOf}
use Rattle.tb_pool.proofs.FrameLemmas.{none-join}
use Rattle.tb_node.specs.declared.Node.{Node}
use Rattle.tb_node.specs.PlainNodes.{plain_list}
use Rattle.tb_column.specs.declared.Column.{Column}
use Rattle.tb_sheet.specs.declared.Sheet.{Sheet}
use Rattle.tb_sheet.specs.declared.Sheet.TheVariants as sheets
use Rattle.tb_sheet.specs.declared.Sent.TheVariants as events
use Rattle.tb_column.specs.Column.{PlainColumn, pair_floats}
use Rattle.tb_sheet.specs.Sheet.{two, pair_top, pair_sheet}
use Rattle.tb_column.specs.StoredColumns.{column_shown}
use Rattle.tb_sheet.specs.StoredSheets.{sheet_shown, IsPageSent}
use Rattle.tb_column.specs.Notes.{AreDistinct}
use Rattle.tb_column.specs.Page.{IsPageList, IsPageColumn}
use Rattle.tb_column.specs.ColumnChanges.{IsOpened}
use Rattle.tb_output.specs.declared.RunFault.{RunFault}
use Rattle.tb_output.specs.declared.RunFault.TheVariants as faults
use Rattle.tb_output.specs.State.{Work}
use Rattle.tb_output.specs.Machine.{MachineView, left_shown, events_shown, machine_lists, left_lists, event_lists, IsPageLeft, IsMachine}
use Rattle.tb_output.specs.FiringWork.{ShowsWork, shows, IsCutShort, Does, Continues}
use Rattle.tb_output.specs.MachineFrame.{KeepsMachine}
use Rattle.tb_output.specs.PageChanges.{HasShipped, HasNotShipped, without_doubles, without_left, shipped_machine}
use Rattle.tb_output.specs.Pages
use Rattle.tb_output.proofs.StepLaws.WorkSteps.{continues-same, continues-then, continues-ship, continues-all_wide_pages, continues-fill_double}
use Rattle.tb_output.proofs.FiringWork.WorkingLemmas.{Fact, does-shown, shown_work, no-memory, cut-then}
use Rattle.tb_output.proofs.FiringWork.StandLemmas.{machine-live, IsShownBy}
use Rattle.tb_sheet.proofs.StandLemmas.{column-stands, column-shows}
use Rattle.tb_sheet.proofs.ListsApart.{apart-swap, distinct-join}
use Rattle.tb_output.proofs.FiringWork.ApartLemmas.{fresh-none}
use Rattle.tb_output.proofs.ColumnPages.ShipLemmas.{shipped_work, ship-is, full-is, shipped-shows, event_lists-after, last-page}
use Rattle.tb_output.proofs.ColumnPages.FloatMoves.{opened-shown, opened-keeps}
use Rattle.tb_output.proofs.FiringWork.KeepLemmas.{keeps-more}
use Rattle.tb_output.proofs.ColumnPages.PuttingOut.{does-moved}

-- the second column is shipped with the first, and the wide floats leave
abbrev pub pair_shipped : MachineView → PlainColumn → Work → Work
pair_shipped m c w = Pages.without_double (Pages.ship m.params (pair_sheet m.params w.state.floats (Pages.left_or c w.state.left_column) c) w)

-- then pages of wide floats are shipped, and the next columns filled
abbrev pub pair_rest : MachineView → Work → Work
pair_rest m w = Pages.fill_double m.params (Pages.all_wide_pages m.params false w)

continues-pair : (m : MachineView) (c : PlainColumn) (w : Work) → Continues w (pair_shipped m c w)
continues-pair m c w = continues-then (continues-ship m.params (pair_sheet m.params w.state.floats (Pages.left_or c w.state.left_column) c) w) (continues-same refl refl refl refl refl refl)

pub continues-rest : (m : MachineView) (w : Work) → Continues w (pair_rest m w)
continues-rest m w = continues-then (continues-all_wide_pages m.params false w) (continues-fill_double m.params (Pages.all_wide_pages m.params false w))

-- what was not shipped of the same machine
pub failed-of : (e : RunFault) (m mid now : MachineView) → mid ≡ m → HasNotShipped e mid now → HasNotShipped e m now
failed-of e m mid now same h = subst (λ n. HasNotShipped e n now) same h

-- ---- in a store that holds the list of wide floats

module _ (m now : MachineView) (s : Lists Node) (tops : ℕ) (at : ℤ) (left right : Column) (has_left : m.left_column ≡ Some left) (place : at ≡ pair_top m.params m.pool.lists) (floats : plain_list s tops ≡ pair_floats m.params m.pool.lists) where
  abbrev sheet : Sheet
  sheet = sheets.Two tops at left right

  abbrev shown : PlainColumn
  shown = column_shown s right

  sheet-is : pair_sheet m.params m.pool.lists (Pages.left_or shown (left_shown s m.left_column)) shown ≡ sheet_shown s sheet
  sheet-is = λ i. two (sym floats i) (sym place i) (Pages.left_or shown (left_shown s (has_left i))) shown

  pair-is : (w : Work) → pair_shipped m shown (shown_work m s w) ≡ Pages.without_double (Pages.ship m.params (sheet_shown s sheet) (shown_work m s w))
  pair-is w = ap (λ v. Pages.without_double (Pages.ship m.params v (shown_work m s w))) sheet-is

  pair-here : HasShipped sheet (without_doubles m) now → Does (shows m s) (shows (without_left now) s) (pair_shipped m shown)
  pair-here h = does-shown (shows (without_left now) s) m s (pair_shipped m shown) (λ before w sent.
      subst (λ v. ShowsWork before (without_left now) s v) (sym (pair-is w ∙ ap Pages.without_double (ship-is m s sheet w h.room)))
      (subst (λ n. ShowsWork before (without_left n) s (Pages.without_double (shipped_work m s sheet w))) (sym h.machine)
      (record { served = refl; sent = (shipped-shows m s sheet before w sent).sent; state = refl })))

  pair-not : (e : RunFault) → HasNotShipped e (without_doubles m) now → Does (shows m s) (IsCutShort e now s) (pair_shipped m shown)
  pair-not (faults.DeadCycles n) h = absurd h
  pair-not (faults.PageLimit n) h = does-shown (IsCutShort (faults.PageLimit n) now s) m s (pair_shipped m shown) (λ before w sent.
      subst (λ v. IsCutShort (faults.PageLimit n) now s before v) (sym (pair-is w ∙ ap Pages.without_double (full-is m s sheet w h.full)))
      (record { refused = refl; pages = h.pages; sent = ap (λ (k : MachineView). events_shown s k.events) h.machine ∙ sent }))
  pair-not faults.Memory h = no-memory m now s s (pair_shipped m shown) (ap (λ (k : MachineView). events_shown s k.events) h) (continues-pair m shown)

-- ---- from the store in which that list was opened

module _ (m now : MachineView) (store s : Lists Node) (tops : ℕ) (at : ℤ) (left right : Column) (has_left : m.left_column ≡ Some left) (place : at ≡ pair_top m.params m.pool.lists)
    (floats : plain_list s tops ≡ pair_floats m.params m.pool.lists) (opened : IsOpened tops store s) (is : IsMachine m store) (page : IsPageColumn store right) where
  abbrev both : Sheet
  both = sheets.Two tops at left right

  same : IsShownBy m store s
  same = opened-shown m.pool m m refl tops store s opened is

  stands : get s.lists right.list ≡ get store.lists right.list
  stands = opened.others right.list (fresh_apart store tops right.list opened.fresh page.list.live)

  right-same : column_shown s right ≡ column_shown store right
  right-same = column-shows store s right stands page

  moved : (to : Fact) → Does (shows m s) to (pair_shipped m (column_shown s right)) → Does (shows m store) to (pair_shipped m (column_shown store right))
  moved to does = does-moved m store s to (pair_shipped m (column_shown store right)) same (subst (λ c. Does (shows m s) to (pair_shipped m c)) right-same does)

  pub pair-does : HasShipped both (without_doubles m) now → Does (shows m store) (shows (without_left now) s) (pair_shipped m (column_shown store right))
  pair-does h = moved (shows (without_left now) s) (pair-here m now s tops at left right has_left place floats h)

  pub pair-fails : (e : RunFault) → HasNotShipped e (without_doubles m) now → Does (shows m store) (IsCutShort e now s) (Pages.ship_pair m.params (column_shown store right))
  pair-fails e h = cut-then (shows m store) e now s (pair_shipped m (column_shown store right)) (pair_rest m) (moved (IsCutShort e now s) (pair-not m now s tops at left right has_left place floats e h)) (continues-rest m)

  -- no page was shipped: the wide floats have left the pool
  pub pair-kept : now ≡ without_doubles m → KeepsMachine (right.list ∷ []) m now store s
  pair-kept e = keeps-more [] (right.list ∷ []) m now store s (opened-keeps (without_doubles m).pool m now e tops store s opened is refl (record { deferred = is.unmarked.deferred; second = is.unmarked.second })) (λ q none. tt)

  module _ (list : IsPageList s tops) (apart : IsNoneOf right.list (machine_lists m)) where
    abbrev rest : List ℕ
    rest = event_lists m.events

    abbrev added : List ℕ
    added = tops ∷ left.list ∷ right.list ∷ []

    lists-of : machine_lists m ≡ m.held_page ∷ left.list ∷ rest
    lists-of = ap (λ o. m.held_page ∷ left_lists o ++ rest) has_left

    lists-then : machine_lists (without_left (shipped_machine both (without_doubles m))) ≡ m.held_page ∷ (rest ++ added)
    lists-then = ap (λ ls. m.held_page ∷ ls) (event_lists-after m.events m.number both)

    d : AreDistinct (m.held_page ∷ left.list ∷ rest)
    d = subst AreDistinct lists-of is.apart

    r : IsNoneOf right.list (m.held_page ∷ left.list ∷ rest)
    r = subst (IsNoneOf right.list) lists-of apart

    t : IsNoneOf tops (m.held_page ∷ left.list ∷ rest)
    t = subst (IsNoneOf tops) lists-of (fresh-none store tops (machine_lists m) opened.fresh (machine-live m store is))

    right-none : right.list ≢ tops
    right-none = fresh_apart store tops right.list opened.fresh page.list.live

    distinct : AreDistinct (m.held_page ∷ (rest ++ added))
    distinct = (
      none-join m.held_page rest added d.0.1 ((λ e. t.0 (sym e)), (d.0.0, ((λ e. r.0 (sym e)), tt))),
      distinct-join rest added d.1.1 ((t.1.0, (right-none, tt)), (((λ e. r.1.0 (sym e)), tt), (tt, tt))) (apart-swap added rest (t.1.1, (d.1.0, (r.1.1, tt)))),
    )

    left-page : IsPageColumn s left
    left-page = subst (IsPageLeft s) has_left same.machine.left_column

    pair-machine : int_lt m.params.maxpages (pos m.page) ≡ false → IsMachine (without_left (shipped_machine both (without_doubles m))) s
    pair-machine room = record {
      params = is.params;
      classes = is.classes;
      goal = is.goal;
      first = omega arith;
      last = last-page m.params m.page is.params.maxpages.high room;
      numbered = let n = is.numbered in omega (arith, n);
      shrink = is.shrink;
      pool = is.pool;
      unmarked = record { deferred = is.unmarked.deferred; second = is.unmarked.second };
      left = λ e. absurd cc;
      held_page = same.machine.held_page;
      held_room = same.machine.held_room;
      left_column = tt;
      events = all-join (IsPageSent s) m.events (events.Ship m.number both ∷ []) same.machine.events ((list, left-page, column-stands store s right stands page), tt);
      apart = subst AreDistinct (sym lists-then) distinct;
    }

    none-then : (q : ℕ) → IsLive store q → right.list ≢ q → IsNoneOf q (m.held_page ∷ left.list ∷ rest) → IsNoneOf q (m.held_page ∷ (rest ++ added))
    none-then q live other none = (none.0, none-join q rest added none.1.1 ((λ e. fresh_apart store tops q opened.fresh live (sym e)), (none.1.0, (other, tt))))

    pub pair-keeps : HasShipped both (without_doubles m) now → KeepsMachine (right.list ∷ []) m (without_left now) store s
    pair-keeps h = subst (λ n. KeepsMachine (right.list ∷ []) m (without_left n) store s) (sym h.machine) (record {
      machine = pair-machine h.room;
      frame = λ q live none. (opened.others q (fresh_apart store tops q opened.fresh live), subst (IsNoneOf q) (sym lists-then) (none-then q live none.0 (subst (IsNoneOf q) lists-of none.1)));
      fields = record { params = refl; classes = refl; fault = refl };
    })
