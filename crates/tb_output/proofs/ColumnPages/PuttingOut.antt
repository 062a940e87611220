-- A column is put out, as a page, as the first column of one or as the second: the work, and the machine.
use Rattle.std.proofs.Common.{◌≡◌, refl, sym, subst, ◌∙◌, ap, ℕ, List, [], ◌∷◌, ◌++◌, Bool, true, false}
use Rattle.std.specs.Prelude.{not, if◌then◌else◌}
use Rattle.tb_pool.specs.Lists.{Lists}
use Rattle.tb_pool.specs.Frame.{IsNoneOf}
use Rattle.tb_pool.proofs.FrameLemmas.{none-back}
use Rattle.tb_node.specs.declared.Node.{Node}
use Rattle.tb_column.specs.declared.Column.{Column}
use Rattle.tb_column.specs.Column.{PlainColumn}
use Rattle.tb_sheet.specs.Sheet.{PlainSent, one}
use Rattle.tb_column.specs.StoredColumns.{column_shown}
use Rattle.tb_column.specs.Page.{IsPageColumn}
use Rattle.tb_output.specs.declared.RunFault.{RunFault}
use Rattle.tb_output.specs.State.{State, Work, Recorded, output, records_also}
use Rattle.tb_output.specs.Machine.{MachineView, left_lists, event_lists, machine_lists, IsMachine}
use Rattle.tb_output.specs.FiringWork.{ShowsWork, shows, IsCutShort, Does}
use Rattle.tb_output.specs.MachineFrame.{KeepsMachine}
use Rattle.tb_output.specs.PageChanges.{with_left, with_column_done}
use Rattle.tb_output.specs.Pages
use Rattle.tb_output.proofs.StepLaws.WorkSteps.{continues-after_column}
use Rattle.tb_output.proofs.FiringWork.WorkingLemmas.{Fact, cut-then, shows-moved}
use Rattle.tb_output.proofs.FiringWork.StandLemmas.{IsShownBy}
use Rattle.tb_output.proofs.FiringWork.BesideLemmas.{machine-with}
use Rattle.tb_sheet.proofs.ListsApart.{distinct-back}

-- ---- the work

-- what is recorded is not shown
records-show : (m : MachineView) (store : Lists Node) (r : Recorded) → Does (shows m store) (shows m store) (records_also r)
records-show m store r before w h = by_refused w.refused
  where
    by_refused : (t : Bool) → ShowsWork before m store (if t then w else record w { records = w.records ++ r ∷ [] })
    by_refused true = h
    by_refused false = record { served = h.served; sent = h.sent; state = h.state }

after-shows : (m : MachineView) (store : Lists Node) → Does (shows m store) (shows (with_column_done m) store) Pages.after_column
after-shows m store before w h = record { served = h.served; sent = h.sent; state = ap (λ (s : State). (Pages.after_column (record w { state = s })).state) h.state }

pub left-shows : (m : MachineView) (store : Lists Node) (c : Column) → Does (shows m store) (shows (with_left c m) store) (Pages.keep_left (column_shown store c))
left-shows m store c before w h = record { served = h.served; sent = h.sent; state = ap (λ (s : State). (Pages.keep_left (column_shown store c) (record w { state = s })).state) h.state }

-- the machine shows the same of another store
pub does-moved : (m : MachineView) (store new : Lists Node) (to : Fact) (f : Work → Work) → IsShownBy m store new → Does (shows m new) to f → Does (shows m store) to f
does-moved m store new to f same does before w h = does before w (shows-moved m m store new before w same.events (same.state w.state.boxes w.state.waiting) h)

module _ (m : MachineView) (store : Lists Node) (c : PlainColumn) (to : Fact) where
  abbrev put_by : (flat first : Bool) → Work → Work
  put_by two first w = if not two then Pages.ship m.params (one c) w else (if first then Pages.keep_left c w else Pages.ship_pair m.params c w)

  columns-of : (before : List PlainSent) (w : Work) → ShowsWork before m store w → m.two_columns ≡ w.state.two_columns
  columns-of before w h = ap (λ (s : State). s.two_columns) h.state

  first-of : (before : List PlainSent) (w : Work) → ShowsWork before m store w → m.first_column ≡ w.state.first_column
  first-of before w h = ap (λ (s : State). s.first_column) h.state

  by-is : (two first : Bool) (f : Work → Work) → m.two_columns ≡ two → m.first_column ≡ first → ((w : Work) → put_by two first w ≡ f w) → Does (shows m store) to f → Does (shows m store) to (Pages.put_out_by m.params c)
  by-is two first f e g is does before w h =
      subst (to before) (sym (is w) ∙ (λ i. put_by ((sym e ∙ columns-of before w h) i) ((sym g ∙ first-of before w h) i) w)) (does before w h)

  pub out-one : m.two_columns ≡ false → Does (shows m store) to (Pages.ship m.params (one c)) → Does (shows m store) to (Pages.put_out_by m.params c)
  out-one e does = by-is false m.first_column (Pages.ship m.params (one c)) e refl (λ w. refl) does

  pub out-first : m.two_columns ≡ true → m.first_column ≡ true → Does (shows m store) to (Pages.keep_left c) → Does (shows m store) to (Pages.put_out_by m.params c)
  out-first e g does = by-is true true (Pages.keep_left c) e g (λ w. refl) does

  pub out-second : m.two_columns ≡ true → m.first_column ≡ false → Does (shows m store) to (Pages.ship_pair m.params c) → Does (shows m store) to (Pages.put_out_by m.params c)
  out-second e g does = by-is true false (Pages.ship_pair m.params c) e g (λ w. refl) does

pub put_out-does : (m mid : MachineView) (store new : Lists Node) (c : PlainColumn) → Does (shows m store) (shows mid new) (Pages.put_out_by m.params c) → Does (shows m store) (shows (with_column_done mid) new) (Pages.put_out m.params c)
put_out-does m mid store new c does before w h =
    after-shows mid new before (Pages.put_out_by m.params c (records_also (output c) w)) (does before (records_also (output c) w) (records-show m store (output c) before w h))

pub put_out-fails : (e : RunFault) (m mid : MachineView) (store new : Lists Node) (c : PlainColumn) → Does (shows m store) (IsCutShort e mid new) (Pages.put_out_by m.params c) → Does (shows m store) (IsCutShort e mid new) (Pages.put_out m.params c)
put_out-fails e m mid store new c does before w h =
    cut-then (shows m store) e mid new (Pages.put_out_by m.params c) Pages.after_column does continues-after_column before (records_also (output c) w) (records-show m store (output c) before w h)

-- ---- the machine

pub done-keeps : (args : List ℕ) (m mid : MachineView) (store new : Lists Node) → KeepsMachine args m mid store new → KeepsMachine args m (with_column_done mid) store new
done-keeps args m mid store new k = record {
  machine = machine-with mid new k.machine k.machine.goal refl k.machine.unmarked k.machine.events k.machine.apart;
  frame = k.frame;
  fields = record { params = k.fields.params; classes = k.fields.classes; fault = k.fields.fault };
}

pub left-keeps : (m : MachineView) (store : Lists Node) (c : Column) → IsMachine m store → IsPageColumn store c → IsNoneOf c.list (machine_lists m) → KeepsMachine (c.list ∷ []) m (with_left c m) store store
left-keeps m store c is page apart = record {
  machine = record {
    params = is.params;
    classes = is.classes;
    goal = is.goal;
    first = is.first;
    last = is.last;
    numbered = is.numbered;
    shrink = is.shrink;
    pool = is.pool;
    unmarked = is.unmarked;
    left = λ e. refl;
    held_page = is.held_page;
    held_room = is.held_room;
    left_column = page;
    events = is.events;
    apart = (((λ e. apart.0 (sym e)), none-back m.held_page (left_lists m.left_column) (event_lists m.events) is.apart.0), (none-back c.list (left_lists m.left_column) (event_lists m.events) apart.1, distinct-back (left_lists m.left_column) (event_lists m.events) is.apart.1));
  };
  frame = λ q live none. (refl, (none.1.0, (none.0, none-back q (left_lists m.left_column) (event_lists m.events) none.1.1)));
  fields = record { params = refl; classes = refl; fault = refl };
}
