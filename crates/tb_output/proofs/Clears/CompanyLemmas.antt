-- Floats that were chosen leave the pool for a column of floats or a wide page.
use Rattle.std.proofs.Common.{◌≡◌, refl, sym, subst, ◌∙◌, ap, ℕ, zero, suc, List, [], length, Bool, true, false, Option, None, Some}
use Rattle.std.specs.Prelude.{IsTrue}
use Rattle.tb_pool.specs.Lists.{Lists}
use Rattle.tb_node.specs.declared.Node.{Node}
use Rattle.tb_param.specs.declared.Params.{Params}
use Rattle.tb_float.specs.declared.Part.{Part}
use Rattle.tb_float.specs.declared.Part.TheVariants as parts
use Rattle.tb_float.specs.Lists.{FloatLists, live_count, with_floats_of, IsWaiting, wide_part, wide_waiting, with_wide_waiting}
use Rattle.tb_float.specs.Pool.{FloatPool, HasNoMarks, marked_among, marked_floats, unmarked_floats, without_marks}
use Rattle.tb_float.specs.MarkedFloats.{without_marked}
use Rattle.tb_float.specs.Rooms.{column_height_of}
use Rattle.tb_float.proofs.MarkLemmas.{marked-false}
use Rattle.tb_float.proofs.WaitingLemmas.{wide-waits}
use Rattle.tb_fpage.specs.declared.Wanted.{Wanted}
use Rattle.tb_fpage.specs.Company.{Choice, company, chosen_floats, left_floats}
use Rattle.tb_fpage.specs.Choice.{IsChosen}
use Rattle.tb_column.specs.Column.{PlainColumn, single_floats_column, wide_floats_column, float_column_of}
use Rattle.tb_sheet.specs.Sheet.{PlainSent, wide}
use Rattle.tb_output.specs.State.{State, Work, with_floats}
use Rattle.tb_output.specs.Machine.{MachineView}
use Rattle.tb_output.specs.FiringWork.{ShowsWork, shows, Does, Continues}
use Rattle.tb_output.specs.Pages
use Rattle.tb_output.specs.Columns
use Rattle.tb_output.specs.FiringParts.{column_done, wide_done}
use Rattle.tb_output.proofs.StepLaws.WorkSteps.{continues-same, continues-put_out_company, continues-ship_wide}
use Rattle.tb_output.proofs.FiringWork.WorkingLemmas.{Fact}
use Rattle.tb_output.specs.Events.{HasRoomFor}
use Rattle.tb_output.proofs.ColumnPages.FloatMoves.{floats-do, room-stays}

-- ---- the pool

module _ (z : Wanted) (v w : FloatPool) where
  -- the floats that were not chosen stay
  pub left-lists : (from : Part) → IsWaiting from → (h : IsChosen z from v w) → (without_marked from w).lists ≡ with_floats_of from (left_floats h.choices) v.lists
  left-lists parts.Deferred q h = λ i. record (h.lists i) { deferred = h.unmarked i }
  left-lists parts.Second q h = λ i. record (h.lists i) { second = h.unmarked i }
  left-lists from q h = absurd q

  pub left-size : (from : Part) → IsWaiting from → IsChosen z from v w → (without_marked from w).size ≡ v.size
  left-size parts.Deferred q h = h.size
  left-size parts.Second q h = h.size
  left-size from q h = absurd q

  -- the marks of the other list
  second-free : IsChosen z parts.Deferred v w → HasNoMarks v → marked_among w.second_marks w.lists.second ≡ []
  second-free h none = (λ i. marked_among (h.other_marks parts.Second (λ e. cc) i) (h.lists i).second) ∙ none.second

  deferred-free : IsChosen z parts.Second v w → HasNoMarks v → marked_among w.marks w.lists.deferred ≡ []
  deferred-free h none = (λ i. marked_among (h.other_marks parts.Deferred (λ e. cc) i) (h.lists i).deferred) ∙ none.deferred

  pub left-unmarked : (from : Part) → IsWaiting from → IsChosen z from v w → HasNoMarks v → HasNoMarks (without_marked from w)
  left-unmarked parts.Deferred q h none = record { deferred = marked-false (length (unmarked_floats parts.Deferred w)) (unmarked_floats parts.Deferred w); second = second-free h none }
  left-unmarked parts.Second q h none = record { deferred = deferred-free h none; second = marked-false (length (unmarked_floats parts.Second w)) (unmarked_floats parts.Second w) }
  left-unmarked from q h none = absurd q

  pub back-size : (from : Part) → IsWaiting from → IsChosen z from v w → (without_marks from w).size ≡ v.size
  back-size parts.Deferred q h = h.size
  back-size parts.Second q h = h.size
  back-size from q h = absurd q

  pub back-unmarked : (from : Part) → IsWaiting from → IsChosen z from v w → HasNoMarks v → HasNoMarks (without_marks from w)
  back-unmarked parts.Deferred q h none = record { deferred = marked-false (length w.marks) w.lists.deferred; second = second-free h none }
  back-unmarked parts.Second q h none = record { deferred = deferred-free h none; second = marked-false (length w.second_marks) w.lists.second }
  back-unmarked from q h none = absurd q

-- whether there is a company or not, as many boxes are live as before
pub chosen-room : (b : Bool) (z : Wanted) (from : Part) (v w : FloatPool) (room : ℕ) → (IsTrue b → IsChosen z from v w) → (b ≡ false → w ≡ v) → HasRoomFor v room → HasRoomFor w room
chosen-room true z from v w room chosen same h = let k = chosen refl in room-stays v w room k.size (ap live_count k.lists) h
chosen-room false z from v w room chosen same h = subst (λ x. HasRoomFor x room) (sym (same refl)) h

-- nothing changed
pub pool-same : (m : MachineView) (v : FloatPool) → v ≡ m.pool → record m { pool = v } ≡ m
pool-same m v e = ap (λ x. record m { pool = x }) e

-- ---- the work

-- the lists of floats of a work that is shown
pub floats-are : (m : MachineView) (store : Lists Node) (before : List PlainSent) (w : Work) → ShowsWork before m store w → w.state.floats ≡ m.pool.lists
floats-are m store before w h = sym (ap (λ (s : State). s.floats) h.state)

module _ (m mid : MachineView) (s : Lists Node) (clearing : Bool) (w : FloatPool) where
  abbrev single : Wanted
  single = Columns.single_wanted m.params m.pool.lists clearing

  module _ (to : Fact) (h : IsChosen single parts.Deferred m.pool w) (is_mid : mid ≡ record m { pool = without_marked parts.Deferred w }) (c : PlainColumn) (shown : c ≡ float_column_of false m.params (column_height_of m.params m.pool.lists) (marked_floats parts.Deferred w)) where
    -- they leave the lists
    deferred-left : Does (shows m s) (shows mid s) (Pages.with_deferred (left_floats h.choices))
    deferred-left = floats-do m mid s (with_floats_of parts.Deferred (left_floats h.choices) m.pool.lists) (Pages.with_deferred (left_floats h.choices))
        (is_mid ∙ (λ i. record m { pool = (ap (λ (n : MachineView). n.pool) (sym is_mid)) i }))
        (ap (λ (n : MachineView). n.pool.lists) is_mid ∙ left-lists single m.pool w parts.Deferred tt h)
        (λ v served floats flags. record { state = ap (λ (l : FloatLists). record v.state { floats = record l { deferred = left_floats h.choices } }) floats; put_back = refl; sent = refl; refused = refl })

    column-is : single_floats_column m.params (column_height_of m.params m.pool.lists) (chosen_floats h.choices) ≡ c
    column-is = sym (shown ∙ ap (single_floats_column m.params (column_height_of m.params m.pool.lists)) h.marked)

    done-is : (v : Work) → v.state.floats ≡ m.pool.lists → column_done m.params clearing v ≡ Pages.put_out m.params c (Pages.with_deferred (left_floats h.choices) v)
    done-is v floats =
        ap (λ (l : FloatLists). Columns.float_columns_by (λ u. u) m.params v (company (Columns.single_wanted m.params l clearing) l.deferred)) floats
        ∙ ap (Columns.float_columns_by (λ u. u) m.params v) h.found
        ∙ ap (λ (l : FloatLists). Pages.put_out m.params (single_floats_column m.params (column_height_of m.params l) (chosen_floats h.choices)) (Pages.with_deferred (left_floats h.choices) v)) floats
        ∙ ap (λ k. Pages.put_out m.params k (Pages.with_deferred (left_floats h.choices) v)) column-is

    -- a column of them is put out
    pub company-out : Does (shows mid s) to (Pages.put_out m.params c) → Does (shows m s) to (column_done m.params clearing)
    company-out does before v k = subst (to before) (sym (done-is v (floats-are m s before v k))) (does before (Pages.with_deferred (left_floats h.choices) v) (deferred-left before v k))

  abbrev wide_from : Part
  wide_from = wide_part m.params

  module _ (to : Fact) (h : IsChosen (Pages.wide_wanted m.params clearing) wide_from m.pool w) (is_mid : mid ≡ record m { pool = without_marked wide_from w }) (c : PlainColumn) (shown : c ≡ float_column_of true m.params m.params.textheight (marked_floats wide_from w)) where
    wide-left : Does (shows m s) (shows mid s) (λ v. with_floats (with_wide_waiting m.params (left_floats h.choices) v.state.floats) v)
    wide-left = floats-do m mid s (with_floats_of wide_from (left_floats h.choices) m.pool.lists) (λ v. with_floats (with_wide_waiting m.params (left_floats h.choices) v.state.floats) v)
        (is_mid ∙ (λ i. record m { pool = (ap (λ (n : MachineView). n.pool) (sym is_mid)) i }))
        (ap (λ (n : MachineView). n.pool.lists) is_mid ∙ left-lists (Pages.wide_wanted m.params clearing) m.pool w wide_from (wide-waits m.params) h)
        (λ v served floats flags. record { state = ap (λ (l : FloatLists). record v.state { floats = with_wide_waiting m.params (left_floats h.choices) l }) floats; put_back = refl; sent = refl; refused = refl })

    page-is : wide_floats_column m.params m.params.textheight (chosen_floats h.choices) ≡ c
    page-is = sym (shown ∙ ap (wide_floats_column m.params m.params.textheight) h.marked)

    wide-is : (v : Work) → v.state.floats ≡ m.pool.lists → wide_done m.params clearing v ≡ Pages.ship m.params (wide c) (with_floats (with_wide_waiting m.params (left_floats h.choices) v.state.floats) v)
    wide-is v floats =
        ap (λ (l : FloatLists). Pages.wide_pages_by (λ u. u) m.params v (company (Pages.wide_wanted m.params clearing) (wide_waiting m.params l))) floats
        ∙ ap (Pages.wide_pages_by (λ u. u) m.params v) h.found
        ∙ ap (λ k. Pages.ship m.params (wide k) (with_floats (with_wide_waiting m.params (left_floats h.choices) v.state.floats) v)) page-is

    -- a page of them is shipped
    pub wide-out : Does (shows mid s) to (Pages.ship m.params (wide c)) → Does (shows m s) to (wide_done m.params clearing)
    wide-out does before v k = subst (to before) (sym (wide-is v (floats-are m s before v k))) (does before (with_floats (with_wide_waiting m.params (left_floats h.choices) v.state.floats) v) (wide-left before v k))

-- ---- turns

column-by : (p : Params) (w : Work) (o : Option (List Choice)) → Continues w (Columns.float_columns_by (λ v. v) p w o)
column-by p w None = continues-same refl refl refl refl refl refl
column-by p w (Some cs) = continues-put_out_company p cs w

pub continues-column_done : (p : Params) (clearing : Bool) (w : Work) → Continues w (column_done p clearing w)
continues-column_done p clearing w = column-by p w (company (Columns.single_wanted p w.state.floats clearing) w.state.floats.deferred)

page-by : (p : Params) (w : Work) (o : Option (List Choice)) → Continues w (Pages.wide_pages_by (λ v. v) p w o)
page-by p w None = continues-same refl refl refl refl refl refl
page-by p w (Some cs) = continues-ship_wide p cs w

pub continues-wide_done : (p : Params) (clearing : Bool) (w : Work) → Continues w (wide_done p clearing w)
continues-wide_done p clearing w = page-by p w (company (Pages.wide_wanted p clearing) (wide_waiting p w.state.floats))

-- ---- one turn after another

-- no more columns if there is no company
pub columns-over : (p : Params) (clearing : Bool) (n : ℕ) (w : Work) → company (Columns.single_wanted p w.state.floats clearing) w.state.floats.deferred ≡ None → Columns.float_columns p clearing n w ≡ w
columns-over p clearing zero w e = refl
columns-over p clearing (suc n) w e = ap (Columns.float_columns_by (λ v. Columns.float_columns p clearing n v) p w) e

columns-then : (p : Params) (clearing : Bool) (n : ℕ) (w : Work) (o : Option (List Choice)) → company (Columns.single_wanted p w.state.floats clearing) w.state.floats.deferred ≡ o
    → Columns.float_columns_by (λ v. Columns.float_columns p clearing n v) p w o ≡ Columns.float_columns p clearing n (Columns.float_columns_by (λ v. v) p w o)
columns-then p clearing n w None e = sym (columns-over p clearing n w e)
columns-then p clearing n w (Some cs) e = refl

pub columns-turn : (p : Params) (clearing : Bool) (n : ℕ) (w : Work) → Columns.float_columns p clearing (suc n) w ≡ Columns.float_columns p clearing n (column_done p clearing w)
columns-turn p clearing n w = columns-then p clearing n w (company (Columns.single_wanted p w.state.floats clearing) w.state.floats.deferred) refl

pub pages-over : (p : Params) (clearing : Bool) (n : ℕ) (w : Work) → company (Pages.wide_wanted p clearing) (wide_waiting p w.state.floats) ≡ None → Pages.wide_pages p clearing n w ≡ w
pages-over p clearing zero w e = refl
pages-over p clearing (suc n) w e = ap (Pages.wide_pages_by (λ v. Pages.wide_pages p clearing n v) p w) e

pages-then : (p : Params) (clearing : Bool) (n : ℕ) (w : Work) (o : Option (List Choice)) → company (Pages.wide_wanted p clearing) (wide_waiting p w.state.floats) ≡ o
    → Pages.wide_pages_by (λ v. Pages.wide_pages p clearing n v) p w o ≡ Pages.wide_pages p clearing n (Pages.wide_pages_by (λ v. v) p w o)
pages-then p clearing n w None e = sym (pages-over p clearing n w e)
pages-then p clearing n w (Some cs) e = refl

pub pages-turn : (p : Params) (clearing : Bool) (n : ℕ) (w : Work) → Pages.wide_pages p clearing (suc n) w ≡ Pages.wide_pages p clearing n (wide_done p clearing w)
pages-turn p clearing n w = pages-then p clearing n w (company (Pages.wide_wanted p clearing) (wide_waiting p w.state.floats)) refl
