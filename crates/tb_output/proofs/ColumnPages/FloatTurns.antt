-- Columns of floats, and pages of wide ones, are put out one after another.
use Rattle.std.proofs.Common.{◌≡◌, refl, sym, subst, ◌∙◌, ap, ℕ, suc, ◌+◌, ◌-◌, ◌<◌, ◌≤◌, List, [], length, Bool, true, false, None, arith}
use Rattle.std.specs.Prelude.{MatchBool}
use Rattle.tb_pool.specs.Lists.{Lists}
use Rattle.tb_node.specs.declared.Node.{Node}
use Rattle.tb_float.specs.Lists.{FloatLists, wide_waiting}
use Rattle.tb_fpage.specs.Company.{company}
use Rattle.tb_sheet.specs.Sheet.{PlainSent}
use Rattle.tb_output.specs.declared.RunFault.{RunFault}
use Rattle.tb_output.specs.State.{Work}
use Rattle.tb_output.specs.Columns
use Rattle.tb_output.specs.Pages
use Rattle.tb_output.specs.Machine.{MachineView, IsMachine}
use Rattle.tb_output.specs.FiringWork.{ShowsWork, shows, IsCutShort, Does, Leads}
use Rattle.tb_output.specs.MachineFrame.{KeepsMachine}
use Rattle.tb_output.specs.FiringParts.{column_done, wide_done, NoColumn, NoWidePage}
use Rattle.tb_output.proofs.StepLaws.WorkSteps.{continues-float_columns, continues-wide_pages}
use Rattle.tb_output.proofs.FiringWork.WorkingLemmas.{leads-does, leads-on, cut-then, shows-moved}
use Rattle.tb_output.proofs.FiringWork.StandLemmas.{lists-shown}
use Rattle.tb_output.proofs.FiringWork.KeepLemmas.{keeps-same, keeps-then}
use Rattle.tb_output.proofs.Clears.CompanyLemmas.{floats-are, columns-over, columns-turn, pages-over, pages-turn}

-- nothing changed: the machine shows what it showed
pub unchanged-shows : (m now : MachineView) (store new : Lists Node) → IsMachine m store → now ≡ m → new.lists ≡ store.lists → (before : List PlainSent) (w : Work) → ShowsWork before m store w → ShowsWork before now new w
unchanged-shows m now store new is same lists before w h =
    let shown = lists-shown m store new is lists in
    subst (λ n. ShowsWork before n new w) (sym same) (shows-moved m m store new before w shown.events (shown.state w.state.boxes w.state.waiting) h)

-- ---- columns of floats

-- so many turns are left of the columns
pub record ColumnsLeft (clearing : Bool) (n : ℕ) (m now : MachineView) (store new : Lists Node) : Type 0 where
  pub leads : Leads (shows m store) (shows now new) (Columns.all_float_columns m.params clearing) (Columns.float_columns m.params clearing n)
  pub keeps : KeepsMachine [] m now store new

pub columns-begin : (clearing : Bool) (n : ℕ) (m : MachineView) (store : Lists Node) → IsMachine m store → n ≡ length m.pool.lists.deferred → ColumnsLeft clearing n m m store store
columns-begin clearing n m store is count = record {
  leads = λ before w h. (w, h, ap (λ k. Columns.float_columns m.params clearing k w) (ap (λ (l : FloatLists). length l.deferred) (floats-are m store before w h) ∙ sym count));
  keeps = keeps-same [] m store store is refl;
}

module _ (clearing : Bool) (n : ℕ) (m mid now : MachineView) (store middle new : Lists Node) (h : ColumnsLeft clearing n m mid store middle) where
  pub columns-next : (k : ℕ) → n ≡ suc k → Does (shows mid middle) (shows now new) (column_done mid.params clearing) → KeepsMachine [] mid now middle new → ColumnsLeft clearing k m now store new
  columns-next k e does keeps = record {
    leads = leads-on (shows m store) (shows mid middle) (shows now new) (Columns.all_float_columns m.params clearing) (Columns.float_columns m.params clearing n) (column_done m.params clearing) (Columns.float_columns m.params clearing k)
        h.leads (subst (λ p. Does (shows mid middle) (shows now new) (column_done p clearing)) h.keeps.fields.params does)
        (λ before w shown. ap (λ j. Columns.float_columns m.params clearing j w) e ∙ columns-turn m.params clearing k w);
    keeps = keeps-then [] [] m mid now store middle new h.keeps keeps (λ q live none. none);
  }

  pub columns-stop : NoColumn clearing mid now middle new → Does (shows m store) (shows now new) (Columns.all_float_columns m.params clearing)
  columns-stop none = leads-does (shows m store) (shows mid middle) (shows now new) (Columns.all_float_columns m.params clearing) (Columns.float_columns m.params clearing n) h.leads (λ before w shown.
      let over : company (Columns.single_wanted m.params w.state.floats clearing) w.state.floats.deferred ≡ None =
      (λ i. company (Columns.single_wanted (sym h.keeps.fields.params i) (floats-are mid middle before w shown i) clearing) (floats-are mid middle before w shown i).deferred) ∙ none.none in
      subst (λ v. ShowsWork before now new v) (sym (columns-over m.params clearing n w over)) (unchanged-shows mid now middle new h.keeps.machine none.machine none.lists before w shown))

  pub columns-cut : (e : RunFault) (k : ℕ) → n ≡ suc k → Does (shows mid middle) (IsCutShort e now new) (column_done mid.params clearing) → Does (shows m store) (IsCutShort e now new) (Columns.all_float_columns m.params clearing)
  columns-cut e k count does = leads-does (shows m store) (shows mid middle) (IsCutShort e now new) (Columns.all_float_columns m.params clearing) (Columns.float_columns m.params clearing n) h.leads (λ before w shown.
      subst (λ v. IsCutShort e now new before v) (sym (ap (λ j. Columns.float_columns m.params clearing j w) count ∙ columns-turn m.params clearing k w))
      (cut-then (shows mid middle) e now new (column_done m.params clearing) (Columns.float_columns m.params clearing k) (subst (λ p. Does (shows mid middle) (IsCutShort e now new) (column_done p clearing)) h.keeps.fields.params does) (continues-float_columns m.params clearing k) before w shown))

  pub columns-all : n ≡ 0 → Does (shows m store) (shows mid middle) (Columns.all_float_columns m.params clearing)
  columns-all e = leads-does (shows m store) (shows mid middle) (shows mid middle) (Columns.all_float_columns m.params clearing) (Columns.float_columns m.params clearing n) h.leads (λ before w shown.
      subst (λ k. ShowsWork before mid middle (Columns.float_columns m.params clearing k w)) (sym e) shown)

-- ---- pages of wide floats

-- so many turns are left of the pages
pub record PagesLeft (clearing : Bool) (n : ℕ) (m now : MachineView) (store new : Lists Node) : Type 0 where
  pub leads : Leads (shows m store) (shows now new) (Pages.all_wide_pages m.params clearing) (Pages.wide_pages m.params clearing n)
  pub keeps : KeepsMachine [] m now store new

pub pages-begin : (clearing : Bool) (n : ℕ) (m : MachineView) (store : Lists Node) → IsMachine m store → n ≡ length (wide_waiting m.params m.pool.lists) → PagesLeft clearing n m m store store
pages-begin clearing n m store is count = record {
  leads = λ before w h. (w, h, ap (λ k. Pages.wide_pages m.params clearing k w) (ap (λ (l : FloatLists). length (wide_waiting m.params l)) (floats-are m store before w h) ∙ sym count));
  keeps = keeps-same [] m store store is refl;
}

module _ (clearing : Bool) (n : ℕ) (m mid now : MachineView) (store middle new : Lists Node) (h : PagesLeft clearing n m mid store middle) where
  pub pages-next : (k : ℕ) → n ≡ suc k → Does (shows mid middle) (shows now new) (wide_done mid.params clearing) → KeepsMachine [] mid now middle new → PagesLeft clearing k m now store new
  pages-next k e does keeps = record {
    leads = leads-on (shows m store) (shows mid middle) (shows now new) (Pages.all_wide_pages m.params clearing) (Pages.wide_pages m.params clearing n) (wide_done m.params clearing) (Pages.wide_pages m.params clearing k)
        h.leads (subst (λ p. Does (shows mid middle) (shows now new) (wide_done p clearing)) h.keeps.fields.params does)
        (λ before w shown. ap (λ j. Pages.wide_pages m.params clearing j w) e ∙ pages-turn m.params clearing k w);
    keeps = keeps-then [] [] m mid now store middle new h.keeps keeps (λ q live none. none);
  }

  pub pages-stop : NoWidePage clearing mid now middle new → Does (shows m store) (shows now new) (Pages.all_wide_pages m.params clearing)
  pages-stop none = leads-does (shows m store) (shows mid middle) (shows now new) (Pages.all_wide_pages m.params clearing) (Pages.wide_pages m.params clearing n) h.leads (λ before w shown.
      let over : company (Pages.wide_wanted m.params clearing) (wide_waiting m.params w.state.floats) ≡ None =
      (λ i. company (Pages.wide_wanted (sym h.keeps.fields.params i) clearing) (wide_waiting (sym h.keeps.fields.params i) (floats-are mid middle before w shown i))) ∙ none.none in
      subst (λ v. ShowsWork before now new v) (sym (pages-over m.params clearing n w over)) (unchanged-shows mid now middle new h.keeps.machine none.machine none.lists before w shown))

  pub pages-cut : (e : RunFault) (k : ℕ) → n ≡ suc k → Does (shows mid middle) (IsCutShort e now new) (wide_done mid.params clearing) → Does (shows m store) (IsCutShort e now new) (Pages.all_wide_pages m.params clearing)
  pages-cut e k count does = leads-does (shows m store) (shows mid middle) (IsCutShort e now new) (Pages.all_wide_pages m.params clearing) (Pages.wide_pages m.params clearing n) h.leads (λ before w shown.
      subst (λ v. IsCutShort e now new before v) (sym (ap (λ j. Pages.wide_pages m.params clearing j w) count ∙ pages-turn m.params clearing k w))
      (cut-then (shows mid middle) e now new (wide_done m.params clearing) (Pages.wide_pages m.params clearing k) (subst (λ p. Does (shows mid middle) (IsCutShort e now new) (wide_done p clearing)) h.keeps.fields.params does) (continues-wide_pages m.params clearing k) before w shown))

  pub pages-all : n ≡ 0 → Does (shows m store) (shows mid middle) (Pages.all_wide_pages m.params clearing)
  pages-all e = leads-does (shows m store) (shows mid middle) (shows mid middle) (Pages.all_wide_pages m.params clearing) (Pages.wide_pages m.params clearing n) h.leads (λ before w shown.
      subst (λ k. ShowsWork before mid middle (Pages.wide_pages m.params clearing k w)) (sym e) shown)

-- ---- how many turns are left

pub turns-left : (n k end : ℕ) → end ≡ n → k < end → n - k ≡ suc (n - (k + 1))
turns-left n k end e lt = omega arith

pub turns-over : (n k end : ℕ) → end ≡ n → end ≤ k → n - k ≡ 0
turns-over n k end e over = omega arith

-- ---- whether there was one more

pub when-more : (b : Bool) (P Q : Type 0) → b ≡ true → MatchBool b P Q → P
when-more true P Q e h = h
when-more false P Q e h = absurd cc

pub when-none : (b : Bool) (P Q : Type 0) → b ≡ false → MatchBool b P Q → Q
when-none true P Q e h = absurd cc
when-none false P Q e h = h
