-- A machine after a float was taken.
use Rattle.std.proofs.Common.{◌≡◌, refl, sym, subst, ap, ◌∙◌, ℕ, ◌≤◌, Bool, List, [], ◌∷◌, ◌++◌, Result, arith, append-nil}
use Rattle.std.specs.Prelude.{OnOk, IfErr, pos, not, ◌&&◌, ◌==◌, int_lt, if◌then◌else◌}
use Rattle.std.specs.List.{AllByRecursion}
use Rattle.tb_break.proofs.EachLemmas.{all-join}
use Rattle.tb_pool.specs.Lists.{Lists}
use Rattle.tb_node.specs.declared.Float.{Float}
use Rattle.tb_node.specs.declared.Node.{Node}
use Rattle.tb_node.specs.declared.Act.TheVariants as acts
use Rattle.tb_param.specs.declared.Params.{Params}
use Rattle.tb_param.specs.declared.Change.{Change}
use Rattle.tb_float.specs.declared.Full.{Full}
use Rattle.tb_float.specs.Pool.{FloatPool, HasNoMarks}
use Rattle.tb_sheet.specs.declared.Sent.{Sent}
use Rattle.tb_sheet.specs.declared.Warn.{Warn}
use Rattle.tb_output.specs.Act.{large_warning, Acted, went, full, has_head_room, taken_head, with_head}
use Rattle.tb_output.specs.Machine.{MachineView, event_lists, left_lists, machine_lists, IsMachine, state_shown}
use Rattle.tb_sheet.specs.StoredSheets.{sent_lists, IsPageSent}
use Rattle.tb_pool.specs.Frame.{IsNoneOf}
use Rattle.tb_column.specs.Notes.{AreDistinct}
use Rattle.tb_output.specs.ActCalls.{warnings_sent, TakesNoList, clipped, taken_into, with_float, with_columns, with_page_number, with_changed, HasTaken, HasNoRoom, IsActed, acted_in, has_title_room, HasTakenTitle, HasNoTitleRoom}
use Rattle.tb_sheet.specs.ApartLists.{AreNoneOf}
use Rattle.tb_pool.proofs.FrameLemmas.{none-front}
use Rattle.tb_sheet.proofs.ListsApart.{apart-cons, distinct-apart}
use Rattle.tb_output.proofs.FiringWork.BesideLemmas.{machine-with}
use Rattle.tb_output.proofs.FiringWork.ResultLemmas.{either-way}
use Rattle.tb_output.proofs.ColumnPages.ParamLemmas.{changed-output}
use Rattle.tb_output.specs.State.{State}
use Rattle.tb_builder.specs.Pageable.{IsGoal}
use Rattle.tb_builder.specs.FiredPages.{Boxed}
use Rattle.tb_node.specs.PlainNodes.{PlainNode}
use Rattle.tb_float.specs.Lists.{live_count}

-- ---- warnings have no lists

no-lists : (ws : List Warn) → event_lists (warnings_sent ws) ≡ []
no-lists [] = refl
no-lists (w ∷ ws) = no-lists ws

lists-warned : (es : List Sent) (ws : List Warn) → event_lists es ≡ event_lists (es ++ warnings_sent ws)
lists-warned [] ws = sym (no-lists ws)
lists-warned (e ∷ es) ws = ap (λ ls. sent_lists e ++ ls) (lists-warned es ws)

page-warnings : (store : Lists Node) (ws : List Warn) → AllByRecursion (IsPageSent store) (warnings_sent ws)
page-warnings store [] = tt
page-warnings store (w ∷ ws) = (tt, page-warnings store ws)

-- ---- a float was taken

pub float-taken : (m : MachineView) (f taken : Float) (v : FloatPool) (es : List Sent) → taken ≡ clipped m.params m.two_columns f → v ≡ taken_into m.params taken m.pool → es ≡ m.events ++ warnings_sent (large_warning m.params f) → record m { pool = v; events = es } ≡ with_float f m
float-taken m f taken v es t p e = λ i. record m { pool = (p ∙ ap (λ x. taken_into m.params x m.pool) t) i; events = e i }

pub float-unmarked : (p : Params) (two : Bool) (f taken : Float) (pool v : FloatPool) → taken ≡ clipped p two f → v ≡ taken_into p taken pool → (HasNoMarks pool → HasNoMarks v) → HasNoMarks pool → HasNoMarks (taken_into p (clipped p two f) pool)
float-unmarked p two f taken pool v t e free h = subst HasNoMarks (e ∙ ap (λ x. taken_into p x pool) t) (free h)

module _ (m now : MachineView) (f : Float) where
  float-lists : machine_lists m ≡ machine_lists (with_float f m)
  float-lists = ap (λ ls. m.held_page ∷ left_lists m.left_column ++ ls) (lists-warned m.events (large_warning m.params f))

  machine-float : (store : Lists Node) → (HasNoMarks m.pool → HasNoMarks (with_float f m).pool) → IsMachine m store → IsMachine (with_float f m) store
  machine-float store free is = machine-with m store is is.goal refl (free is.unmarked) (all-join (IsPageSent store) m.events (warnings_sent (large_warning m.params f)) is.events (page-warnings store (large_warning m.params f))) (subst AreDistinct float-lists is.apart)

  module _ {T : Type 0} (r : Result T Full) (ok : OnOk r (HasTaken 1 m (with_float f m) now)) (err : IfErr r (λ e. HasNoRoom 1 e.live m now)) where
    -- what holds between two calls holds whether there was room or not
    pub float-stands : (store : Lists Node) → IsMachine m store → IsMachine now store
    float-stands store is =
        either-way r (λ x. HasTaken 1 m (with_float f m) now) (λ e. HasNoRoom 1 e.live m now) (IsMachine now store)
        (λ x h. subst (λ v. IsMachine v store) (sym h.machine) (machine-float store h.unmarked is))
        (λ e h. subst (λ v. IsMachine v store) (sym h.machine) is)
        ok err

    -- no list becomes the machine's
    pub float-takes : TakesNoList m now
    float-takes q apart =
        either-way r (λ x. HasTaken 1 m (with_float f m) now) (λ e. HasNoRoom 1 e.live m now) (IsNoneOf q (machine_lists now))
        (λ x h. subst (λ v. IsNoneOf q (machine_lists v)) (sym h.machine) (subst (IsNoneOf q) float-lists apart))
        (λ e h. subst (λ v. IsNoneOf q (machine_lists v)) (sym h.machine) apart)
        ok err

-- ---- the columns change

-- the list of the column that is dropped is the machine's no longer
pub columns-drop : (two : Bool) (m now : MachineView) → now ≡ with_columns two m → (store : Lists Node) → IsMachine m store → AreNoneOf (left_lists m.left_column) (machine_lists now)
columns-drop two m now e store is =
    subst (λ v. AreNoneOf (left_lists m.left_column) (machine_lists v)) (sym e)
    (apart-cons (left_lists m.left_column) m.held_page (event_lists m.events) (none-front m.held_page (left_lists m.left_column) (event_lists m.events) is.apart.0)
    (distinct-apart (left_lists m.left_column) (event_lists m.events) is.apart.1))

-- ---- the page number is set

pub machine-numbered : (n : ℕ) (m : MachineView) (store : Lists Node) → IsMachine m store → n ≤ 1000000 → IsMachine (with_page_number n m) store
machine-numbered n m store is small = record {
  params = is.params;
  classes = is.classes;
  goal = is.goal;
  first = is.first;
  last = is.last;
  numbered = omega (arith, small);
  shrink = is.shrink;
  pool = is.pool;
  unmarked = is.unmarked;
  left = is.left;
  held_page = is.held_page;
  held_room = is.held_room;
  left_column = is.left_column;
  events = is.events;
  apart = is.apart;
}

-- ---- a parameter is set

pub machine-set : (c : Change) (m : MachineView) (store : Lists Node) → IsMachine m store → IsGoal (with_changed c m).goal → IsMachine (with_changed c m) store
machine-set c m store is goal = record {
  params = changed-output m.params c is.params;
  classes = is.classes;
  goal = goal;
  first = is.first;
  last = is.last;
  numbered = is.numbered;
  shrink = is.shrink;
  pool = is.pool;
  unmarked = is.unmarked;
  left = is.left;
  held_page = is.held_page;
  held_room = is.held_room;
  left_column = is.left_column;
  events = is.events;
  apart = is.apart;
}

-- ---- a title was taken

module _ (m now : MachineView) (f : Float) where
  machine-title : (store : Lists Node) → HasTakenTitle f m now → IsMachine m store → IsMachine now store
  machine-title store h is =
      subst (λ v. IsMachine v store) (sym h.machine)
      (machine-with m store is (subst (λ (v : MachineView). IsGoal v.goal) h.machine h.goal) refl (subst (λ (v : MachineView). HasNoMarks v.pool) h.machine (h.unmarked is.unmarked)) is.events is.apart)

  module _ {T : Type 0} (r : Result T Full) (ok : OnOk r (HasTakenTitle f m now)) (err : IfErr r (λ e. HasNoTitleRoom e.live m now)) where
    -- what holds between two calls holds whether there was room or not
    pub title-stands : (store : Lists Node) → IsMachine m store → IsMachine now store
    title-stands store is =
        either-way r (λ x. HasTakenTitle f m now) (λ e. HasNoTitleRoom e.live m now) (IsMachine now store)
        (λ x h. machine-title store h is)
        (λ e h. subst (λ v. IsMachine v store) (sym h.machine) is)
        ok err

    -- no list becomes the machine's
    pub title-takes : TakesNoList m now
    title-takes q apart =
        either-way r (λ x. HasTakenTitle f m now) (λ e. HasNoTitleRoom e.live m now) (IsNoneOf q (machine_lists now))
        (λ x h. subst (λ v. IsNoneOf q (machine_lists v)) (sym h.machine) apart)
        (λ e h. subst (λ v. IsNoneOf q (machine_lists v)) (sym h.machine) apart)
        ok err

  -- what the definition does
  module _ (size : pos m.pool.size ≡ m.params.pool) (store : Lists Node) (boxes : List Boxed) (waiting : List PlainNode) where
    s : State
    s = state_shown store boxes waiting m

    room-same : has_title_room (m.two_columns && m.first_column) m.pool ≡ has_head_room m.params (state_shown store boxes waiting m)
    room-same = ap (λ z. (m.two_columns && m.first_column) && (live_count m.pool.lists == 0) && int_lt (pos 0) z) size

    abbrev by_room : Bool → Acted
    by_room t = if not t then full f.line (live_count m.pool.lists) else went (with_head m.params (state_shown store boxes waiting m) (taken_head m.params f)) [] []

    pub title-acted : HasTakenTitle f m now → IsActed store boxes waiting m now (acted_in store boxes waiting m (acts.Head f))
    title-acted h =
        subst (λ t. IsActed store boxes waiting m now (by_room t)) (sym h.room ∙ room-same)
        (record { state = ap (state_shown store boxes waiting) h.machine; sent = ap (λ (v : MachineView). v.events) h.machine ∙ sym (append-nil m.events) })

    pub title-full : (live : ℕ) → HasNoTitleRoom live m now → acted_in store boxes waiting m (acts.Head f) ≡ full f.line live
    title-full live h = ap by_room (sym room-same ∙ h.room) ∙ ap (full f.line) (sym h.shown)
