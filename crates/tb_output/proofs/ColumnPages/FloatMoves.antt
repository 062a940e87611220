-- Floats move between the lists of the pool, or leave it; the machine is otherwise as it was.
use Rattle.std.proofs.Common.{◌≡◌, refl, sym, subst, ◌∙◌, ap, ℕ, List, [], ◌∷◌, ◌++◌, length, append_assoc, length-append, Bool, true, false, arith}
use Rattle.std.specs.List.{AllByRecursion}
use Rattle.tb_builder.proofs.Events.NextLemmas.{fresh_apart}
use Rattle.tb_pool.specs.Lists.{Lists, IsLive}
use Rattle.tb_pool.specs.Frame.{IsNoneOf}
use Rattle.tb_pool.proofs.FrameLemmas.{none-back}
use Rattle.tb_node.specs.declared.Node.{Node}
use Rattle.tb_node.specs.declared.Float.{Float}
use Rattle.tb_node.specs.PlainNodes.{PlainNode}
use Rattle.tb_param.specs.declared.Params.{Params}
use Rattle.tb_builder.specs.FiredPages.{Boxed}
use Rattle.tb_float.specs.declared.Suppress.{Suppress}
use Rattle.tb_float.specs.declared.Part.{Part}
use Rattle.tb_float.specs.declared.Part.TheVariants as parts
use Rattle.tb_float.specs.Lists.{FloatLists, live_count, floats_of, IsWaiting, wide_part, wide_waiting}
use Rattle.tb_float.specs.Pool.{FloatPool, HasNoMarks, without_marks}
use Rattle.tb_area.specs.Area.{AreaPlace, at_top, at_bottom, deferred, next_area_place, goes_double}
use Rattle.tb_area.specs.Deferred.{gone_to, still_before, filled, gone_double, still_single, doubled}
use Rattle.tb_sheet.specs.declared.Sent.{Sent}
use Rattle.tb_column.specs.ColumnChanges.{IsOpened}
use Rattle.tb_output.specs.State.{State, Work}
use Rattle.tb_output.specs.Events.{HasRoomFor}
use Rattle.tb_output.specs.Machine.{MachineView, state_shown, events_shown, machine_lists, IsMachine}
use Rattle.tb_output.specs.FiringWork.{shows, Does}
use Rattle.tb_output.specs.MachineFrame.{HasFloats, KeepsFields, KeepsMachine}
use Rattle.tb_output.specs.PageChanges.{filled_lists, doubled_lists}
use Rattle.tb_output.specs.Columns
use Rattle.tb_output.specs.Pages
use Rattle.tb_output.proofs.ColumnPages.FillLemmas.{HasLists, fill_column-lists, fill_double-lists}
use Rattle.tb_sheet.proofs.StandLemmas.{Stands}
use Rattle.tb_output.proofs.FiringWork.StandLemmas.{machine-live, IsShownBy, stands-shown}
use Rattle.tb_output.proofs.FiringWork.ApartLemmas.{fresh-none}
use Rattle.tb_output.proofs.FiringWork.BesideLemmas.{machine-with}

-- ---- as many boxes are live as before

gone-count : (a : AreaPlace) (f : Float) (before rest : List Float) (l : FloatLists) → l.deferred ≡ before ++ f ∷ rest
    → (live_count (gone_to a f before rest l) ≡ live_count l) × ((gone_to a f before rest l).deferred ≡ still_before a f before ++ rest)
gone-count at_top f before rest l e =
    (omega (arith, length-append l.top (f ∷ []), length-append before rest, ap length e, length-append before (f ∷ rest)), refl)
gone-count at_bottom f before rest l e =
    (omega (arith, length-append l.bottom (f ∷ []), length-append before rest, ap length e, length-append before (f ∷ rest)), refl)
gone-count deferred f before rest l e = (refl, e ∙ sym (append_assoc before (f ∷ []) rest))

pub filled-count : (p : Params) (s : Suppress) (before fs : List Float) (l : FloatLists) → l.deferred ≡ before ++ fs → live_count (filled p s before fs l) ≡ live_count l
filled-count p s before [] l e = refl
filled-count p s before (f ∷ rest) l e =
    let a = next_area_place p l s before f in
    let one = gone-count a f before rest l e in
    filled-count p s (still_before a f before) rest (gone_to a f before rest l) one.1 ∙ one.0

doubled-one : (from : Part) → IsWaiting from → (t : Bool) (f : Float) (before rest : List Float) (l : FloatLists) → floats_of from l ≡ before ++ f ∷ rest
    → (live_count (gone_double from t f before rest l) ≡ live_count l) × (floats_of from (gone_double from t f before rest l) ≡ still_single t f before ++ rest)
doubled-one parts.Deferred q true f before rest l e =
    (omega (arith, length-append l.double (f ∷ []), length-append before rest, ap length e, length-append before (f ∷ rest)), refl)
doubled-one parts.Second q true f before rest l e =
    (omega (arith, length-append l.double (f ∷ []), length-append before rest, ap length e, length-append before (f ∷ rest)), refl)
doubled-one parts.Deferred q false f before rest l e = (refl, e ∙ sym (append_assoc before (f ∷ []) rest))
doubled-one parts.Second q false f before rest l e = (refl, e ∙ sym (append_assoc before (f ∷ []) rest))
doubled-one from q t f before rest l e = absurd q

pub doubled-count : (from : Part) → IsWaiting from → (p : Params) (s : Suppress) (before fs : List Float) (l : FloatLists) → floats_of from l ≡ before ++ fs → live_count (doubled from p s before fs l) ≡ live_count l
doubled-count from q p s before [] l e = refl
doubled-count from q p s before (f ∷ rest) l e =
    let t = goes_double p l s before f in
    let one = doubled-one from q t f before rest l e in
    doubled-count from q p s (still_single t f before) rest (gone_double from t f before rest l) one.1 ∙ one.0

-- the room for warnings is still enough
pub room-stays : (v w : FloatPool) (room : ℕ) → w.size ≡ v.size → live_count w.lists ≡ live_count v.lists → HasRoomFor v room → HasRoomFor w room
room-stays v w room size count h = omega (arith, size, count, h)

-- what is chosen takes no room
pub marks-room : (from : Part) (v : FloatPool) (room : ℕ) → HasRoomFor v room → HasRoomFor (without_marks from v) room
marks-room parts.Current v room h = h
marks-room from v room h = h

-- the machine's events are the same, and its pool another
pub pool-moved : (f : FloatPool → FloatPool) (inside m : MachineView) (v : FloatPool) (es : List Sent) → inside ≡ m → v ≡ f inside.pool → es ≡ inside.events → record inside { pool = v; events = es } ≡ record m { pool = f m.pool }
pool-moved f inside m v es is pool events = λ i. record (is i) { pool = (pool ∙ ap (λ (n : MachineView). f n.pool) is) i; events = (events ∙ ap (λ (n : MachineView). n.events) is) i }

-- ---- a machine with another pool

module _ (v : FloatPool) (m now : MachineView) (is_now : now ≡ record m { pool = v }) where
  pub pooled-lists : machine_lists now ≡ machine_lists m
  pooled-lists = ap machine_lists is_now

  pub pooled-fields : KeepsFields m now
  pooled-fields = record { params = ap (λ n. n.params) is_now; classes = ap (λ n. n.classes) is_now; fault = ap (λ n. n.fault) is_now }

  pub pooled-state : (store : Lists Node) (boxes : List Boxed) (waiting : List PlainNode) → state_shown store boxes waiting now ≡ record (state_shown store boxes waiting m) { floats = v.lists }
  pooled-state store boxes waiting = ap (state_shown store boxes waiting) is_now

  pub pooled-machine : (store : Lists Node) → v.size ≡ m.pool.size → HasNoMarks v → IsMachine m store → IsMachine now store
  pooled-machine store size unmarked is = subst (λ n. IsMachine n store) (sym is_now) (machine-with m store is is.goal size unmarked is.events is.apart)

  -- a list was opened, and the others are as they were
  module _ (l : ℕ) (store new : Lists Node) (opened : IsOpened l store new) (is : IsMachine m store) where
    opened-stand : (ls : List ℕ) → AllByRecursion (IsLive store) ls → AllByRecursion (Stands store new) ls
    opened-stand [] live = tt
    opened-stand (q ∷ ls) live = (opened.others q (fresh_apart store l q opened.fresh live.0), opened-stand ls live.1)

    pub opened-shown : IsShownBy m store new
    opened-shown = stands-shown m store new is (opened-stand (machine_lists m) (machine-live m store is))

    pub opened-none : IsNoneOf l (machine_lists now)
    opened-none = subst (IsNoneOf l) (sym pooled-lists) (fresh-none store l (machine_lists m) opened.fresh (machine-live m store is))

    pub opened-keeps : v.size ≡ m.pool.size → HasNoMarks v → KeepsMachine [] m now store new
    opened-keeps size unmarked = record {
      machine = pooled-machine new size unmarked opened-shown.machine;
      frame = λ q live none. (opened.others q (fresh_apart store l q opened.fresh live), subst (IsNoneOf q) (sym pooled-lists) none);
      fields = pooled-fields;
    }

  -- no list changed
  pub pooled-keeps : (args : List ℕ) (store : Lists Node) → v.size ≡ m.pool.size → HasNoMarks v → IsMachine m store → KeepsMachine args m now store store
  pooled-keeps args store size unmarked is = record {
    machine = pooled-machine store size unmarked is;
    frame = λ q live none. (refl, subst (IsNoneOf q) (sym pooled-lists) (none-back q args (machine_lists m) none));
    fields = pooled-fields;
  }

-- ---- a step that changes the lists of floats alone

pub floats-do : (m now : MachineView) (store : Lists Node) (l : FloatLists) (f : Work → Work) → now ≡ record m { pool = now.pool } → now.pool.lists ≡ l
    → ((w : Work) → w.refused ≡ false → w.state.floats ≡ m.pool.lists → w.state.suppress ≡ m.suppress → HasLists w (f w) l)
    → Does (shows m store) (shows now store) f
floats-do m now store l f is_now lists step before w h =
    let moved = step w h.served (sym (ap (λ (s : State). s.floats) h.state)) (sym (ap (λ (s : State). s.suppress) h.state)) in
    record {
      served = moved.refused ∙ h.served;
      sent = ap (λ (n : MachineView). events_shown store n.events) is_now ∙ h.sent ∙ ap (λ es. before ++ es) (sym moved.sent);
      state = subst (λ (s : State). state_shown store s.boxes s.waiting now ≡ s) (sym moved.state)
          (pooled-state now.pool m now is_now store w.state.boxes w.state.waiting ∙ (λ i. record (h.state i) { floats = lists i }));
    }

pub floats-keep : (l : FloatLists) (m now : MachineView) (store : Lists Node) → HasFloats l m now → IsMachine m store → KeepsMachine [] m now store store
floats-keep l m now store h is = pooled-keeps now.pool m now h.rest [] store h.size (h.unmarked is.unmarked) is

pub fill_column-does : (m now : MachineView) (store : Lists Node) → HasFloats (filled_lists m) m now → Does (shows m store) (shows now store) (Columns.fill_column m.params)
fill_column-does m now store h = floats-do m now store (filled_lists m) (Columns.fill_column m.params) h.rest h.lists (λ w served floats flags. subst (λ (l : FloatLists). HasLists w (Columns.fill_column m.params w) (filled m.params m.suppress [] l.deferred l)) floats (subst (λ s. HasLists w (Columns.fill_column m.params w) (filled m.params s [] w.state.floats.deferred w.state.floats)) flags (fill_column-lists m.params w)))

pub fill_double-does : (m now : MachineView) (store : Lists Node) → HasFloats (doubled_lists m) m now → Does (shows m store) (shows now store) (Pages.fill_double m.params)
fill_double-does m now store h = floats-do m now store (doubled_lists m) (Pages.fill_double m.params) h.rest h.lists (λ w served floats flags. subst (λ (l : FloatLists). HasLists w (Pages.fill_double m.params w) (doubled (wide_part m.params) m.params m.suppress [] (wide_waiting m.params l) l)) floats (subst (λ s. HasLists w (Pages.fill_double m.params w) (doubled (wide_part m.params) m.params s [] (wide_waiting m.params w.state.floats) w.state.floats)) flags (fill_double-lists m.params w)))
