-- The whole of a firing against its definition.
use Rattle.std.proofs.Common.{◌≡◌, refl, sym, subst, ◌∙◌, ap, ℕ, ◌+◌, ℤ, pos, ◌≤ℤ◌, true, false, ◌++◌, append-nil, Option, Some, None, is_some, arith}
use Rattle.std.specs.Prelude.{◌<◌, ◌<ℤ◌, int_lt, if◌then◌else◌, Bool, IfNone}
use Rattle.std.proofs.lemmas.Int.{ints}
use Rattle.tb_pool.specs.Lists.{Lists}
use Rattle.tb_node.specs.declared.Node.{Node}
use Rattle.tb_builder.specs.declared.Builder.{Builder}
use Rattle.tb_builder.specs.declared.Page.{Page}
use Rattle.tb_builder.specs.Contents.{contents_of}
use Rattle.tb_output.specs.declared.RunFault.{RunFault}
use Rattle.tb_output.specs.declared.RunFault.TheVariants as faults
use Rattle.tb_output.specs.State.{Work, begun}
use Rattle.tb_output.specs.Output.{after_page, waiting_again, out}
use Rattle.tb_output.specs.Machine.{MachineView, state_shown, events_shown, AreOutputParams, IsMachine}
use Rattle.tb_output.specs.FiringWork.{shows_boxes, shows_all, IsCutShort, Does}
use Rattle.tb_output.specs.Firing.{fired_in, state_in, whole_work, IsFired, fault_or_cycles, refusal_of, IsRefusal, KeepsAll}
use Rattle.tb_output.specs.FiringParts.{served}
use Rattle.tb_scaled.specs.Amount.{IsAmount}
use Rattle.tb_output.proofs.FiringWork.BesideLemmas.{machine-beside, machine-shrunk}

-- a firing of a page with this shrink is counted
abbrev pub counted : ℤ → MachineView → MachineView
counted s m = record m { dead_cycles = m.dead_cycles + 1; shrink = s }

-- no page is served any more
abbrev pub rested : MachineView → MachineView
rested m = record m { shrink = pos 0 }

-- a fault ended the run
abbrev pub faulted : RunFault → MachineView → MachineView
faulted e m = record m { fault = Some e }

-- ---- what a fault and a count do not change

pub faulted-machine : (e : RunFault) (m : MachineView) (store : Lists Node) → IsMachine m store → IsMachine (faulted e m) store
faulted-machine e m store is = machine-beside m store is m.goal is.goal m.dead_cycles m.note_bottom (Some e)

pub counted-machine : (m : MachineView) (store : Lists Node) (s : ℤ) → IsMachine m store → IsAmount s → IsMachine (counted s m) store
counted-machine m store s is small = machine-shrunk (record m { dead_cycles = m.dead_cycles + 1 }) store s (machine-beside m store is m.goal is.goal (m.dead_cycles + 1) m.note_bottom m.fault) small

rested-machine : (m : MachineView) (store : Lists Node) → IsMachine m store → IsMachine (rested m) store
rested-machine m store is = machine-shrunk m store (pos 0) is (record { low = omega (arith, ints); high = omega (arith, ints) })

pub keeps-rested : (s : ℤ) (body : ℕ) (m now : MachineView) (b later : Builder) (store new : Lists Node) → KeepsAll body (counted s m) now b later store new → KeepsAll body m (rested now) b later store new
keeps-rested s body m now b later store new h = record { machine = rested-machine now new h.machine; builder = h.builder; frame = h.frame; params = h.params; classes = h.classes }

pub keeps-faulted : (e : RunFault) (s : ℤ) (body : ℕ) (m now : MachineView) (b later : Builder) (store new : Lists Node) → KeepsAll body (counted s m) now b later store new → KeepsAll body m (faulted e now) b later store new
keeps-faulted e s body m now b later store new h = record { machine = faulted-machine e now new h.machine; builder = h.builder; frame = h.frame; params = h.params; classes = h.classes }

-- ---- why no firing begins

refusal-by : (m : MachineView) (o : Option RunFault) (t : Bool) → is_some o ≡ false → int_lt (pos m.dead_cycles) m.params.maxdeadcycles ≡ t → (if t then None else Some (faults.DeadCycles m.dead_cycles)) ≡ fault_or_cycles m o
refusal-by m None t none e = ap (λ x. if x then None else Some (faults.DeadCycles m.dead_cycles)) (sym e)
refusal-by m (Some f) t none e = let both : true ≡ false = none in cc

-- by the two tests
pub refusal-is : (m : MachineView) (t : Bool) (fault : Option RunFault) (n : ℕ) (limit : ℤ) → fault ≡ m.fault → n ≡ m.dead_cycles → limit ≡ m.params.maxdeadcycles → is_some fault ≡ false → int_lt (pos n) limit ≡ t
    → (if t then None else Some (faults.DeadCycles n)) ≡ refusal_of m
refusal-is m t fault n limit same count most none e =
    ap (λ k. if t then None else Some (faults.DeadCycles k)) count
    ∙ refusal-by m m.fault t (ap is_some (sym same) ∙ none) ((λ i. int_lt (pos (sym count i)) (sym most i)) ∙ e)

-- a firing that begins
pub record IsBegun (m : MachineView) : Type 0 where
  pub fault : m.fault ≡ None
  pub alive : pos m.dead_cycles <ℤ m.params.maxdeadcycles

alive-by : (m : MachineView) (t : Bool) → int_lt (pos m.dead_cycles) m.params.maxdeadcycles ≡ t → (if t then None else Some (faults.DeadCycles m.dead_cycles)) ≡ None → pos m.dead_cycles <ℤ m.params.maxdeadcycles
alive-by m true e none = below (pos m.dead_cycles) m.params.maxdeadcycles e
  where
    below : (x y : ℤ) → int_lt x y ≡ true → x <ℤ y
    below x y h = grind (arith, ints, h)
alive-by m false e none = let no : Some (faults.DeadCycles m.dead_cycles) ≡ None = none in cc

begun-by : (m : MachineView) (o : Option RunFault) → m.fault ≡ o → fault_or_cycles m o ≡ None → IsBegun m
begun-by m None e none = record { fault = e; alive = alive-by m (int_lt (pos m.dead_cycles) m.params.maxdeadcycles) refl none }
begun-by m (Some f) e none = let no : Some f ≡ None = none in cc

pub is-begun : (m : MachineView) → refusal_of m ≡ None → IsBegun m
is-begun m none = begun-by m m.fault refl none

-- the count has room for one more
pub count-below : (m : MachineView) (n : ℕ) → n ≡ m.dead_cycles → IsBegun m → AreOutputParams m.params → n + 1 < 4194305
count-below m n same begins params = below m.params.maxdeadcycles (subst (λ k. pos k <ℤ m.params.maxdeadcycles) (sym same) begins.alive) params.maxdeadcycles.high
  where
    below : (z : ℤ) → pos n <ℤ z → z ≤ℤ pos 4194304 → n + 1 < 4194305
    below z a h = omega (arith, ints, a, h)

pub if-none : (o : Option RunFault) (A : Type 0) → A → IfNone o A
if-none None A x = x
if-none (Some e) A x = tt

-- a firing that is refused, and nothing changed
dead-by : (m : MachineView) (b : Builder) (store : Lists Node) (w : Work) (e : RunFault) (t : Bool) → int_lt (pos m.dead_cycles) m.params.maxdeadcycles ≡ t → (if t then None else Some (faults.DeadCycles m.dead_cycles)) ≡ Some e → IsRefusal e m m b b store store w
dead-by m b store w e true at some = let no : None ≡ Some e = some in cc
dead-by m b store w e false at some =
    let is : faults.DeadCycles m.dead_cycles ≡ e = cc in
    subst (λ x. IsRefusal x m m b b store store w) is (record { count = refl; reached = above (pos m.dead_cycles) m.params.maxdeadcycles at; untouched = record { machine = refl; builder = refl; lists = refl } })
  where
    above : (x y : ℤ) → int_lt x y ≡ false → y ≤ℤ x
    above x y h = grind (arith, ints, h)

refused-by : (m : MachineView) (b : Builder) (store : Lists Node) (w : Work) (e : RunFault) (o : Option RunFault) → fault_or_cycles m o ≡ Some e → IfNone o (IsRefusal e m m b b store store w)
refused-by m b store w e None some = dead-by m b store w e (int_lt (pos m.dead_cycles) m.params.maxdeadcycles) refl some
refused-by m b store w e (Some f) some = tt

pub is-refused : (m : MachineView) (b : Builder) (store : Lists Node) (w : Work) (e : RunFault) → refusal_of m ≡ Some e → IfNone m.fault (IsRefusal e m m b b store store w)
is-refused m b store w e some = refused-by m b store w e m.fault some

-- ---- the work of a firing

module _ (m : MachineView) (b : Builder) (store : Lists Node) (page : Page) where
  -- the work when the firing was counted
  abbrev start : Work
  start = begun (after_page (state_in m b store) (fired_in b store page))

  -- and when it was served
  abbrev end : Work
  end = served m.params (fired_in b store page) (begun (after_page (state_in m b store) (fired_in b store page)))

  start-shows : shows_boxes b (counted page.shrink m) store (events_shown store m.events) start
  start-shows = (record { served = refl; sent = sym (append-nil (events_shown store m.events)); state = refl }, refl, refl)

  work-is : waiting_again (fired_in b store page) end ≡ whole_work m b store page
  unfolding out
  work-is = refl

  module _ (begins : IsBegun m) (later : Builder) (now : MachineView) (new : Lists Node) where
    module _ (l : ℕ) (done : Does (shows_boxes b (counted page.shrink m) store) (shows_all l later now new) (served m.params (fired_in b store page))) where
      shown : shows_all l later now new (events_shown store m.events) end
      shown = done (events_shown store m.events) start start-shows

      -- the turn is that of the definition
      pub is-fired : IsFired (record { put_back = l }) m (rested now) later store new (whole_work m b store page)
      is-fired = subst (IsFired (record { put_back = l }) m (rested now) later store new) work-is (record {
        alive = begins.alive;
        served = shown.0.served;
        put_back = shown.1;
        sent = shown.0.sent;
        state =
            ap (λ bs. state_shown new bs ((fired_in b store page).held ++ end.put_back ++ (fired_in b store page).rest) (rested now)) shown.2
            ∙ (λ i. record (shown.0.state i) { waiting = (fired_in b store page).held ++ end.put_back ++ (fired_in b store page).rest; shrink = pos 0 });
      })

      -- and so are the boxes
      pub fired-contents : contents_of later new ≡ record (contents_of b store) { boxes = (contents_of later new).boxes } → contents_of later new ≡ record (contents_of b store) { boxes = (whole_work m b store page).state.boxes }
      fired-contents alone = alone ∙ ap (λ bs. record (contents_of b store) { boxes = bs }) (shown.2 ∙ ap (λ (w : Work). w.state.boxes) work-is)

    -- it was cut short
    pub fired-refused : (e : RunFault) → Does (shows_boxes b (counted page.shrink m) store) (IsCutShort e now new) (served m.params (fired_in b store page)) → IsRefusal e m (faulted e now) b later store new (whole_work m b store page)
    fired-refused (faults.DeadCycles n) cut = absurd (cut (events_shown store m.events) start start-shows)
    fired-refused (faults.PageLimit n) cut =
        let h = cut (events_shown store m.events) start start-shows in
        subst (IsRefusal (faults.PageLimit n) m (faulted (faults.PageLimit n) now) b later store new) work-is (record { alive = begins.alive; refused = h.refused; pages = h.pages; sent = h.sent; kept = refl })
    fired-refused faults.Memory cut =
        let h = cut (events_shown store m.events) start start-shows in
        subst (IsRefusal faults.Memory m (faulted faults.Memory now) b later store new) work-is (record { alive = begins.alive; count = h.count; sent = h.sent; kept = refl })
