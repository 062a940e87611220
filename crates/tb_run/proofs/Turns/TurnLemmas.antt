-- A turn of the routine is a step of the run.
use Rattle.std.proofs.Common.{◌≡◌, refl, sym, subst, ◌∙◌, ap, ℕ, ◌≤◌, ℤ, pos, ◌≤ℤ◌, Bool, true, false, List, [], ◌∷◌, ◌++◌, map, Option, Some, None, append-nil, arith}
use Rattle.std.specs.Prelude.{int_lt, not, pred, Result, Ok, Err, IfOk, IfNone, ◌<ℤ◌, if◌then◌else◌}
use Rattle.std.proofs.lemmas.Int.{ints}
use Rattle.std.proofs.lemmas.Bool.{true≢false}
use Rattle.tb_break.proofs.EachLemmas.{all-back, all-join}
use Rattle.tb_pool.specs.Lists.{Lists}
use Rattle.tb_pool.specs.Frame.{IsNoneOf}
use Rattle.tb_node.specs.declared.Node.{Node}
use Rattle.tb_param.specs.declared.Params.{Params}
use Rattle.tb_builder.specs.declared.Page.{Page}
use Rattle.tb_sheet.specs.declared.Sent.TheVariants as sents
use Rattle.tb_sheet.specs.declared.Sheet.{Sheet}
use Rattle.tb_sheet.specs.declared.Sheet.TheVariants as sheets
use Rattle.tb_column.specs.Notes.{AreDistinct}
use Rattle.tb_output.specs.declared.RunFault.{RunFault}
use Rattle.tb_output.specs.declared.RunFault.TheVariants as faults
use Rattle.tb_builder.specs.FiredPages.{Fired}
use Rattle.tb_sheet.specs.Sheet.{PlainSent}
use Rattle.tb_output.specs.State.{State, Work, Recorded, emptied}
use Rattle.tb_output.specs.Output.{out}
use Rattle.tb_output.specs.Machine.{events_shown, left_lists, event_lists, machine_lists}
use Rattle.tb_sheet.specs.StoredSheets.{sheet_lists}
use Rattle.tb_builder.specs.BuilderLists.{builder_lists}
use Rattle.tb_sheet.specs.ApartLists.{AreNoneOf}
use Rattle.tb_sheet.proofs.ListsApart.{apart-swap, distinct-back, distinct-apart}
use Rattle.tb_items.specs.declared.happenings.Happening.{Happening}
use Rattle.tb_items.specs.declared.happenings.Happening.TheVariants as happenings
use Rattle.tb_run.specs.declared.routine.Routine.{Routine}
use Rattle.tb_run.specs.declared.routine.Ending.{Ending}
use Rattle.tb_run.specs.declared.routine.Ending.TheVariants as endings
use Rattle.tb_items.specs.RunEvents.{RunEvent, sent}
use Rattle.tb_steps.specs.Run.{done, dead_cycles, page_limit, node_limit, Progress, Step, ends, goes_on, after_firing, fire, after_progress, ask_for, step, held_count, firing_step, step_events}
use Rattle.tb_steps.specs.Runnable.{AreRunnable, AreRunClasses}
use Rattle.tb_items.specs.Happenings.{events_of, noted, happened_lists, IsPage, ArePages}
use Rattle.tb_run.specs.Routine.{held_in, state_of, with_events, IsConsistent, IsReady, EndsAs, IsTurned, AreHappened, IsEnded}
use Rattle.tb_run.specs.FilledPages.{sent_happenings, reach_in, progress_in, sent_by, fired_whole, CanServe, IsFiring, IsFilledLast, is_dead, HasServed}
use Rattle.tb_run.specs.RoutinePages.{work_of, IsServedOn, IsOverLimit, IsFaultOf, ServesTo, Serves}
use Rattle.tb_items.proofs.HappenedLemmas.{lists-append, events-append, noted-append, noted-sent}
use Rattle.tb_run.proofs.Turns.HappenedLemmas.{sent-events, sent-lists, sent-pages}
use Rattle.tb_items.proofs.PageNumbers.{pred-is}
use Rattle.tb_run.proofs.Filling.FillingLemmas.{taken-machine, taken-whole}
use Rattle.tb_run.proofs.Filling.FiringLemmas.{firing-same}
use Rattle.tb_run.proofs.Turns.ServingLemmas.{sound-ended}

-- what follows from what holds of the value of a result
pub ok-with : {T E : Type 0} (r : Result T E) (P Q : T → Type 0) → ((x : T) → P x → Q x) → IfOk r P → IfOk r Q
ok-with (Ok x) P Q f h = f x h
ok-with (Err e) P Q f h = tt

-- ---- happenings without lists

sheet-some : (s : Sheet) (xs : List ℕ) → sheet_lists s ++ xs ≡ [] → ⊥
sheet-some (sheets.One c) xs e = cc
sheet-some s xs e = cc

pub quiet-pages : (store : Lists Node) (hs : List Happening) → happened_lists hs ≡ [] → ArePages store hs
quiet-pages store [] e = tt
quiet-pages store (happenings.Tried t ∷ hs) e = (tt, quiet-pages store hs e)
quiet-pages store (happenings.Sent (sents.Warn w) ∷ hs) e = (tt, quiet-pages store hs e)
quiet-pages store (happenings.Sent (sents.Ship page sheet) ∷ hs) e = absurd (sheet-some sheet (happened_lists hs) e)

-- ---- the run ends before a page fires

module _ (s : State) where
  abbrev whole-page : Progress
  whole-page = progress_in s

  events-unfired : (t : Bool) (x : Step) → t ≡ false → step_events (if t then x else ends whole-page.events (whole-page.records ++ emptied whole-page.state.floats ∷ []) (done (reach_in s).passed)) ≡ whole-page.events
  events-unfired true x e = absurd (true≢false e)
  events-unfired false x e = refl

  events-by-fault : (o : Option (ℕ × ℕ)) → (o ≡ None → (reach_in s).fires ≡ false) → step_events (after_progress (ask_for s) (reach_in s) whole-page o) ≡ whole-page.events
  events-by-fault None f = events-unfired (reach_in s).fires (fire (ask_for s) (reach_in s) whole-page) (f refl)
  events-by-fault (Some x) f = refl

  -- the events of the step are those of its page
  last-events : (whole-page.fault ≡ None → (reach_in s).fires ≡ false) → step_events (step s) ≡ whole-page.events
  unfolding step
  last-events none = events-by-fault whole-page.fault none

module _ (wanted : Bool) (r q : Routine) (e : Ending) (hs : List Happening) (h : IsFilledLast wanted r e q hs) where
  pub last-turned : IsTurned wanted r hs (Some e) q
  last-turned = record {
    events = h.filled.events q.store ∙ ap (noted wanted) (sym (last-events (state_of r) h.none));
    ended = h.ended;
  }

  pub last-pages : ArePages q.store hs
  last-pages = quiet-pages q.store hs h.filled.lists

  pub last-ended : IsEnded q
  last-ended = sound-ended q h.whole.builder h.whole.machine

-- ---- the page fires

then-step : (t : Bool) (x y : Step) → t ≡ true → (if t then x else y) ≡ x
then-step true x y e = refl
then-step false x y e = absurd (true≢false (sym e))

else-step : (t : Bool) (x y : Step) → t ≡ false → (if t then x else y) ≡ y
else-step true x y e = absurd (true≢false e)
else-step false x y e = refl

below-test : (n : ℕ) (z : ℤ) → pos n <ℤ z → int_lt (pos n) z ≡ true
below-test n z h = grind (arith, ints, h)

not-below : (n : ℕ) (z : ℤ) → z ≤ℤ pos n → int_lt (pos n) z ≡ false
not-below n z h = grind (arith, ints, h)

-- a number within a limit is at most the greatest one
pub within-limit : (k : ℕ) (m : ℤ) → pos k ≤ℤ m → m ≤ℤ pos 4194304 → k ≤ 4194304
within-limit k m a b = omega (arith, ints, a, b)

module _ (es : List RunEvent) (rs : List Recorded) (q d : Routine) (page : Page) (params : d.machine.params ≡ q.machine.params) where
  abbrev p : Params
  p = q.machine.params

  abbrev w : Work
  w = work_of q page

  abbrev st : Step
  st = firing_step es rs (state_of q) (fired_whole q page)

  -- if the firing was allowed
  alive-is : pos q.machine.dead_cycles <ℤ p.maxdeadcycles → st ≡ after_firing p es rs w
  alive-is a = then-step (int_lt (pos q.machine.dead_cycles) p.maxdeadcycles) (after_firing p es rs w) _ (below-test q.machine.dead_cycles p.maxdeadcycles a)

  after-done : w.refused ≡ false → after_firing p es rs w ≡ (if int_lt p.maxnodes (pos (held_count w.state)) then ends (es ++ map sent w.sent) (rs ++ w.records) (node_limit (held_count w.state)) else goes_on (es ++ map sent w.sent) (rs ++ w.records) w.state)
  after-done e = else-step w.refused (ends (es ++ map sent w.sent) (rs ++ w.records) (page_limit (pred w.state.page))) _ e

  by-step : (o : Option Ending) (x : Step) → st ≡ x → EndsAs (with_events [] d) o x → EndsAs (with_events [] d) o st
  by-step o x e h = subst (EndsAs (with_events [] d) o) (sym e) h

  module _ (h : IsServedOn page q d) where
    test-is : int_lt d.machine.params.maxnodes (pos (held_count (state_of d))) ≡ int_lt p.maxnodes (pos (held_count w.state))
    test-is = λ i. int_lt ((params i).maxnodes) (pos (held_count (h.state i)))

    goes-is : int_lt d.machine.params.maxnodes (pos (held_count (state_of d))) ≡ false → EndsAs (with_events [] d) None st
    goes-is e =
        by-step None (goes_on (es ++ map sent w.sent) (rs ++ w.records) w.state)
        (alive-is h.alive ∙ after-done h.done ∙ else-step (int_lt p.maxnodes (pos (held_count w.state))) (ends (es ++ map sent w.sent) (rs ++ w.records) (node_limit (held_count w.state))) (goes_on (es ++ map sent w.sent) (rs ++ w.records) w.state) (sym test-is ∙ e))
        h.state

    over-is : (n : ℕ) → IsOverLimit n d → EndsAs (with_events [] d) (Some (endings.NodeLimit n)) st
    over-is n o =
        by-step (Some (endings.NodeLimit n)) (ends (es ++ map sent w.sent) (rs ++ w.records) (node_limit (held_count w.state)))
        (alive-is h.alive ∙ after-done h.done ∙ then-step (int_lt p.maxnodes (pos (held_count w.state))) (ends (es ++ map sent w.sent) (rs ++ w.records) (node_limit (held_count w.state))) (goes_on (es ++ map sent w.sent) (rs ++ w.records) w.state) (sym test-is ∙ o.test))
        (ap node_limit (ap held_count (sym h.state) ∙ sym o.count))

  fault-is : (f : RunFault) → IsFaultOf f page q d → EndsAs (with_events [] d) (Some (endings.Fault f)) st
  fault-is (faults.DeadCycles n) h =
      by-step (Some (endings.Fault (faults.DeadCycles n))) (ends es rs (dead_cycles q.machine.dead_cycles))
      (else-step (int_lt (pos q.machine.dead_cycles) p.maxdeadcycles) (after_firing p es rs w) _ (not-below q.machine.dead_cycles p.maxdeadcycles h.reached))
      (ap dead_cycles (sym h.count))
  fault-is (faults.PageLimit n) h =
      by-step (Some (endings.Fault (faults.PageLimit n))) (ends (es ++ map sent w.sent) (rs ++ w.records) (page_limit (pred w.state.page)))
      (alive-is h.alive ∙ then-step w.refused (ends (es ++ map sent w.sent) (rs ++ w.records) (page_limit (pred w.state.page))) _ h.refused)
      (ap page_limit (pred-is n w.state.page h.pages))
  fault-is faults.Memory h = absurd h

  served-step : (o : Option Ending) → ServesTo page q o d → EndsAs (with_events [] d) o st
  served-step None h = goes-is h.0 h.1.test
  served-step (Some endings.Done) h = absurd h
  served-step (Some (endings.PoolFull line live)) h = absurd h
  served-step (Some (endings.Fault f)) h = fault-is f h
  served-step (Some (endings.NodeLimit n)) h = over-is h.0 n h.1

-- ---- what the firing sent, if it was allowed

module _ (q d : Routine) (page : Page) (taken : q.machine.events ≡ []) where
  abbrev most : ℤ
  most = q.machine.params.maxdeadcycles

  abbrev own : List PlainSent
  own = (work_of q page).sent

  -- whether it was allowed, and what was sent
  record IsAllowed (o : Option Ending) : Type 0 where
    pub sent : events_shown d.store d.machine.events ≡ sent_by (state_of q) (fired_whole q page)
    pub dead : is_dead o ≡ not (int_lt (pos q.machine.dead_cycles) most)

  allowed : (o : Option Ending) → is_dead o ≡ false → pos q.machine.dead_cycles <ℤ most → events_shown d.store d.machine.events ≡ events_shown q.store q.machine.events ++ own → IsAllowed o
  allowed o not_dead alive e =
      let test = below-test q.machine.dead_cycles most alive in
      record {
        sent = e ∙ ap (λ xs. events_shown q.store xs ++ own) taken ∙ sym (ap (λ t. if t then own else []) test);
        dead = not_dead ∙ sym (ap not test);
      }

  fault-allowed : (f : RunFault) → IsFaultOf f page q d → IsAllowed (Some (endings.Fault f))
  fault-allowed (faults.DeadCycles n) h =
      let test = not-below q.machine.dead_cycles most h.reached in
      record {
        sent = ap (λ (x : Routine). events_shown x.store x.machine.events) h.same ∙ ap (events_shown q.store) taken ∙ sym (ap (λ t. if t then own else []) test);
        dead = sym (ap not test);
      }
  fault-allowed (faults.PageLimit n) h = allowed (Some (endings.Fault (faults.PageLimit n))) refl h.alive h.sent
  fault-allowed faults.Memory h = absurd h

  served-allowed : (o : Option Ending) → ServesTo page q o d → IsAllowed o
  served-allowed None h = allowed None refl h.0.alive h.0.sent
  served-allowed (Some endings.Done) h = absurd h
  served-allowed (Some (endings.PoolFull line live)) h = absurd h
  served-allowed (Some (endings.Fault f)) h = fault-allowed f h
  served-allowed (Some (endings.NodeLimit n)) h = allowed (Some (endings.NodeLimit n)) refl h.0.alive h.0.sent

-- ---- what was sent is handed over

module _ (d : Routine) (hs new : List Happening) (quiet : happened_lists hs ≡ []) (handed : new ≡ hs ++ sent_happenings d.machine.events) (ended : IsEnded d) where
  pub pages-on : ArePages d.store new
  pages-on = subst (ArePages d.store) (sym handed) (all-join (IsPage d.store) hs (sent_happenings d.machine.events) (quiet-pages d.store hs quiet) (sent-pages d.store d.machine.events ended.machine.events))

  lists-are : happened_lists new ≡ event_lists d.machine.events
  lists-are = ap happened_lists handed ∙ lists-append hs (sent_happenings d.machine.events) ∙ (λ i. quiet i ++ sent-lists d.machine.events i)

  pub happened-on : IsConsistent d → AreHappened (with_events [] d) new
  happened-on whole =
      let m = d.machine in
      record {
        pages = pages-on;
        distinct = subst AreDistinct (sym lists-are) (distinct-back (m.held_page ∷ left_lists m.left_column) (event_lists m.events) whole.machine.apart);
        machine =
            subst (λ ls. AreNoneOf ls (machine_lists (record m { events = [] }))) (sym lists-are)
            (subst (λ ls. AreNoneOf (event_lists m.events) (m.held_page ∷ ls)) (sym (append-nil (left_lists m.left_column))) (apart-swap (m.held_page ∷ left_lists m.left_column) (event_lists m.events) (distinct-apart (m.held_page ∷ left_lists m.left_column) (event_lists m.events) whole.machine.apart)));
        builder = subst (λ ls. AreNoneOf ls (builder_lists d.builder d.store)) (sym lists-are) (all-back (λ l. IsNoneOf l (builder_lists d.builder d.store)) (m.held_page ∷ left_lists m.left_column) (event_lists m.events) whole.apart);
      }

-- ---- the page is served, and what was sent is handed over

module _ (q d : Routine) (page : Page) (o : Option Ending) (hs new : List Happening) (can : CanServe page q) (k : Serves page q o d) (quiet : happened_lists hs ≡ []) (handed : new ≡ hs ++ sent_happenings d.machine.events) where
  abbrev end : Routine
  end = with_events [] d

  pub has-served : HasServed page q o end hs new
  has-served =
      let allowed = served-allowed q d page can.taken o k.served in
      record {
        sent = d.machine.events;
        grown = handed;
        shown = allowed.sent;
        dead = allowed.dead;
        ended = λ es rs. served-step es rs q d page k.params o k.served;
      }

  -- the next page can be made
  settled-by : (x : Option Ending) → ServesTo page q x d → IfNone x (IsReady end)
  settled-by None s = record {
    settled = record {
      whole = taken-whole d s.0.whole;
      params = subst AreRunnable (sym k.params) can.params;
      classes = subst AreRunClasses (sym k.classes) can.classes;
      between = s.0.between;
      served = s.0.served;
      ends = s.0.ends;
      bounded = record { held = s.0.bounded.held; few = within-limit d.most d.machine.params.maxnodes s.1.within (subst (λ (x : Params). x.maxnodes ≤ℤ pos 4194304) (sym k.params) can.params.maxnodes.high) };
    };
    events = refl;
  }
  settled-by (Some x) s = tt

  pub served-ready : IfNone o (IsReady end)
  served-ready = settled-by o k.served

  pub served-pages : ArePages d.store new
  served-pages = pages-on d hs new quiet handed k.ended

  pub served-ended : IsEnded end
  served-ended = record { machine = taken-machine d.machine d.store k.ended.machine; page = k.ended.page }

  happened-by : (x : Option Ending) → ServesTo page q x d → IfNone x (AreHappened end new)
  happened-by None s = happened-on d hs new quiet handed k.ended s.0.whole
  happened-by (Some x) s = tt

  pub served-lists : IfNone o (AreHappened end new)
  served-lists = happened-by o k.served

-- ---- both are the step of the run

module _ (es : List RunEvent) (rs : List Recorded) (s : State) (f : Fired) where
  abbrev fired-work : Work
  fired-work = out s.params s f

  abbrev all-events : List RunEvent
  all-events = es ++ map sent fired-work.sent

  abbrev all-records : List Recorded
  all-records = rs ++ fired-work.records

  events-by-held : (t : Bool) → step_events (if t then ends all-events all-records (node_limit (held_count fired-work.state)) else goes_on all-events all-records fired-work.state) ≡ all-events
  events-by-held true = refl
  events-by-held false = refl

  events-by-refused : (t : Bool) → step_events (if t then ends all-events all-records (page_limit (pred fired-work.state.page)) else (if int_lt s.params.maxnodes (pos (held_count fired-work.state)) then ends all-events all-records (node_limit (held_count fired-work.state)) else goes_on all-events all-records fired-work.state)) ≡ all-events
  events-by-refused true = refl
  events-by-refused false = events-by-held (int_lt s.params.maxnodes (pos (held_count fired-work.state)))

  events-by-alive : (t : Bool) → step_events (if t then after_firing s.params es rs fired-work else ends es rs (dead_cycles s.dead_cycles)) ≡ es ++ map sent (if t then fired-work.sent else [])
  events-by-alive true = events-by-refused fired-work.refused
  events-by-alive false = sym (append-nil es)

  -- the events of a firing after others
  pub firing-events : step_events (firing_step es rs s f) ≡ es ++ map sent (sent_by s f)
  firing-events = events-by-alive (int_lt (pos s.dead_cycles) s.params.maxdeadcycles)

module _ (wanted : Bool) (r q : Routine) (page : Page) (hs : List Happening) (h : IsFiring wanted r page q hs) where
  abbrev start-state : State
  start-state = state_of r

  abbrev done-so-far : Progress
  done-so-far = progress_in start-state

  -- the step is the firing of the page
  pub step-is : step start-state ≡ firing_step done-so-far.events done-so-far.records (state_of q) (fired_whole q page)
  unfolding step
  step-is =
      ap (after_progress (ask_for start-state) (reach_in start-state) done-so-far) h.fires.none
      ∙ then-step (reach_in start-state).fires (fire (ask_for start-state) (reach_in start-state) done-so-far) _ h.fires.fires
      ∙ (λ i. firing_step done-so-far.events done-so-far.records (sym h.filled.state i) (sym h.fires.fired i))
      ∙ firing-same done-so-far.events done-so-far.records q.store start-state.boxes (held_in q).boxes start-state.waiting (held_in q).waiting q.machine (fired_whole q page)

  pub served-turned : (o : Option Ending) (now : Routine) (new : List Happening) → HasServed page q o now hs new → IsTurned wanted r new o now
  served-turned o now new k =
      let own = sent_by (state_of q) (fired_whole q page) in
      record {
        events =
            ap (events_of now.store) k.grown
            ∙ events-append now.store hs (sent_happenings k.sent)
            ∙ (λ i. h.filled.events now.store i ++ (sent-events now.store k.sent ∙ ap (map sent) k.shown) i)
            ∙ ap (λ xs. noted wanted done-so-far.events ++ xs) (sym (noted-sent wanted own))
            ∙ sym (noted-append wanted done-so-far.events (map sent own))
            ∙ ap (noted wanted) (sym (firing-events done-so-far.events done-so-far.records (state_of q) (fired_whole q page)) ∙ ap step_events (sym step-is));
        ended = subst (EndsAs now o) (sym step-is) (k.ended done-so-far.events done-so-far.records);
      }
