-- The routine after the machine served a page.
use Rattle.std.proofs.Common.{◌≡◌, ◌≢◌, refl, sym, subst, ◌∙◌, ap, ℕ, ◌+◌, ◌≤◌, pos, ◌≤ℤ◌, Bool, true, false, List, [], ◌++◌, Option, Some, None, append_assoc, arith}
use Rattle.std.specs.Prelude.{int_lt, IfNone, if◌then◌else◌}
use Rattle.std.specs.List.{AllByRecursion}
use Rattle.tb_pool.specs.Lists.{Lists, list_at}
use Rattle.tb_node.specs.declared.Node.{Node}
use Rattle.tb_node.specs.Fit.{IsSizedPlain}
use Rattle.tb_node.specs.PlainNodes.{PlainNode, plain_list}
use Rattle.tb_param.specs.declared.Params.{Params}
use Rattle.tb_builder.specs.declared.Builder.{Builder}
use Rattle.tb_builder.specs.declared.Page.{Page}
use Rattle.tb_builder.specs.FiredPages.{Boxed, Fired}
use Rattle.tb_builder.specs.Contents.{Contents, contents_of, node_count}
use Rattle.tb_builder.specs.Courses.{IsSound, IsPageSoFar}
use Rattle.tb_builder.specs.declared.Ask.{Ask}
use Rattle.tb_output.specs.declared.Turn.{Turn}
use Rattle.tb_output.specs.declared.RunFault.{RunFault}
use Rattle.tb_output.specs.declared.RunFault.TheVariants as faults
use Rattle.tb_output.specs.State.{State, Work}
use Rattle.tb_output.specs.Output.{out}
use Rattle.tb_output.specs.Machine.{MachineView, state_shown, events_shown, IsMachine}
use Rattle.tb_output.specs.Firing.{fired_in, state_in, whole_work, CanFire, CanGoBack, IsFired, IsRefusal, KeepsAll}
use Rattle.tb_items.specs.ItemsLeft.{nodes_left, AreItemsLeft, with_more, IsOpen}
use Rattle.tb_run.specs.declared.routine.Routine.{Routine}
use Rattle.tb_run.specs.declared.routine.Ending.{Ending}
use Rattle.tb_run.specs.declared.routine.Ending.TheVariants as endings
use Rattle.tb_steps.specs.Run.{held_count}
use Rattle.tb_steps.specs.Runnable.{AreRunnable, AreRunClasses}
use Rattle.tb_run.specs.ServedStates.{IsServed, IsServedPage}
use Rattle.tb_run.specs.Routine.{built_in, held_in, state_of, IsConsistent, IsBounded, between_pages, IsEnded, over_limit}
use Rattle.tb_run.specs.FilledPages.{fired_whole, IsBoundedPage}
use Rattle.tb_run.specs.RoutinePages.{work_of, IsServedOn, IsFaultOf, ServesTo, Serves, ServesAll}
use Rattle.tb_run.proofs.Turns.CountedLemmas.{shown-sized}
use Rattle.tb_run.proofs.ServedAgain.ServedOut.{out-count, out-served}

-- a builder without a page has no stop behind it
pub no-stop : (b : Builder) (s : Lists Node) → IsSound b s → (contents_of b s).frozen ≡ None → b.stopped ≡ false
no-stop b s h e = by_frozen b.frozen b.stopped e h.page
  where
    by_frozen : (o : Option Ask) (t : Bool) → o ≡ None → IsPageSoFar o t b.course (contents_of b s) → t ≡ false
    by_frozen None true n p = absurd p
    by_frozen None false n p = refl
    by_frozen (Some f) t n p = cc

pub sound-ended : (r : Routine) → IsSound r.builder r.store → IsMachine r.machine r.store → IsEnded r
sound-ended r b m = record { machine = m; page = b.own.live.0 }

-- ---- the items that are left come behind what waits

-- the work of a firing, if more nodes wait behind
abbrev pub work_with : List PlainNode → Work → Work
work_with more w = record w { state = record w.state { waiting = w.state.waiting ++ more } }

-- the output routine does not look at what waits
pub work-more : (p : Params) (s : State) (f : Fired) (more : List PlainNode) → out p (record s { waiting = s.waiting ++ more }) (record f { rest = f.rest ++ more }) ≡ work_with more (out p s f)
unfolding out
work-more p s f more = ap (λ ns. record (out p s f) { state = record (out p s f).state { waiting = ns } }) (sym (append_assoc (f.held ++ (out p s f).put_back) f.rest more))

-- what waits after a firing
work-waits : (p : Params) (s : State) (f : Fired) → (out p s f).state.waiting ≡ f.held ++ ((out p s f).put_back ++ f.rest)
unfolding out
work-waits p s f = append_assoc f.held (out p s f).put_back f.rest

module _ (r : Routine) (page : Page) (whole : IsConsistent r) (can : CanFire r.machine r.builder r.store page) (bounded : IsBoundedPage page r) (runs : AreRunnable r.machine.params) (known : AreRunClasses r.machine.classes) (served : IsServedPage (state_of r) (fired_whole r page))
    (ends : (before : List PlainNode) → IsOpen r.left (before ++ (built_in r).waiting)) where
  abbrev f : Fired
  f = fired_whole r page

  abbrev w : Work
  w = work_of r page

  -- without the items that are left
  abbrev short : Work
  short = whole_work r.machine r.builder r.store page

  abbrev more : List PlainNode
  more = nodes_left r.left

  of-short : w ≡ work_with more short
  of-short = work-more r.machine.params (state_in r.machine r.builder r.store) (fired_in r.builder r.store page) more

  -- the firing was refused, and not for lack of memory
  module _ (now : MachineView) (d : Builder) (new : Lists Node) (keeps : KeepsAll page.body r.machine now r.builder d r.store new) where
    abbrev at_fault : Routine
    at_fault = record { store = new; builder = d; machine = now; most = r.most; left = r.left }

    fault-of : (e : RunFault) → e ≢ faults.Memory → IsRefusal e r.machine now r.builder d r.store new short → IsFaultOf e page r at_fault
    fault-of (faults.DeadCycles n) other h =
        record { count = h.count; reached = h.reached; same = λ i. record { store = h.untouched.lists i; builder = h.untouched.builder i; machine = h.untouched.machine i; most = r.most; left = r.left } }
    fault-of (faults.PageLimit n) other h = record {
      alive = h.alive;
      refused = ap (λ (x : Work). x.refused) of-short ∙ h.refused;
      pages = h.pages ∙ ap (λ (x : Work). x.state.page) (sym of-short);
      sent = h.sent ∙ ap (λ (x : Work). events_shown r.store r.machine.events ++ x.sent) (sym of-short);
    }
    fault-of faults.Memory other h = absurd (other refl)

    pub refused-serves_all : (e : RunFault) → e ≢ faults.Memory → IfNone r.machine.fault (IsRefusal e r.machine now r.builder d r.store new short) → ServesAll page r (Some (endings.Fault e)) at_fault
    refused-serves_all e other h = record {
      served = fault-of e other (subst (λ o. IfNone o (IsRefusal e r.machine now r.builder d r.store new short)) whole.fault h);
      ended = sound-ended at_fault keeps.builder keeps.machine;
      params = keeps.params;
      classes = keeps.classes;
    }

  fits : node_count f.body + node_count (state_of r).held_page ≤ 4194305
  fits = let a = bounded.held in let b = bounded.few in omega (arith, a, b)

  held-sized : AllByRecursion IsSizedPlain (state_of r).held_page
  held-sized = shown-sized (list_at r.store) (list_at r.store r.machine.held_page) whole.machine.held_page.sized

  module _ (m : MachineView) (b : Builder) (store : Lists Node) (turn : Turn) (fired_so : IsFired turn r.machine m b r.store store short) (contents_so : contents_of b store ≡ record (contents_of r.builder r.store) { boxes = short.state.boxes }) (back : CanGoBack turn.put_back m b store) (goes_on : m.fault ≡ None)
      (keeps : KeepsAll page.body r.machine m r.builder b r.store store) where
    abbrev between_both : Routine
    between_both = record { store = store; builder = b; machine = m; most = r.most; left = r.left }

    fired : IsFired turn r.machine m b r.store store w
    fired = subst (IsFired turn r.machine m b r.store store) (sym of-short) (record {
      alive = fired_so.alive;
      served = fired_so.served;
      put_back = fired_so.put_back;
      sent = fired_so.sent;
      state = ap (λ (s : State). record s { waiting = short.state.waiting ++ more }) fired_so.state;
    })

    contents : contents_of b store ≡ record (contents_of r.builder r.store) { boxes = w.state.boxes }
    contents = contents_so ∙ ap (λ (x : Work). record (contents_of r.builder r.store) { boxes = x.state.boxes }) (sym of-short)

    pub fired-whole : IsConsistent between_both
    fired-whole = record { builder = keeps.builder; machine = keeps.machine; fault = goes_on; apart = back.machine_free; items = subst (λ (c : Contents). AreItemsLeft c.classes r.left) (sym contents) whole.items }

    module _ (q : Routine) (q_whole : IsConsistent q)
        (q_contents : built_in q ≡ record (built_in between_both) { waiting = (built_in between_both).held ++ (plain_list store turn.put_back ++ (built_in between_both).waiting); held = [] })
        (machine : q.machine ≡ m) (most : q.most ≡ r.most) (q_left : q.left ≡ r.left) (state : (boxes : List Boxed) (waiting : List PlainNode) → state_shown q.store boxes waiting q.machine ≡ state_shown store boxes waiting m) (events : events_shown q.store q.machine.events ≡ events_shown store m.events) where
      abbrev as_left : Contents
      as_left = record (contents_of r.builder r.store) { boxes = w.state.boxes; waiting = f.held ++ (plain_list store turn.put_back ++ f.rest); held = [] }

      left : held_in q ≡ as_left
      left =
          (λ i. with_more (nodes_left (q_left i)) (q_contents i))
          ∙ ap (λ (c : Contents). with_more more (record c { waiting = c.held ++ (plain_list store turn.put_back ++ c.waiting); held = [] })) contents
          ∙ ap (λ ns. record as_left { waiting = ns }) (append_assoc f.held (plain_list store turn.put_back ++ (built_in r).waiting) more ∙ ap (λ ns. f.held ++ ns) (append_assoc (plain_list store turn.put_back) (built_in r).waiting more))

      waits : (held_in q).waiting ≡ w.state.waiting
      waits =
          ap (λ (c : Contents). c.waiting) left
          ∙ ap (λ ns. f.held ++ (ns ++ f.rest)) fired.put_back
          ∙ sym (work-waits r.machine.params (state_of r) f)

      -- the state after the firing
      pub after-state : state_of q ≡ w.state
      after-state =
          state (held_in q).boxes (held_in q).waiting
          ∙ (λ i. state_shown store ((ap (λ (c : Contents). c.boxes) left ∙ sym (ap (λ (c : Contents). c.boxes) contents)) i) (waits i) m)
          ∙ fired.state

      after-classes : (held_in q).classes ≡ (state_of q).classes
      after-classes = ap (λ (c : Contents). c.classes) left ∙ can.classes ∙ sym keeps.classes ∙ sym (ap (λ (v : MachineView). v.classes) machine)

      after-stopped : (held_in q).stopped ≡ false
      after-stopped = no-stop q.builder q.store q_whole.builder (ap (λ (c : Contents). c.frozen) left ∙ can.awaits.frozen)

      after-between : held_in q ≡ between_pages (state_of q)
      after-between = λ i. record {
        classes = after-classes i;
        boxes = (held_in q).boxes;
        page = (ap (λ (c : Contents). c.page) left ∙ can.awaits.page) i;
        waiting = (held_in q).waiting;
        held = ap (λ (c : Contents). c.held) left i;
        frozen = (ap (λ (c : Contents). c.frozen) left ∙ can.awaits.frozen) i;
        stopped = after-stopped i;
      }

      back-sized : AllByRecursion IsSizedPlain w.put_back
      back-sized = subst (AllByRecursion IsSizedPlain) fired.put_back (shown-sized (list_at store) (list_at store turn.put_back) back.back.sized)

      after-served : IsServed (held_in q).waiting (state_of q)
      after-served =
          subst (λ (t : State). IsServed t.waiting t) (sym after-state) (out-served r.machine.params (state_of r) f runs known served held-sized fits back-sized)

      after-held : held_count (state_of q) ≤ r.most + 300
      after-held =
          let a = out-count r.machine.params (state_of r) f runs known served held-sized fits in
          let b = bounded.held in
          let e = ap held_count after-state in
          omega (arith, a, b, e)

      after-bounded : IsBounded 8388608 (record q { most = q.most + 300 })
      after-bounded = record { held = let a = after-held in omega (arith, a, most); few = let a = bounded.few in omega (arith, a, most) }

      after-ends : IsOpen q.left (built_in q).waiting
      after-ends =
          subst (λ ns. IsOpen q.left ns)
          (append_assoc f.held (plain_list store turn.put_back) (built_in r).waiting
          ∙ sym (ap (λ (c : Contents). c.waiting) q_contents ∙ ap (λ (c : Contents). c.held ++ (plain_list store turn.put_back ++ c.waiting)) contents))
          (subst (λ o. IsOpen o ((f.held ++ plain_list store turn.put_back) ++ (built_in r).waiting)) (sym q_left) (ends (f.held ++ plain_list store turn.put_back)))

      abbrev of_most : ℕ → Routine
      of_most k = record q { most = k }

      served-on : (k : ℕ) → IsBounded 8388608 (of_most k) → IsServedOn page r (of_most k)
      served-on k few = record {
        alive = fired.alive;
        done = fired.served;
        state = after-state;
        sent = events ∙ fired.sent;
        whole = record { builder = q_whole.builder; machine = q_whole.machine; fault = q_whole.fault; apart = q_whole.apart; items = q_whole.items };
        between = after-between;
        served = after-served;
        bounded = few;
        ends = after-ends;
      }

      -- the nodes need not be counted
      pub serves-all : ServesAll page r None (of_most (q.most + 300))
      serves-all = record {
        served = (served-on (q.most + 300) after-bounded, q_left);
        ended = sound-ended (of_most (q.most + 300)) q_whole.builder q_whole.machine;
        params = ap (λ (v : MachineView). v.params) machine ∙ keeps.params;
        classes = ap (λ (v : MachineView). v.classes) machine ∙ keeps.classes;
      }

-- ---- the nodes are counted, if that is to be done

module _ (page : Page) (r d : Routine) where
  counted-on : (m : Routine) → m ≡ record d { most = m.most } → IsServedOn page r d → IsBounded 8388608 m → IsServedOn page r m
  counted-on m same h few = subst (IsServedOn page r) (sym same) (record {
    alive = h.alive;
    done = h.done;
    state = h.state;
    sent = h.sent;
    whole = record { builder = h.whole.builder; machine = h.whole.machine; fault = h.whole.fault; apart = h.whole.apart; items = h.whole.items };
    between = h.between;
    served = h.served;
    bounded = subst (IsBounded 8388608) same few;
    ends = h.ends;
  })

  -- it goes on, or ends at the limit
  module _ (h : ServesAll page r None d) (o : Option Ending) (m : Routine) (over : o ≡ over_limit d.machine.params (held_count (state_of d))) (same : m ≡ record d { most = m.most }) (few : IsBounded 8388608 m) (within : IfNone o (pos m.most ≤ℤ d.machine.params.maxnodes)) where
    on : IsServedOn page r m
    on = counted-on m same h.served.0 few

    test-is : int_lt m.machine.params.maxnodes (pos (held_count (state_of m))) ≡ int_lt d.machine.params.maxnodes (pos (held_count (state_of d)))
    test-is = ap (λ (x : Routine). int_lt x.machine.params.maxnodes (pos (held_count (state_of x)))) same

    serves-by : (t : Bool) → int_lt d.machine.params.maxnodes (pos (held_count (state_of d))) ≡ t → (x : Option Ending) → x ≡ (if t then Some (endings.NodeLimit (held_count (state_of d))) else None) → IfNone x (pos m.most ≤ℤ d.machine.params.maxnodes) → ServesTo page r x m
    serves-by true e None is n = cc
    serves-by true e (Some x) is n = subst (λ (z : Option Ending). ServesTo page r z m) (sym is) (on, record { test = test-is ∙ e; count = sym (ap (λ (x : Routine). held_count (state_of x)) same) })
    serves-by false e None is n = (on, record { test = test-is ∙ e; within = subst (λ (x : Routine). pos m.most ≤ℤ x.machine.params.maxnodes) (sym same) n })
    serves-by false e (Some x) is n = cc

    pub counted-serves : Serves page r o m
    counted-serves = record {
      served = serves-by (int_lt d.machine.params.maxnodes (pos (held_count (state_of d)))) refl o over within;
      ended = subst IsEnded (sym same) (record { machine = h.ended.machine; page = h.ended.page });
      params = ap (λ (x : Routine). x.machine.params) same ∙ h.params;
      classes = ap (λ (x : Routine). x.machine.classes) same ∙ h.classes;
    }
