-- The page that fires, as the machine serves it.
use Rattle.std.proofs.Common.{◌≡◌, refl, sym, subst, ◌∙◌, ap, ℕ, ◌+◌, ◌≤◌, ℤ, ◌≤ℤ◌, Bool, true, false, List, [], ◌∷◌, ◌++◌, length, map, Some, None, arith}
use Rattle.std.specs.Prelude.{Option}
use Rattle.std.specs.List.{AllByRecursion}
use Rattle.std.proofs.lemmas.Int.{ints}
use Rattle.std.proofs.lemmas.Bool.{true≢false}
use Rattle.std.proofs.lemmas.List.Elements.{recursion_from_All}
use Rattle.tb_pool.specs.Lists.{Lists, list_at}
use Rattle.tb_node.specs.declared.Kind.{Kind}
use Rattle.tb_node.specs.declared.Kind.TheVariants as kinds
use Rattle.tb_node.specs.declared.Node.{Node}
use Rattle.tb_node.specs.PlainNodes.{plain_of, plain_kind, PlainNode}
use Rattle.tb_node.specs.Sums.{size_of}
use Rattle.tb_builder.specs.declared.Ask.{Ask}
use Rattle.tb_builder.specs.declared.Builder.{Builder}
use Rattle.tb_builder.specs.declared.Event.{Event}
use Rattle.tb_builder.specs.declared.Event.TheVariants as events
use Rattle.tb_builder.specs.declared.Page.{Page}
use Rattle.tb_builder.specs.FiredPages.{Boxed, Fired}
use Rattle.tb_builder.specs.Contents.{Contents, contents_of, node_count, box_count}
use Rattle.tb_builder.specs.SizedContents.{IsSizedAsk, fired_count, AreBoxesOf}
use Rattle.tb_pool.specs.Frame.{IsNoneOf}
use Rattle.tb_items.specs.ItemsLeft.{IsOpen}
use Rattle.tb_builder.specs.PageEvents.{IsGivenOut, TellsRoom}
use Rattle.tb_builder.specs.PageProgress.{page_fired, ComesToPage, IsNextOfPage}
use Rattle.tb_builder.specs.Ownership.{ids_of, KeepsOthers}
use Rattle.tb_builder.specs.Pageable.{IsSizedBox}
use Rattle.tb_builder.specs.LegalPlaces.{NoActs}
use Rattle.tb_builder.specs.Courses.{IsSound, IsPageSoFar}
use Rattle.tb_builder.proofs.Ownership.StoreSized.{list-back, list-length, boxes_of}
use Rattle.tb_column.specs.Page.{is_leaf_kind, AreLeaves}
use Rattle.tb_float.specs.Ranges.{IsWithin}
use Rattle.tb_output.specs.State.{State, Recorded}
use Rattle.tb_sheet.specs.Asked.{hold_penalty}
use Rattle.tb_output.specs.Output.{out}
use Rattle.tb_output.specs.Machine.{MachineView, state_shown, machine_lists}
use Rattle.tb_builder.specs.BuilderLists.{builder_lists}
use Rattle.tb_output.specs.Firing.{IsReach, CanFire}
use Rattle.tb_column.proofs.ShownLemmas.{shapes-held}
use Rattle.tb_output.proofs.FiringWork.ApartLemmas.{fresh-none}
use Rattle.tb_builder.proofs.Ownership.LackLemmas.{lacks-none}
use Rattle.tb_output.proofs.FiringWork.StandLemmas.{machine-live}
use Rattle.tb_items.specs.declared.happenings.Happening.{Happening}
use Rattle.tb_run.specs.declared.routine.Routine.{Routine}
use Rattle.tb_items.specs.RunEvents.{RunEvent}
use Rattle.tb_steps.specs.Run.{held_count, Progress, ask_for, firing_step}
use Rattle.tb_steps.specs.Runnable.{AreRunnable, AreRunClasses}
use Rattle.tb_run.specs.ServedStates.{IsTextKind, notes_waiting, notes_taken, notes_left, IsServedPage}
use Rattle.tb_run.specs.Routine.{built_in, held_in, state_of, IsConsistent, IsBetweenFirings, IsReady}
use Rattle.tb_items.specs.Happenings.{noted}
use Rattle.tb_run.specs.FilledPages.{fired_whole, IsBoundedPage, IsFiring}
use Rattle.tb_run.proofs.ServedAgain.ServedFirings.{reach_where}
use Rattle.tb_run.proofs.Turns.CountedLemmas.{leaves-count}
use Rattle.tb_run.proofs.Filling.ComingLemmas.{start, fires-progress, fires-is, fires-state, fires-page}
use Rattle.tb_run.proofs.Filling.ComingPages.{fired-mild, fired-few, fired-notes, fired-served}
use Rattle.tb_run.proofs.Filling.AskLemmas.{stopped-begun}
use Rattle.tb_run.proofs.Filling.FillingLemmas.{state_now, IsUnderway, next-is, next-whole, next-state, next-taken}

-- ---- nodes of a page

text-leaf : (held : ℕ → List Node) (k : Kind) → IsTextKind (plain_kind held k) → is_leaf_kind k
text-leaf held (kinds.Ins i) t = absurd t
text-leaf held (kinds.Act a) t = absurd t
text-leaf held k t = tt

text-leaves : (held : ℕ → List Node) (ns : List Node) → AllByRecursion (λ n. IsTextKind n.kind) (map (plain_of held) ns) → AreLeaves ns
text-leaves held [] h = tt
text-leaves held (n ∷ ns) h = (text-leaf held n.kind h.0, text-leaves held ns h.1)

-- the page so far has no acts
page-quiet : (b : Builder) (s : Lists Node) → IsSound b s → b.stopped ≡ true → NoActs (contents_of b s).page
page-quiet b s h on = by_frozen b.frozen b.stopped on h.page
  where
    by_frozen : (o : Option Ask) (t : Bool) → t ≡ true → IsPageSoFar o t b.course (contents_of b s) → NoActs (contents_of b s).page
    by_frozen None true e p = absurd p
    by_frozen (Some f) true e p = p.course.no_acts
    by_frozen o false e p = absurd (true≢false (sym e))

-- how far notes reach in a state that is served
reach-within : (n : ℕ) (z : ℤ) → IsWithin (reach_where n) z → IsReach z
reach-within n z h = let l = h.low in let u = h.high in record { low = omega (arith, ints, l); high = omega (arith, ints, u) }

-- what waits and what is in boxes is of no account to a firing
pub firing-same : (es : List RunEvent) (rs : List Recorded) (store : Lists Node) (bs cs : List Boxed) (ns ms : List PlainNode) (m : MachineView) (f : Fired)
    → firing_step es rs (state_shown store bs ns m) f ≡ firing_step es rs (state_shown store cs ms m) f
unfolding out
firing-same es rs store bs cs ns ms m f = refl

page-same : (store : Lists Node) (bs cs : List Boxed) (ns ms : List PlainNode) (m : MachineView) (f : Fired) → IsServedPage (state_shown store bs ns m) f → IsServedPage (state_shown store cs ms m) f
page-same store bs cs ns ms m f h = record { body = h.body; text = h.text; back = h.back; rest = h.rest; boxes = h.boxes; boxes_of = h.boxes_of; held = h.held; entries = h.entries; notes = h.notes; bottom = h.bottom }

module _ (wanted : Bool) (r q d : Routine) (now : Ask) (hs : List Happening) (ready : IsReady r) (h : IsUnderway wanted r q now hs) (ask : Ask) (asked : ask ≡ ask_for (state_of r))
    (e : Event) (of_page : IsNextOfPage e (held_in q) ask (held_in d) d.store) (sound : IsSound d.builder d.store) (keeps : KeepsOthers (ids_of q.builder) q.store (ids_of d.builder) d.store) (same : d.machine ≡ q.machine) (most : d.most ≡ q.most) (d_left : d.left ≡ q.left) (kept : (built_in d).classes ≡ (built_in q).classes)
    (page : Page) (is : e ≡ events.Fired page) (given : IsGivenOut e q.store (ids_of d.builder) d.store) (told : TellsRoom e d.builder d.store) (open_so : q.builder.stopped ≡ true → (before : List PlainNode) → IsOpen d.left (before ++ (built_in d).waiting)) where
  abbrev s : State
  s = state_of r

  fires : ComesToPage page (start s) (held_in q) (ask_for s) (held_in d) d.store
  fires = next-is wanted r q d now hs ready h ask asked e of_page sound keeps same most d_left kept (events.Fired page) is

  abbrev f : Fired
  f = page_fired (start s) (ask_for s)

  left : IsGivenOut (events.Fired page) q.store (ids_of d.builder) d.store
  left = subst (λ x. IsGivenOut x q.store (ids_of d.builder) d.store) is given

  few : held_count s ≤ 4194304
  few = let a = ready.settled.bounded.held in let b = ready.settled.bounded.few in omega (arith, a, b)

  whole : IsConsistent d
  whole = next-whole wanted r q d now hs ready h ask asked e of_page sound keeps same most d_left kept

  t-now : state_now r d ≡ state_now r q
  t-now = next-state wanted r q d now hs ready h ask asked e of_page sound keeps same most d_left kept

  of-boxes : AreBoxesOf s.classes s.boxes
  of-boxes = subst (λ (c : Contents). AreBoxesOf c.classes s.boxes) ready.settled.between (boxes_of r.store r.builder.boxes)

  -- the page in the store
  fired-same : fired_whole d page ≡ f
  fired-same = λ i. record {
    body = fires.page.body i;
    boxes = (fires.after i).boxes;
    held = (fires.after i).held;
    rest = (fires.after i).waiting;
    penalty = fires.page.penalty i;
    cost = fires.page.cost i;
    size = fires.page.size i;
    shrink = fires.page.shrink i;
    line = fires.page.line i;
  }

  abbrev set : IsBetweenFirings r
  set = ready.settled

  -- the page was begun
  asked-sized : IsSizedAsk (ask_for s)
  asked-sized = by_frozen q.builder.frozen refl
    where
      by_frozen : (o : Option Ask) → q.builder.frozen ≡ o → IsSizedAsk (ask_for s)
      by_frozen None none = absurd (stopped-begun q.builder q.store h.whole.builder fires.stopped none)
      by_frozen (Some x) k = h.asked.sized x k

  served : IsServedPage (state_now r q) f
  served = fired-served s set.classes asked-sized set.served few h.rs (held_in q) (state_now r q) h.coming fires.stopped (page-quiet q.builder q.store h.whole.builder fires.stopped) of-boxes

  served-now : IsServedPage (state_of d) (fired_whole d page)
  served-now = page-same d.store s.boxes (held_in d).boxes s.waiting (held_in d).waiting d.machine (fired_whole d page)
      (subst (IsServedPage (state_now r d)) (sym fired-same) (subst (λ t. IsServedPage t f) (sym t-now) served))

  -- no more marginal notes have no place yet
  notes-now : notes_left ((fired_whole d page).held ++ (fired_whole d page).rest) (state_of d) ≤ notes_left s.waiting s
  notes-now =
      let a = fired-notes s set.classes asked-sized set.served few h.rs (held_in q) (state_now r q) h.coming fires.stopped (page-quiet q.builder q.store h.whole.builder fires.stopped) of-boxes in
      let b = ap (λ (x : Fired). notes_waiting (x.held ++ x.rest)) fired-same in
      let e = ap (λ (t : State). notes_taken t.floats.current) t-now in
      omega (arith, a, b, e)

  counted : fired_count f ≤ node_count s.waiting + 1 + box_count s.boxes
  counted = fired-few s set.classes asked-sized set.served few h.rs (held_in q) (state_now r q) h.coming fires.stopped (page-quiet q.builder q.store h.whole.builder fires.stopped) of-boxes

  held-same : node_count (state_of d).held_page ≡ node_count s.held_page
  held-same = ap (λ (t : State). node_count t.held_page) t-now ∙ ap node_count h.coming.keeps.held

  classes-now : d.machine.classes ≡ r.machine.classes
  classes-now = ap (λ (t : State). t.classes) t-now ∙ h.coming.keeps.classes

  bounded : IsBoundedPage page d
  bounded = record {
    held =
        let a = counted in
        let b = held-same in
        let c = set.bounded.held in
        let g = ap (λ (x : Fired). fired_count x) fired-same in
        let m = most ∙ h.most in
        omega (arith, a, b, c, g, m);
    few = let a = set.bounded.few in let m = most ∙ h.most in omega (arith, a, m);
  }

  body-count : length (list_at d.store page.body) ≤ node_count f.body
  body-count = let a = list-length d.store page.body in let b = ap node_count fires.page.body in omega (arith, a, b)

  can-fire : CanFire d.machine d.builder d.store page
  can-fire = record {
    awaits = record { page = ap (λ (c : Contents). c.page) fires.after; frozen = ap (λ (c : Contents). c.frozen) fires.after };
    classes = ap (λ (c : Contents). c.classes) fires.after ∙ h.coming.come.stays.classes ∙ sym classes-now;
    penalty = subst (λ z. hold_penalty ≤ℤ z) (sym fires.page.penalty) (fired-mild s set.classes asked-sized set.served few h.rs (held_in q) (state_now r q) h.coming fires.stopped (page-quiet q.builder q.store h.whole.builder fires.stopped) of-boxes);
    shrink = fires.page.amount;
    note_bottom = reach-within (notes_left ((fired_whole d page).held ++ (fired_whole d page).rest) (state_of d)) d.machine.note_bottom served-now.bottom;
    body = record {
      live = fires.page.live;
      leaves = text-leaves (list_at d.store) (list_at d.store page.body) served-now.text;
      sized = list-back d.store page.body served-now.body;
      few = let a = body-count in let b = counted in omega (arith, a, b, few);
    };
    boxes = recursion_from_All IsSizedBox (held_in d).boxes served-now.boxes;
    few =
        let a = body-count in
        let b = counted in
        let c = leaves-count (list_at d.store) (list_at d.store d.machine.held_page) whole.machine.held_page.leaves in
        let g = held-same in
        let i = ap box_count (ap (λ (x : Contents). x.boxes) fires.after) in
        omega (arith, a, b, c, g, i, few);
    body_apart = subst (λ (m : MachineView). IsNoneOf page.body (machine_lists m)) (sym same) (fresh-none q.store page.body (machine_lists q.machine) left.0 (machine-live q.machine q.store h.whole.machine));
    body_free = lacks-none page.body (builder_lists d.builder d.store) left.2;
    machine_free = whole.apart;
  }

  pub filled-fires : IsFiring wanted r page d hs
  filled-fires =
      let all = fires-progress s h.rs (held_in q) (state_now r q) h.coming fires.stopped in
      record {
        filled = record {
          state = t-now ∙ sym (fires-state s h.rs (held_in q) (state_now r q) h.coming fires.stopped);
          events = λ store. h.quiet.events store ∙ ap (λ (x : Progress). noted wanted x.events) (sym all);
          lists = h.quiet.lists;
          left = λ none. d_left ∙ h.left none;
        };
        fires = record {
          none = ap (λ (x : Progress). x.fault) all ∙ h.coming.none;
          fires = fires-is s h.rs (held_in q) (state_now r q) h.coming fires.stopped;
          fired = fired-same ∙ sym (fires-page s h.rs (held_in q) (state_now r q) h.coming fires.stopped);
        };
        can = record {
          whole = whole;
          can = can-fire;
          room = subst (λ x. TellsRoom x d.builder d.store) is told ∙ ap size_of (shapes-held (list_at d.store) (list_at d.store page.body));
          taken = next-taken wanted r q d now hs ready h ask asked e of_page sound keeps same most d_left kept;
          params = subst (λ (t : State). AreRunnable t.params) (sym t-now) h.coming.runs;
          classes = subst AreRunClasses (sym classes-now) set.classes;
          served = served-now;
          bounded = bounded;
          ends = open_so fires.stopped;
        };
        notes = notes-now;
        bottom = ap (λ (t : State). t.note_bottom) t-now ∙ h.coming.keeps.bottom;
        classes = classes-now;
      }
