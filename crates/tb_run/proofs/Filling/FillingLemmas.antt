-- The routine while a page is filled.
use Rattle.std.proofs.Common.{◌≡◌, refl, sym, subst, ◌∙◌, ap, ℕ, ◌<◌, ◌≤◌, Bool, List, [], ◌∷◌, ◌++◌, length, map, None, Some, is_some, append-nil, arith}
use Rattle.std.specs.Prelude.{◌+◌, Option, true, false, if◌then◌else◌}
use Rattle.std.specs.List.{AllByRecursion}
use Rattle.tb_break.proofs.EachLemmas.{all-front}
use Rattle.tb_pool.specs.Lists.{Lists}
use Rattle.tb_pool.specs.Frame.{IsNoneOf}
use Rattle.tb_node.specs.declared.Act.{Act}
use Rattle.tb_node.specs.declared.Node.{Node}
use Rattle.tb_node.specs.PlainNodes.{PlainNode}
use Rattle.tb_builder.specs.declared.Ask.{Ask}
use Rattle.tb_builder.specs.declared.Builder.{Builder}
use Rattle.tb_builder.specs.declared.Event.{Event}
use Rattle.tb_builder.specs.declared.Event.TheVariants as events
use Rattle.tb_builder.specs.declared.Try.{Try}
use Rattle.tb_builder.specs.FiredPages.{Boxed}
use Rattle.tb_builder.specs.Reach.{Reached, acted, tried}
use Rattle.tb_builder.specs.Contents.{Contents, reach_ahead}
use Rattle.tb_builder.specs.PageEvents.{NextFits}
use Rattle.tb_builder.specs.SizedContents.{IsSizedAsk}
use Rattle.tb_builder.specs.PageProgress.{ComesToTry, ComesToAct, ComesTo, IsNextOfPage}
use Rattle.tb_builder.specs.Ownership.{ids_of, KeepsOthers}
use Rattle.tb_builder.specs.Courses.{IsSound}
use Rattle.tb_builder.proofs.Events.PagingLemmas.{calls_left, one_fewer}
use Rattle.tb_sheet.specs.declared.Warn.{Warn}
use Rattle.tb_sheet.specs.Sheet.{warned}
use Rattle.tb_column.specs.Notes.{AreDistinct}
use Rattle.tb_output.specs.State.{State, ask_of}
use Rattle.tb_output.specs.Act.{Acted, went, full, act_on}
use Rattle.tb_sheet.specs.Asked.{IsSizedAct}
use Rattle.tb_output.specs.ActCalls.{line_of, warnings_sent}
use Rattle.tb_output.specs.Machine.{MachineView, state_shown, left_lists, event_lists, machine_lists, IsMachine}
use Rattle.tb_builder.specs.BuilderLists.{builder_lists}
use Rattle.tb_sheet.proofs.ListsApart.{distinct-front}
use Rattle.tb_output.proofs.FiringWork.BesideLemmas.{machine-with}
use Rattle.tb_items.specs.declared.happenings.Happening.{Happening}
use Rattle.tb_run.specs.declared.routine.Routine.{Routine}
use Rattle.tb_run.specs.declared.routine.Ending.TheVariants as endings
use Rattle.tb_items.specs.RunEvents.{RunEvent, offered, sent}
use Rattle.tb_steps.specs.Run.{held_count, Progress, led_by, led_through, ask_for}
use Rattle.tb_items.specs.declared.items_left.ItemsLeft.{ItemsLeft}
use Rattle.tb_items.specs.ItemsLeft.{nodes_left, pieces_left, AreItemsLeft, with_more, IsOpen}
use Rattle.tb_items.specs.Happenings.{noted_try, noted}
use Rattle.tb_run.specs.Routine.{built_in, held_in, state_of, with_events, IsConsistent, IsReady, EndsAs}
use Rattle.tb_run.specs.FilledPages.{sent_happenings, with_page, IsFilledLast}
use Rattle.tb_run.specs.RoutinePages.{HasComeTo, HasDone, HasActed, HasNotActed, AreQuiet}
use Rattle.tb_run.proofs.Turns.WholeLemmas.{built-shown, built-whole}
use Rattle.tb_items.proofs.HappenedLemmas.{lists-append, events-append, noted-append, noted-warned, try-noted, try-lists}
use Rattle.tb_run.proofs.Turns.HappenedLemmas.{warned-events, warned-lists}
use Rattle.tb_run.proofs.Filling.ComingLemmas.{IsComing, start, so_far, coming-start, after, tried-events, coming-tried, acted-sized, acted-events, coming-acted, full-progress, step-full, over-progress, over-fires, step-over}
use Rattle.tb_items.proofs.MoreEvents.{fits-front, open-start}
use Rattle.tb_run.proofs.Filling.MoreLemmas.{IsOpenFor}
use Rattle.tb_run.proofs.Filling.ComingPages.{sized-asked, made-fits, asked-fits}
use Rattle.tb_run.proofs.Filling.AskedCalls.{asks, Agrees, comes-for}
use Rattle.tb_run.proofs.Filling.AskLemmas.{loose-holds, unbegun-loose}

-- ---- events that were taken

pub taken-machine : (m : MachineView) (store : Lists Node) → IsMachine m store → IsMachine (record m { events = [] }) store
taken-machine m store is = machine-with m store is is.goal refl is.unmarked tt (subst (λ ls. AreDistinct (m.held_page ∷ ls)) (sym (append-nil (left_lists m.left_column))) (distinct-front (m.held_page ∷ left_lists m.left_column) (event_lists m.events) is.apart))

pub taken-all : (P : ℕ → Type 0) (m : MachineView) → AllByRecursion P (machine_lists m) → AllByRecursion P (machine_lists (record m { events = [] }))
taken-all P m h = (h.0, subst (AllByRecursion P) (sym (append-nil (left_lists m.left_column))) (all-front P (left_lists m.left_column) (event_lists m.events) h.1))

pub taken-whole : (q : Routine) → IsConsistent q → IsConsistent (with_events [] q)
taken-whole q w = record { builder = w.builder; machine = taken-machine q.machine q.store w.machine; fault = w.fault; apart = taken-all (λ l. IsNoneOf l (builder_lists q.builder q.store)) q.machine w.apart; items = w.items }

-- ---- so far

-- the state, with these boxes and nodes at the start of the page
abbrev pub state_now : Routine → Routine → State
state_now r q = with_page (state_of r) q

-- what is asked now agrees with what the page is made for, whose amounts are in their ranges once the page is begun
pub record IsAskedFor (r q : Routine) (now : Ask) : Type 0 where
  pub agrees : Agrees (state_now r q) now (ask_for (state_of r)) (nodes_left q.left) q.builder q.store
  pub sized : (f : Ask) → q.builder.frozen ≡ Some f → IsSizedAsk (ask_for (state_of r))

-- this much of the page was reached, these are its happenings, and this is asked now
pub record IsUnderway (wanted : Bool) (r q : Routine) (now : Ask) (hs : List Happening) : Type 0 where
  pub rs : List Reached
  pub coming : IsComing (state_of r) rs (held_in q) (state_now r q)
  pub quiet : AreQuiet wanted hs (so_far (state_of r) rs).events
  pub whole : IsConsistent q
  pub taken : q.machine.events ≡ []
  pub most : q.most ≡ r.most
  pub left : r.left ≡ None → q.left ≡ None
  pub ends : IsOpenFor q.left (built_in q) (ask_for (state_of r))
  pub asked : IsAskedFor r q now

-- the same before this act, which is still to be done
pub record IsAskedAct (r q : Routine) (now : Ask) (a : Act) : Type 0 where
  pub begun : (f : Ask) → q.builder.frozen ≡ Some f → now ≡ ask_for (state_of r)
  pub later : q.builder.frozen ≡ None → ask_for (state_of r) ≡ asks (led_by (λ v. led_through (held_in q).waiting v) (state_now r q) (act_on q.machine.params (state_now r q) a))
  pub sized : (f : Ask) → q.builder.frozen ≡ Some f → IsSizedAsk (ask_for (state_of r))

-- what is asked after an act: the same once the page is begun, and else what is asked in the state then
abbrev pub IsAskedAgain : Routine → Ask → Ask → Type 0
IsAskedAgain q now next = (boxes : List Boxed) (waiting : List PlainNode) → next ≡ (if is_some q.builder.frozen then now else ask_of q.machine.params (state_shown q.store boxes waiting q.machine))

then-ask : (t : Bool) (x y : Ask) → t ≡ true → (if t then x else y) ≡ x
then-ask true x y e = refl
then-ask false x y e = cc

else-ask : (t : Bool) (x y : Ask) → t ≡ false → (if t then x else y) ≡ y
else-ask true x y e = cc
else-ask false x y e = refl

-- calls of the builder that are left, at most
abbrev pub left_of_page : Routine → Routine → ℕ
left_of_page r q = calls_left (held_in q).stopped (length (reach_ahead (held_in q) (ask_for (state_of r))).reached)

-- turns of the loop that are left, at most: each call but the last of a batch, and each batch
abbrev pub turns_left : Routine → Routine → ℕ
turns_left r q = left_of_page r q + pieces_left q.left

pub underway-start : (wanted : Bool) (r : Routine) (now : Ask) (hs : List Happening) → now ≡ asks (state_of r) → IsReady r → hs ≡ [] → IsUnderway wanted r r now hs
underway-start wanted r now hs is h e = record {
  rs = [];
  coming = subst (λ c. IsComing (state_of r) [] c (state_now r r)) (sym h.settled.between) (coming-start (state_of r) h.settled.params h.settled.served);
  quiet = subst (λ xs. AreQuiet wanted xs []) (sym e) (record { events = λ store. refl; lists = refl });
  whole = h.settled.whole;
  taken = h.events;
  most = refl;
  left = λ none. none;
  ends = start-open r.left h.settled.ends;
  asked = record { agrees = record { begun = λ f k. absurd (unbegun f k); asked = λ none. is; later = λ none. refl }; sized = λ f k. absurd (unbegun f k) };
}
  where
    unbegun : (f : Ask) → r.builder.frozen ≡ Some f → ⊥
    unbegun f k = let none : r.builder.frozen ≡ None = ap (λ (c : Contents). c.frozen) h.settled.between in let bad : Some f ≡ None = sym k ∙ none in cc

    start-open : (o : Option ItemsLeft) → IsOpen o (built_in r).waiting → IsOpenFor o (built_in r) (ask_for (state_of r))
    start-open None k = tt
    start-open (Some l) k = open-start (built_in r) (ask_for (state_of r)) (ap (λ (c : Contents). c.page) h.settled.between) (ap (λ (c : Contents). c.stopped) h.settled.between) k

-- ---- what happened

module _ (wanted : Bool) (hs : List Happening) (es : List RunEvent) (q : AreQuiet wanted hs es) where
  pub quiet-tried : (t : Try) (fs : List RunEvent) → fs ≡ es ++ offered t ∷ [] → AreQuiet wanted (hs ++ noted_try wanted t) fs
  quiet-tried t fs e = record {
    events = λ store.
        events-append store hs (noted_try wanted t)
        ∙ (λ i. q.events store i ++ try-noted wanted store t i)
        ∙ sym (noted-append wanted es (offered t ∷ []))
        ∙ ap (noted wanted) (sym e);
    lists = lists-append hs (noted_try wanted t) ∙ (λ i. q.lists i ++ try-lists wanted t i);
  }

  pub quiet-warned : (ws : List Warn) (fs : List RunEvent) → fs ≡ es ++ map (λ w. sent (warned w)) ws → AreQuiet wanted (hs ++ sent_happenings (warnings_sent ws)) fs
  quiet-warned ws fs e = record {
    events = λ store.
        events-append store hs (sent_happenings (warnings_sent ws))
        ∙ (λ i. q.events store i ++ (warned-events store ws ∙ sym (noted-warned wanted ws)) i)
        ∙ sym (noted-append wanted es (map (λ w. sent (warned w)) ws))
        ∙ ap (noted wanted) (sym e);
    lists = lists-append hs (sent_happenings (warnings_sent ws)) ∙ (λ i. q.lists i ++ warned-lists ws i);
  }

-- ---- the next event

module _ (wanted : Bool) (r q : Routine) (now : Ask) (hs : List Happening) (h : IsUnderway wanted r q now hs) where
  -- all that is added up fits
  pub underway-fits : IsReady r → NextFits (built_in q) now
  underway-fits ready = fits-front (built_in q) now (nodes_left q.left) (by_frozen q.builder.frozen refl)
    where
      few : held_count (state_of r) ≤ 4194304
      few = let a = ready.settled.bounded.held in let b = ready.settled.bounded.few in omega (arith, a, b)

      by_frozen : (o : Option Ask) → q.builder.frozen ≡ o → NextFits (held_in q) now
      by_frozen (Some f) k =
          subst (NextFits (held_in q)) (sym (h.asked.agrees.begun f k))
          (made-fits (state_of r) ready.settled.classes ready.settled.served few h.rs (held_in q) (state_now r q) h.coming (h.asked.sized f k))
      by_frozen None none =
          asked-fits (state_of r) ready.settled.classes ready.settled.served few h.rs (held_in q) (state_now r q) h.coming now
          (subst IsSizedAsk (sym (h.asked.agrees.asked none)) (sized-asked (state_now r q) h.coming.runs h.whole.machine.goal))
          none (loose-holds (built_in q).page (unbegun-loose q.builder q.store h.whole.builder none))

  -- a call of the builder with what is asked now is one with what the page is made for
  pub comes-so : (d : Routine) (e : Event) → HasComeTo wanted e now q d → HasComeTo wanted e (ask_for (state_of r)) q d
  comes-so d e c = record {
    passed = c.passed;
    comes = comes-for (state_now r q) now (ask_for (state_of r)) (nodes_left q.left) q.builder q.store h.asked.agrees d.builder d.store e h.whole.builder c.passed c.comes;
    none = c.none;
    machine = c.machine;
    most = c.most;
    left = c.left;
  }

module _ (wanted : Bool) (r q d : Routine) (now : Ask) (hs : List Happening) (ready : IsReady r) (h : IsUnderway wanted r q now hs) (ask : Ask) (asked : ask ≡ ask_for (state_of r)) where
  abbrev s : State
  s = state_of r

  module _ (e : Event) (page : IsNextOfPage e (held_in q) ask (held_in d) d.store) (sound : IsSound d.builder d.store) (keeps : KeepsOthers (ids_of q.builder) q.store (ids_of d.builder) d.store) (same : d.machine ≡ q.machine) (most : d.most ≡ q.most) (left : d.left ≡ q.left) (kept : (built_in d).classes ≡ (built_in q).classes) where
    pub next-is : (f : Event) → e ≡ f → ComesTo f (start s) h.rs (held_in q) (ask_for s) (held_in d) d.store
    next-is f is = subst (λ x. IsNextOfPage f (held_in q) x (held_in d) d.store) asked (subst (λ x. IsNextOfPage x (held_in q) ask (held_in d) d.store) is page) (start s) h.rs h.coming.come

    pub next-whole : IsConsistent d
    next-whole = built-whole q d h.whole keeps sound same (subst (λ o. AreItemsLeft (built_in d).classes o) (sym left) (subst (λ cs. AreItemsLeft cs q.left) (sym kept) h.whole.items))

    -- the machine shows the same state
    pub next-state : state_now r d ≡ state_now r q
    next-state = ap (λ (m : MachineView). state_shown d.store s.boxes s.waiting m) same ∙ (built-shown q d h.whole keeps sound same).state s.boxes s.waiting

    pub next-taken : d.machine.events ≡ []
    next-taken = ap (λ (m : MachineView). m.events) same ∙ h.taken

    -- ---- a place was tried

    module _ (x : Try) (is : e ≡ events.Try x) where
      tries : ComesToTry x (start s) h.rs (held_in q) (ask_for s) (held_in d)
      tries = next-is (events.Try x) is

      abbrev more : List Reached
      more = after s h.rs (held_in q) (held_in d) (state_now r q) h.coming x tries

      pub underway-tried : IsOpenFor d.left (built_in d) ask → IsAskedFor r d now → (new : List Happening) → new ≡ hs ++ noted_try wanted x → IsUnderway wanted r d now new
      underway-tried ends made_for new e = record {
        rs = more;
        coming = subst (IsComing s more (held_in d)) (sym next-state) (coming-tried s h.rs (held_in q) (held_in d) (state_now r q) h.coming x tries);
        quiet = subst (λ hs'. AreQuiet wanted hs' (so_far s more).events) (sym e) (quiet-tried wanted hs (so_far s h.rs).events h.quiet x (so_far s more).events (tried-events s h.rs (held_in q) (held_in d) (state_now r q) h.coming x tries));
        whole = next-whole;
        taken = next-taken;
        most = most ∙ h.most;
        left = λ none. left ∙ h.left none;
        ends = subst (IsOpenFor d.left (built_in d)) asked ends;
        asked = made_for;
      }

      pub fewer-tried : left_of_page r d < left_of_page r q
      fewer-tried = one_fewer (start s) h.rs (tried tries.line tries.place) (held_in q) (held_in d) (ask_for s) h.coming.come tries.going tries.come

    -- ---- an act was reached

    module _ (a : Act) (is : e ≡ events.Act a) where
      acts : ComesToAct a (start s) h.rs (held_in q) (ask_for s) (held_in d)
      acts = next-is (events.Act a) is

      pub act-fits : IsSizedAct a
      act-fits = acted-sized s h.rs (held_in q) (held_in d) (state_now r q) h.coming a acts

      of-act : act_on d.machine.params (state_now r d) a ≡ act_on q.machine.params (state_now r q) a
      of-act = ap (λ (t : State). act_on t.params t a) next-state

      -- it was done, and its warnings were taken
      module _ (behind : Routine) (acted_so : HasActed a d behind) where
        hold : (held_in behind) ≡ held_in d
        hold = λ i. with_more (nodes_left (acted_so.left i)) (acted_so.built i)

        pub fewer-acted : left_of_page r (with_events [] behind) < left_of_page r q
        fewer-acted =
            subst (λ (c : Contents). calls_left c.stopped (length (reach_ahead c (ask_for s)).reached) < left_of_page r q) (sym hold) (one_fewer (start s) h.rs (acted a) (held_in q) (held_in d) (ask_for s) h.coming.come acts.going acts.come)

        module _ (ends : IsOpenFor d.left (built_in d) ask) (made_for : IsAskedAct r d now a) (next : Ask) (again : IsAskedAgain behind now next) where
          frozen-before : (o : Option Ask) → behind.builder.frozen ≡ o → d.builder.frozen ≡ o
          frozen-before o k = sym (ap (λ (b : Builder). b.frozen) acted_so.builder) ∙ k

          begun-again : (f : Ask) → behind.builder.frozen ≡ Some f → next ≡ now
          begun-again f k = again s.boxes s.waiting ∙ then-ask (is_some behind.builder.frozen) now _ (ap is_some k)

          unbegun-again : behind.builder.frozen ≡ None → next ≡ asks (state_now r behind)
          unbegun-again none = again s.boxes s.waiting ∙ else-ask (is_some behind.builder.frozen) now _ (ap is_some none)

          by-act : (o : Acted) → act_on q.machine.params (state_now r q) a ≡ o → HasDone s.boxes s.waiting d behind o → (new : List Happening) → new ≡ hs ++ sent_happenings behind.machine.events → IsUnderway wanted r (with_events [] behind) next new
          by-act (full line live) e o new is_new = absurd o
          by-act (went u ws qs) e o new is_new =
              let taken : behind.machine.events ≡ warnings_sent ws = (o.1 ∙ ap (λ xs. xs ++ warnings_sent ws) next-taken) in
              record {
                rs = h.rs ++ acted a ∷ [];
                coming = subst (λ c. IsComing s (h.rs ++ acted a ∷ []) c (state_now r behind)) (sym hold)
                    (subst (IsComing s (h.rs ++ acted a ∷ []) (held_in d)) (sym o.0) (coming-acted s h.rs (held_in q) (held_in d) (state_now r q) h.coming a acts u ws qs e));
                quiet = subst (λ hs'. AreQuiet wanted hs' (so_far s (h.rs ++ acted a ∷ [])).events) (sym (is_new ∙ ap (λ xs. hs ++ sent_happenings xs) taken))
                    (quiet-warned wanted hs (so_far s h.rs).events h.quiet ws (so_far s (h.rs ++ acted a ∷ [])).events (acted-events s h.rs (held_in q) (held_in d) (state_now r q) h.coming a acts u ws qs e));
                whole = taken-whole behind acted_so.whole;
                taken = refl;
                most = acted_so.most ∙ most ∙ h.most;
                left = λ none. acted_so.left ∙ left ∙ h.left none;
                ends = subst (λ o. IsOpenFor o (built_in behind) (ask_for s)) (sym acted_so.left) (subst (λ c. IsOpenFor d.left c (ask_for s)) (sym acted_so.built) (subst (IsOpenFor d.left (built_in d)) asked ends));
                asked = record {
                  agrees = record {
                    begun = λ f k. begun-again f k ∙ made_for.begun f (frozen-before (Some f) k);
                    asked = unbegun-again;
                    later = λ none.
                        made_for.later (frozen-before None none)
                        ∙ ap (λ y. asks (led_by (λ v. led_through (held_in d).waiting v) (state_now r d) y)) (of-act ∙ e)
                        ∙ (λ i. asks (led_through (sym hold i).waiting (sym o.0 i)));
                  };
                  sized = λ f k. made_for.sized f (frozen-before (Some f) k);
                };
              }

          pub underway-acted : (new : List Happening) → new ≡ hs ++ sent_happenings behind.machine.events → IsUnderway wanted r (with_events [] behind) next new
          underway-acted new e = by-act (act_on q.machine.params (state_now r q) a) refl (subst (HasDone s.boxes s.waiting d behind) of-act (acted_so.acted s.boxes s.waiting)) new e

      -- the pool was full
      pub filled-full : (behind : Routine) (live : ℕ) → HasNotActed a live d behind → IsFilledLast wanted r (endings.PoolFull (line_of a) live) behind hs
      filled-full behind live k =
          let e = sym of-act ∙ k.full_pool s.boxes s.waiting in
          let is_step = step-full s h.rs (held_in q) (held_in d) (state_now r q) h.coming a acts (line_of a) live e in
          let all = full-progress s h.rs (held_in q) (held_in d) (state_now r q) h.coming a acts (line_of a) live e in
          record {
            filled = record {
              state = ap (state_now r) k.same ∙ next-state ∙ sym (ap (λ (x : Progress). x.state) all ∙ h.coming.state);
              events = λ store. h.quiet.events store ∙ ap (λ (x : Progress). noted wanted x.events) (sym all);
              lists = h.quiet.lists;
              left = λ none. ap (λ (x : Routine). x.left) k.same ∙ left ∙ h.left none;
            };
            none = λ none. let no : Some (line_of a, live) ≡ None = sym (ap (λ (x : Progress). x.fault) all) ∙ none in cc;
            ended = subst (EndsAs behind (Some (endings.PoolFull (line_of a) live))) (sym is_step) refl;
            whole = subst IsConsistent (sym k.same) next-whole;
          }

    -- ---- nothing waits any more

    pub filled-over : e ≡ events.Empty → IsFilledLast wanted r endings.Done d hs
    filled-over is =
        let over = next-is events.Empty is in
        let is_step = step-over s h.rs (held_in q) (held_in d) (state_now r q) h.coming over in
        let all = over-progress s h.rs (held_in q) (held_in d) (state_now r q) h.coming over in
        record {
          filled = record {
            state = next-state ∙ sym (ap (λ (x : Progress). x.state) all ∙ h.coming.state);
            events = λ store. h.quiet.events store ∙ ap (λ (x : Progress). noted wanted x.events) (sym all);
            lists = h.quiet.lists;
            left = λ none. left ∙ h.left none;
          };
          none = λ none. over-fires s h.rs (held_in q) (held_in d) (state_now r q) h.coming over;
          ended = subst (EndsAs d (Some endings.Done)) (sym is_step) refl;
          whole = next-whole;
        }
