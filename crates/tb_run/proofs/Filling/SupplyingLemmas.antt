-- Nothing waits any more while items are left: some are handed over, and the page goes on.
use Rattle.std.proofs.Common.{◌≡◌, refl, sym, subst, ◌∙◌, ap, ◌<◌, Bool, true, false, List, ◌++◌, length, Option, None, Some, append_assoc, arith}
use Rattle.tb_node.specs.PlainNodes.{PlainNode}
use Rattle.tb_builder.specs.declared.Ask.{Ask}
use Rattle.tb_builder.specs.declared.Event.{Event}
use Rattle.tb_builder.specs.declared.Event.TheVariants as events
use Rattle.tb_builder.specs.Contents.{Contents, laid, reach_ahead, places_of}
use Rattle.tb_builder.specs.Contributions.{ends_in_kern}
use Rattle.tb_builder.specs.PageCalls.{IsNext}
use Rattle.tb_builder.specs.PageEvents.{NextIs, EmptyIs, KeepsBoxes}
use Rattle.tb_builder.specs.PageProgress.{HasCome}
use Rattle.tb_builder.proofs.Events.PagingLemmas.{calls_left}
use Rattle.tb_output.specs.State.{State}
use Rattle.tb_output.specs.Machine.{MachineView, state_shown}
use Rattle.tb_items.specs.declared.happenings.Happening.{Happening}
use Rattle.tb_items.specs.declared.items_left.ItemsLeft.{ItemsLeft}
use Rattle.tb_items.specs.ItemsLeft.{nodes_of, nodes_left, pieces_left, with_more, IsOpen}
use Rattle.tb_run.specs.declared.routine.Routine.{Routine}
use Rattle.tb_run.specs.Routine.{built_in, held_in, state_of, IsReady}
use Rattle.tb_run.specs.RoutinePages.{HasComeTo, IsSupplied}
use Rattle.tb_run.proofs.Turns.WholeLemmas.{built-shown}
use Rattle.tb_items.proofs.MoreEvents.{IsOpenPage, ahead-supplied, laid-supplied, come-supplied, open-supplied, may-take}
use Rattle.tb_run.proofs.Filling.ComingPages.{sized-asked}
use Rattle.tb_run.proofs.Filling.ComingLemmas.{IsComing, start, coming-same}
use Rattle.tb_run.proofs.Filling.FillingLemmas.{IsAskedFor, IsUnderway, state_now, left_of_page, turns_left}
use Rattle.tb_run.proofs.Filling.MoreLemmas.{IsOpenFor}
use Rattle.tb_run.proofs.Filling.PassingLemmas.{IsLastCall, last-call}
use Rattle.tb_run.proofs.Filling.AskedCalls.{asks, begun-behind, asked-behind, sized-behind, end-agrees}
use Rattle.tb_steps.specs.Run.{led_through, ask_for}

-- a call that found nothing more: with nothing behind, all is on the page
module _ (wanted : Bool) (r b d : Routine) (due : Ask) (hs : List Happening) (u : IsUnderway wanted r b due hs) (n : IsNext b.builder b.store (ask_for (state_of r)) events.Empty d.builder d.store) (same : d.machine ≡ b.machine) (most : d.most ≡ b.most)
    (l : ItemsLeft) (some : b.left ≡ Some l) where
  abbrev s : State
  s = state_of r

  abbrev ask : Ask
  ask = ask_for s

  abbrev more : List PlainNode
  more = nodes_of l

  ends : IsOpenPage (built_in b) ask
  ends = subst (λ o. IsOpenFor o (built_in b) ask) some u.ends

  event : EmptyIs (laid (built_in b) ask) (reach_ahead (built_in b) ask) (places_of (built_in b) ask) ask (built_in d) × KeepsBoxes (built_in b) (built_in d) ask
  event = by_stopped b.builder.stopped n.event
    where
      by_stopped : (t : Bool) → NextIs t events.Empty (built_in b) ask (built_in d) d.store → EmptyIs (laid (built_in b) ask) (reach_ahead (built_in b) ask) (places_of (built_in b) ask) ask (built_in d) × KeepsBoxes (built_in b) (built_in d) ask
      by_stopped true f = absurd f
      by_stopped false f = f

  going : b.builder.stopped ≡ false
  going = by_stopped b.builder.stopped n.event
    where
      by_stopped : (t : Bool) → NextIs t events.Empty (built_in b) ask (built_in d) d.store → t ≡ false
      by_stopped true f = absurd f
      by_stopped false f = refl

  pub takes-more : ends_in_kern (built_in d).page ≡ false
  takes-more = may-take (built_in b) (built_in d) ask more ends.ends event.1 event.0

  module _ (now : Routine) (sup : IsSupplied l d now) where
    abbrev supplied : Contents
    supplied = record (built_in d) { waiting = more }

    held-before : held_in b ≡ with_more more (built_in b)
    held-before = ap (λ o. with_more (nodes_left o) (built_in b)) some

    held-now : held_in now ≡ supplied
    held-now =
        ap (with_more (nodes_left now.left)) sup.contents
        ∙ ap (λ ns. record (built_in d) { waiting = ns }) (append_assoc (built_in d).waiting sup.nodes (nodes_left now.left) ∙ ap (λ ns. (built_in d).waiting ++ ns) sup.all ∙ ap (λ ns. ns ++ more) event.0.waiting)

    built-now : built_in now ≡ record (built_in d) { waiting = sup.nodes }
    built-now = sup.contents ∙ ap (λ ns. record (built_in d) { waiting = ns ++ sup.nodes }) event.0.waiting

    come-now : HasCome (start s) u.rs (held_in now) ask
    come-now =
        subst (λ c. HasCome (start s) u.rs c ask) (sym held-now)
        (come-supplied (built_in b) (built_in d) ask more ends.ends event.1 event.0 (start s) u.rs going (subst (λ c. HasCome (start s) u.rs c ask) held-before u.coming.come))

    laid-now : laid (held_in now) ask ≡ laid (held_in b) ask
    laid-now = ap (λ c. laid c ask) held-now ∙ laid-supplied (built_in b) (built_in d) ask more ends.ends event.1 event.0 ∙ sym (ap (λ c. laid c ask) held-before)

    state-same : state_now r now ≡ state_now r b
    state-same = sup.state s.boxes s.waiting ∙ ap (λ (m : MachineView). state_shown d.store s.boxes s.waiting m) same ∙ (built-shown b d u.whole n.keeps n.sound same).state s.boxes s.waiting

    ends-now : IsOpenFor now.left (built_in now) ask
    ends-now = by_left now.left sup.ends
      where
        by_left : (o : Option ItemsLeft) → IsOpen o sup.nodes → IsOpenFor o (built_in now) ask
        by_left None h = tt
        by_left (Some x) h = subst (λ c. IsOpenPage c ask) (sym built-now) (open-supplied (built_in b) (built_in d) ask more ends.ends event.1 event.0 sup.nodes h)

    abbrev t : State
    t = state_now r b

    frozen-before : (o : Option Ask) → now.builder.frozen ≡ o → d.builder.frozen ≡ o
    frozen-before o k = sym (ap (λ (c : Contents). c.frozen) sup.contents) ∙ k

    asked-now : IsAskedFor r now due
    asked-now = record {
      agrees = record {
        begun = λ f k. begun-behind t due ask (nodes_left b.left) b.builder b.store u.asked.agrees d.builder d.store events.Empty u.whole.builder n f (frozen-before (Some f) k);
        asked = λ none. asked-behind t due ask (nodes_left b.left) b.builder b.store u.asked.agrees d.builder d.store events.Empty u.whole.builder n going (frozen-before None none) ∙ ap asks (sym state-same);
        -- the acts that are still to come are those of the nodes that were left
        later = λ none.
            end-agrees t due ask (nodes_left b.left) b.builder b.store u.asked.agrees d.builder d.store events.Empty u.whole.builder n going refl (frozen-before None none)
            ∙ ap (λ o. asks (led_through (nodes_left o) t)) some
            ∙ (λ i. asks (led_through (sym held-now i).waiting (sym state-same i)));
      };
      sized = λ f k. sized-behind t due ask (nodes_left b.left) b.builder b.store u.asked.agrees d.builder d.store events.Empty u.whole.builder n (sized-asked t u.coming.runs u.whole.machine.goal) u.asked.sized f (frozen-before (Some f) k);
    }

    pub underway-supplied : IsUnderway wanted r now due hs
    underway-supplied = record {
      rs = u.rs;
      coming = subst (IsComing s u.rs (held_in now)) (sym state-same) (coming-same s u.rs (held_in b) (held_in now) (state_now r b) u.coming come-now laid-now);
      quiet = u.quiet;
      whole = sup.whole;
      taken = ap (λ (m : MachineView). m.events) (sup.machine ∙ same) ∙ u.taken;
      most = sup.most ∙ most ∙ u.most;
      left = λ none. let no : Some l ≡ None = sym some ∙ u.left none in cc;
      ends = ends-now;
      asked = asked-now;
    }

    -- as much of the page is left
    pub page-left : left_of_page r now ≡ left_of_page r b
    page-left =
        ap (λ (c : Contents). calls_left c.stopped (length (reach_ahead c ask).reached)) held-now
        ∙ ap (λ t. calls_left t (length (reach_ahead supplied ask).reached)) (event.0.stopped ∙ sym going)
        ∙ ap (λ w. calls_left b.builder.stopped (length w.reached)) (sym (ahead-supplied (built_in b) (built_in d) ask more ends.ends event.1 event.0))
        ∙ sym (ap (λ (c : Contents). calls_left c.stopped (length (reach_ahead c ask).reached)) held-before)

-- the same after places that were passed over
module _ (wanted : Bool) (r d : Routine) (due : Ask) (hs : List Happening) (ready : IsReady r) (ask : Ask) (asked : ask ≡ ask_for (state_of r)) (e : Event) (q : Routine) (h : IsUnderway wanted r q due hs) (c : HasComeTo wanted e ask q d) (is : e ≡ events.Empty) (l : ItemsLeft) (some : d.left ≡ Some l) where
  abbrev last : IsLastCall wanted r due ask e d hs (left_of_page r q)
  last = last-call wanted r d due hs ready ask asked e q h c

  next : IsNext last.before.builder last.before.store (ask_for (state_of r)) events.Empty d.builder d.store
  next = subst (λ a. IsNext last.before.builder last.before.store a events.Empty d.builder d.store) asked (subst (λ v. IsNext last.before.builder last.before.store ask v d.builder d.store) is last.next)

  pub come-takes : ends_in_kern (built_in d).page ≡ false
  come-takes = takes-more wanted r last.before d due hs last.underway next last.machine last.most l (sym last.left ∙ some)

  module _ (now : Routine) (sup : IsSupplied l d now) where
    pub come-supplied-so : IsUnderway wanted r now due hs
    come-supplied-so = underway-supplied wanted r last.before d due hs last.underway next last.machine last.most l (sym last.left ∙ some) now sup

    pub come-fewer-left : turns_left r now < turns_left r q
    come-fewer-left =
        let same = page-left wanted r last.before d due hs last.underway next last.machine last.most l (sym last.left ∙ some) now sup in
        let k = last.fewer in
        let f = sup.fewer in
        let g = ap pieces_left (sym c.left ∙ some) in
        omega (arith, same, k, f, g)
