-- Nothing waits any more while items are left: some are handed over, and the page goes on.
use Rattle.std.proofs.Common.{◌≡◌, refl, sym, subst, ◌∙◌, ap, ◌+◌, ◌*◌, ◌<◌, Bool, true, false, List, ◌++◌, length, Option, None, Some, append_assoc, arith}
use Rattle.std.proofs.lemmas.List.{length-append}
use Rattle.tb_node.specs.PlainNodes.{PlainNode}
use Rattle.tb_insert.specs.declared.Class.{Class}
use Rattle.tb_param.specs.declared.Params.{Params}
use Rattle.tb_builder.specs.declared.Ask.{Ask}
use Rattle.tb_builder.specs.declared.Event.TheVariants as events
use Rattle.tb_builder.specs.Contents.{Contents, laid, reach_ahead, places_of}
use Rattle.tb_builder.specs.Contributions.{ends_in_kern}
use Rattle.tb_builder.specs.PageCalls.{IsNext}
use Rattle.tb_builder.specs.PageEvents.{NextIs, EmptyIs, KeepsBoxes}
use Rattle.tb_builder.specs.PageProgress.{HasCome}
use Rattle.tb_builder.specs.PassedNodes.{ComesPast}
use Rattle.tb_builder.proofs.Turns.PastLemmas.{past-after}
use Rattle.tb_builder.proofs.Events.PagingLemmas.{calls_left}
use Rattle.tb_items.specs.declared.happenings.Happening.{Happening}
use Rattle.tb_items.specs.WaitingNodes.{AreItems}
use Rattle.tb_items.specs.ItemsLeft.{with_more}
use Rattle.tb_items.proofs.MoreEvents.{IsOpenPage, laid-supplied, come-supplied, open-supplied, may-take}
use Rattle.tb_plain.specs.Run.{builder_holds, makeup_ask, makeup_classes, act_count}
use Rattle.tb_plain.proofs.StepLemmas.{acts-append}
use Rattle.tb_makeup.specs.declared.makeup.Makeup.{Makeup}
use Rattle.tb_makeup.specs.declared.makeup_left.MakeupLeft.{MakeupLeft}
use Rattle.tb_makeup.specs.MakeupLeft.{nodes_of, nodes_left, pieces_left, AreItemsLeft, IsOpen}
use Rattle.tb_makeup.specs.Makeup.{built_in, held_in, IsReady}
use Rattle.tb_makeup.specs.MakeupPages.{Continues, IsSupplied}
use Rattle.tb_makeup.proofs.Filled.MoreLemmas.{IsOpenFor, next-past}
use Rattle.tb_makeup.proofs.Filled.UnderwayLemmas.{IsUnderway, rounds_left}

-- a call that found nothing more: with nothing behind, all is on the page
module _ (wanted : Bool) (r b d : Makeup) (hs : List Happening) (ready : IsReady r) (u : IsUnderway wanted r b hs) (n : IsNext b.builder b.store b.ask events.Empty d.builder d.store) (same : Continues b d) (left : d.left ≡ b.left)
    (l : MakeupLeft) (some : d.left ≡ Some l) where
  abbrev p : Params
  p = r.plain.params

  abbrev ask : Ask
  ask = makeup_ask p

  abbrev more : List PlainNode
  more = nodes_of l

  asked : b.ask ≡ ask
  asked = u.same.ask ∙ ready.ask

  some-before : b.left ≡ Some l
  some-before = sym left ∙ some

  ends : IsOpenPage (built_in b) ask
  ends = (subst (λ o. IsOpenFor o (built_in b) ask) some-before u.ends).0

  event : EmptyIs (laid (built_in b) ask) (reach_ahead (built_in b) ask) (places_of (built_in b) ask) ask (built_in d) × KeepsBoxes (built_in b) (built_in d) ask
  event = by_stopped b.builder.stopped (subst (λ a. NextIs b.builder.stopped events.Empty (built_in b) a (built_in d) d.store) asked n.event)
    where
      by_stopped : (t : Bool) → NextIs t events.Empty (built_in b) ask (built_in d) d.store → EmptyIs (laid (built_in b) ask) (reach_ahead (built_in b) ask) (places_of (built_in b) ask) ask (built_in d) × KeepsBoxes (built_in b) (built_in d) ask
      by_stopped true f = absurd f
      by_stopped false f = f

  going : b.builder.stopped ≡ false
  going = by_stopped b.builder.stopped n.event
    where
      by_stopped : (t : Bool) → NextIs t events.Empty (built_in b) b.ask (built_in d) d.store → t ≡ false
      by_stopped true f = absurd f
      by_stopped false f = refl

  pub takes-more : ends_in_kern (built_in d).page ≡ false
  takes-more = may-take (built_in b) (built_in d) ask more ends.ends event.1 event.0

  -- the builder can take them
  pub takes-items : AreItems (built_in d).classes l.items.now
  takes-items =
      subst (λ (cs : List Class). AreItems cs l.items.now) (sym (event.1.classes ∙ u.coming.come.stays.classes))
      (subst (AreItemsLeft (makeup_classes p)) some-before u.items)

  module _ (now : Makeup) (sup : IsSupplied l d now) where
    abbrev supplied : Contents
    supplied = record (built_in d) { waiting = more }

    held-before : held_in b ≡ with_more more (built_in b)
    held-before = ap (λ o. with_more (nodes_left o) (built_in b)) some-before

    -- what waits behind all that is on the page
    held-so : held_in now ≡ with_more more (built_in d)
    held-so =
        ap (with_more (nodes_left now.left)) sup.contents
        ∙ ap (λ ns. record (built_in d) { waiting = ns }) (append_assoc (built_in d).waiting sup.nodes (nodes_left now.left) ∙ ap (λ ns. (built_in d).waiting ++ ns) sup.all)

    held-now : held_in now ≡ supplied
    held-now = held-so ∙ ap (λ ns. record (built_in d) { waiting = ns ++ more }) event.0.waiting

    built-now : built_in now ≡ record (built_in d) { waiting = sup.nodes }
    built-now = sup.contents ∙ ap (λ ns. record (built_in d) { waiting = ns ++ sup.nodes }) event.0.waiting

    come-now : HasCome (builder_holds p u.s) (u.coming.first ++ u.coming.new) (held_in now) ask
    come-now =
        subst (λ c. HasCome (builder_holds p u.s) (u.coming.first ++ u.coming.new) c ask) (sym held-now)
        (come-supplied (built_in b) (built_in d) ask more ends.ends event.1 event.0 (builder_holds p u.s) (u.coming.first ++ u.coming.new) going
        (subst (λ c. HasCome (builder_holds p u.s) (u.coming.first ++ u.coming.new) c ask) held-before u.coming.come))

    laid-now : laid (held_in now) ask ≡ laid (held_in b) ask
    laid-now = ap (λ c. laid c ask) held-now ∙ laid-supplied (built_in b) (built_in d) ask more ends.ends event.1 event.0 ∙ sym (ap (λ c. laid c ask) held-before)

    past-d : ComesPast (held_in d).waiting (held_in b) (held_in d) ask
    past-d = subst (λ a. ComesPast (held_in d).waiting (held_in b) (held_in d) a) asked (next-past b d events.Empty n left (subst (IsOpenFor b.left (built_in b)) (sym asked) u.ends) going)

    -- all that waited went to the page
    past-now : ComesPast (held_in now).waiting (builder_holds p u.s) (held_in now) ask
    past-now =
        subst (λ c. ComesPast c.waiting (builder_holds p u.s) c ask) (ap (λ o. with_more (nodes_left o) (built_in d)) some ∙ sym held-so)
        (past-after (held_in d).waiting (builder_holds p u.s) (held_in b) (held_in d) ask (u.coming.past going) past-d)

    ends-now : IsOpenFor now.left (built_in now) ask
    ends-now = by_left now.left sup.ends
      where
        by_left : (o : Option MakeupLeft) → IsOpen o sup.nodes → IsOpenFor o (built_in now) ask
        by_left None h = tt
        by_left (Some x) h = subst (λ c. IsOpenFor (Some x) c ask) (sym built-now) (open-supplied (built_in b) (built_in d) ask more ends.ends event.1 event.0 sup.nodes h, λ on. h)

    pub underway-supplied : IsUnderway wanted r now hs
    underway-supplied = record {
      s = u.s;
      ts = u.ts;
      us = u.us;
      takes = u.takes;
      coming = record { first = u.coming.first; new = u.coming.new; begun = u.coming.begun; come = come-now; front = u.coming.front; tried = u.coming.tried; are = u.coming.are; all = laid-now ∙ u.coming.all; past = λ on. past-now };
      noted = u.noted;
      sound = sup.sound;
      same = record { plain = sup.same.plain ∙ same.plain ∙ u.same.plain; ask = sup.same.ask ∙ same.ask ∙ u.same.ask; limit = sup.same.limit ∙ same.limit ∙ u.same.limit; bound = sup.same.bound ∙ same.bound ∙ u.same.bound };
      items = sup.items (makeup_classes p) (subst (AreItemsLeft (makeup_classes p)) some-before u.items);
      ends = ends-now;
    }

    -- no more calls are left, and fewer batches
    pub fewer-supplied : rounds_left now < rounds_left b
    fewer-supplied =
        let on = ap (λ (c : Contents). c.stopped) held-now ∙ event.0.stopped in
        let w1 = ap (λ (c : Contents). length c.waiting) held-now in
        let w2 = ap (λ (c : Contents). act_count c.waiting) held-now in
        let v1 = ap (λ (c : Contents). length c.waiting) held-before ∙ length-append (built_in b).waiting more in
        let v2 = ap (λ (c : Contents). act_count c.waiting) held-before ∙ acts-append (built_in b).waiting more in
        let f = sup.fewer in
        let g = ap pieces_left some-before in
        subst (λ t. calls_left t (length (held_in now).waiting + 5 * act_count (held_in now).waiting) + pieces_left now.left < rounds_left b) (sym on)
        (subst (λ t. length (held_in now).waiting + 5 * act_count (held_in now).waiting + 1 + pieces_left now.left < calls_left t (length (held_in b).waiting + 5 * act_count (held_in b).waiting) + pieces_left b.left) (sym going) (omega (arith, w1, w2, v1, v2, f, g)))
