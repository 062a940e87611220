-- The page makeup while a page is filled.
use Rattle.std.proofs.Common.{◌≡◌, inl, inr, refl, sym, ◌∙◌, ap, subst, ℕ, ◌+◌, ◌*◌, ◌<◌, ◌≤◌, Bool, true, false, List, [], ◌∷◌, ◌++◌, length, map, Option, None, Some, append_assoc, arith}
use Rattle.std.specs.Prelude.{All, ◌⊎◌}
use Rattle.std.proofs.lemmas.Int.{ints}
use Rattle.std.proofs.lemmas.Bool.{true≢false}
use Rattle.std.proofs.lemmas.List.Elements.{All-from_recursion}
use Rattle.std.proofs.lemmas.List.{append-nil, length-append}
use Rattle.tb_pool.specs.Lists.{list_at}
use Rattle.tb_node.specs.declared.Act.{Act}
use Rattle.tb_node.specs.declared.Kind.{Kind}
use Rattle.tb_node.specs.declared.Kind.TheVariants as kinds
use Rattle.tb_node.specs.declared.Node.{Node}
use Rattle.tb_node.specs.PlainNodes.{PlainNode, act, plain_of, plain_kind, plain_list}
use Rattle.tb_param.specs.declared.Params.{Params}
use Rattle.tb_builder.specs.declared.Ask.{Ask}
use Rattle.tb_builder.specs.declared.Event.{Event}
use Rattle.tb_builder.specs.declared.Event.TheVariants as events
use Rattle.tb_builder.specs.declared.Page.{Page}
use Rattle.tb_builder.specs.declared.PageSums.{PageSums}
use Rattle.tb_builder.specs.declared.Try.{Try}
use Rattle.tb_builder.specs.Reach.{Reached, laid_out}
use Rattle.tb_builder.specs.FiredPages.{Fired}
use Rattle.tb_builder.specs.Contents.{Contents, node_count, box_count}
use Rattle.tb_builder.specs.SizedContents.{fired_count}
use Rattle.tb_builder.specs.Contributions.{ends_in_kern, with_void}
use Rattle.tb_builder.specs.PageEvents.{NextFits, IsGivenOut, after_fired}
use Rattle.tb_builder.specs.PageProgress.{ComesToTry, ComesToAct, ComesToEnd, ComesToPage, ComesTo, IsNextOfPage}
use Rattle.tb_builder.specs.Ownership.{ids_of, has_class}
use Rattle.tb_builder.specs.Pageable.{IsSizedOnPage, IsSizedBox}
use Rattle.tb_builder.specs.LegalPlaces.{NoActs}
use Rattle.tb_builder.specs.PassedNodes.{ComesPast, EventPast}
use Rattle.tb_builder.specs.Courses.{IsSound}
use Rattle.tb_builder.specs.PageSums.{sums_by, page_sums_of}
use Rattle.tb_builder.proofs.Ranges.SizedLemmas.{FiredSized}
use Rattle.tb_builder.proofs.Ownership.StoreSized.{list-back, list-length}
use Rattle.tb_builder.proofs.Events.PagingLemmas.{calls_left}
use Rattle.tb_builder.proofs.Events.WholeLemmas.{IsMatterKind, AreMatter}
use Rattle.tb_column.specs.Page.{is_leaf_kind, AreLeaves}
use Rattle.tb_items.specs.declared.happenings.Happening.{Happening}
use Rattle.tb_items.specs.Happenings.{noted_try}
use Rattle.tb_items.specs.ItemsLeft.{kern_last, with_more}
use Rattle.tb_items.proofs.OpenLemmas.{kern-both}
use Rattle.tb_items.proofs.MoreEvents.{fits-front, open-laid, open-start}
use Rattle.tb_plain.specs.declared.Plain.{Plain}
use Rattle.tb_plain.specs.TakenFloats.{act_nodes}
use Rattle.tb_plain.specs.Run.{MakeupState, try_events, step_tries, step_events, run_after, firing_step, builder_holds, makeup_ask, makeup_classes, act_count, ejecting_nodes, waiting_after}
use Rattle.tb_plain.specs.MakeupCalls.{IsTake, CanAct, HasActed}
use Rattle.tb_plain.proofs.StepLemmas.{acts-append, put-acts, ejected-fires}
use Rattle.tb_makeup.specs.declared.makeup.Makeup.{Makeup}
use Rattle.tb_makeup.specs.declared.makeup_left.MakeupLeft.{MakeupLeft}
use Rattle.tb_makeup.specs.LedActs.{ActsAreLed}
use Rattle.tb_makeup.specs.MakeupLeft.{nodes_left, pieces_left, AreItemsLeft, IsOpen}
use Rattle.tb_makeup.specs.Makeup.{built_in, held_in, state_of, node_total, Phase, begins, ejects, AreRunNodes, AreAfter, IsOpenAtStart, IsReady, run_at}
use Rattle.tb_makeup.specs.MakeupPages.{fired_whole, Continues, noted_tries, Takes, HasGrown, IsFiring, IsOver}
use Rattle.tb_makeup.proofs.Filled.RunLemmas.{run-goes, run-append}
use Rattle.tb_makeup.proofs.Filled.TriedLemmas.{none-tried, tries-noted, turn-parts}
use Rattle.tb_makeup.proofs.Filled.LedLemmas.{EndsLed, led-ends, led-no-kern, led-open}
use Rattle.tb_makeup.proofs.Filled.HoldLemmas.{holds-more}
use Rattle.tb_makeup.proofs.Filled.MoreLemmas.{IsOpenFor}
use Rattle.tb_makeup.proofs.Filled.ComingLemmas.{IsComing, coming-start, coming-tried, acted-past, acted-tries, acted-step, acted-state, over-tries, over-step, over-fires, over-past, fires-tries, fires-step}
use Rattle.tb_makeup.proofs.Filled.FillLemmas.{zero-extent, zero-dimension, run-fits, laid-sized, laid-count, none-laid, acted-nodes, acted-total, acted-acts, acted-takes, put-few}
use Rattle.tb_makeup.proofs.Shipping.FiredLemmas.{labels, void-after, fired, fired-sized, fired-few, fired-text, fired-after, Grows, fired-grows}

-- ---- so far

-- floats were taken up to a state, while places were tried, and the builder is on its page; the places are noted
pub record IsUnderway (wanted : Bool) (r q : Makeup) (hs : List Happening) : Type 0 where
  pub s : MakeupState
  pub ts : List Try
  pub us : List Try
  pub takes : Takes r ts s
  pub coming : IsComing r.plain.params s us (held_in q)
  pub noted : hs ≡ noted_tries wanted (ts ++ us)
  pub sound : IsSound q.builder q.store
  pub same : Continues r q
  pub items : AreItemsLeft (makeup_classes r.plain.params) q.left
  pub ends : IsOpenFor q.left (built_in q) (makeup_ask r.plain.params)

-- calls of the builder that are left, at most
abbrev pub left_of_page : Makeup → ℕ
left_of_page q = calls_left (held_in q).stopped (length (held_in q).waiting + 5 * act_count (held_in q).waiting)

-- the same, and the batches that are handed over
abbrev pub rounds_left : Makeup → ℕ
rounds_left q = left_of_page q + pieces_left q.left

start-phase : (s : MakeupState) → Phase s → (s.page ≡ []) ⊎ (s.waiting ≡ ejecting_nodes)
start-phase s (begins e few) = inl e
start-phase s (ejects e) = inr e

-- what is left changes nothing on the page that begins
start-open : (o : Option MakeupLeft) (c : Contents) (ask : Ask) → c.stopped ≡ false → IsOpenAtStart o c → IsOpenFor o c ask
start-open None c ask going h = tt
start-open (Some l) c ask going h = (open-start c ask h.0 going h.1, λ on. h.1)

pub underway-start : (wanted : Bool) (r : Makeup) (hs : List Happening) → IsReady r → hs ≡ [] → IsUnderway wanted r r hs
underway-start wanted r hs h none = record {
  s = state_of r;
  ts = [];
  us = [];
  takes = record { run = refl; nodes = h.nodes; total = omega arith; acts = omega arith; number = refl; phase = start-phase (state_of r) h.phase };
  coming = coming-start r.plain.params (state_of r) r.builder r.store r.left h.sound h.holds open_now;
  noted = none ∙ none-tried wanted;
  sound = h.sound;
  same = record { plain = refl; ask = refl; limit = refl; bound = refl };
  items = h.items;
  ends = open_now;
}
  where
    open_now : IsOpenFor r.left (built_in r) (makeup_ask r.plain.params)
    open_now = start-open r.left (built_in r) (makeup_ask r.plain.params) (ap (λ (c : Contents). c.stopped) h.holds) h.ends

-- ---- nodes of a page

matter-leaf : (held : ℕ → List Node) (k : Kind) → IsMatterKind (plain_kind held k) → is_leaf_kind k
matter-leaf held (kinds.Ins i) t = absurd t
matter-leaf held (kinds.Act a) t = absurd t
matter-leaf held k t = tt

matter-leaves : (held : ℕ → List Node) (ns : List Node) → AreMatter (map (plain_of held) ns) → AreLeaves ns
matter-leaves held [] h = tt
matter-leaves held (n ∷ ns) h = (matter-leaf held n.kind h.0, matter-leaves held ns h.1)

ejecting-sized : All IsSizedOnPage ejecting_nodes
ejecting-sized = All-from_recursion IsSizedOnPage ejecting_nodes (
  record { shape = (zero-extent, zero-extent); kind = tt },
  (
    record { shape = (zero-dimension, record { low = omega (arith, ints); high = omega (arith, ints) }, zero-dimension); kind = tt },
    (record { shape = record { low = omega (arith, ints); high = omega (arith, ints) }; kind = tt }, tt),
  ),
)

-- what waits is of no account to the sums of a page
sums-behind : (o : Option Ask) (c : Contents) (more : List PlainNode) → sums_by o (with_more more c) ≡ sums_by o c
sums-behind None c more = refl
sums-behind (Some f) c more = refl

-- ---- the next event

module _ (wanted : Bool) (r q d : Makeup) (hs : List Happening) (ready : IsReady r) (h : IsUnderway wanted r q hs) where
  abbrev p : Params
  p = r.plain.params

  asked : q.ask ≡ makeup_ask p
  asked = h.same.ask ∙ ready.ask

  -- all that is added up fits
  pub underway-fits : NextFits (built_in q) q.ask
  underway-fits = fits-front (built_in q) q.ask (nodes_left q.left) (subst (NextFits (held_in q)) (sym asked) (run-fits p ready.params.makeup h.s (held_in q) h.takes.nodes h.coming.come.stays h.coming.all))

  pub underway-none : (built_in q).held ≡ []
  underway-none = h.coming.come.stays.held

  abbrev seen : List Reached
  seen = h.coming.first ++ h.coming.new

  module _ (e : Event) (of_page : IsNextOfPage e (held_in q) q.ask (held_in d) d.store) (past : q.builder.stopped ≡ false → EventPast e (held_in q) (held_in d) q.ask) (sound : IsSound d.builder d.store) (same : Continues q d) (left : d.left ≡ q.left) where
    next-is : (f : Event) → e ≡ f → ComesTo f (builder_holds p h.s) seen (held_in q) (makeup_ask p) (held_in d) d.store
    next-is f is = subst (λ x. IsNextOfPage f (held_in q) x (held_in d) d.store) asked (subst (λ x. IsNextOfPage x (held_in q) q.ask (held_in d) d.store) is of_page) (builder_holds p h.s) seen h.coming.come

    past-is : (f : Event) → e ≡ f → q.builder.stopped ≡ false → EventPast f (held_in q) (held_in d) (makeup_ask p)
    past-is f is on = subst (λ x. EventPast f (held_in q) (held_in d) x) asked (subst (λ x. EventPast x (held_in q) (held_in d) q.ask) is (past on))

    items-now : AreItemsLeft (makeup_classes p) d.left
    items-now = subst (AreItemsLeft (makeup_classes p)) (sym left) h.items

    continues : Continues r d
    continues = record { plain = same.plain ∙ h.same.plain; ask = same.ask ∙ h.same.ask; limit = same.limit ∙ h.same.limit; bound = same.bound ∙ h.same.bound }

    -- ---- a place was tried

    module _ (x : Try) (is : e ≡ events.Try x) where
      tries : ComesToTry x (builder_holds p h.s) seen (held_in q) (makeup_ask p) (held_in d)
      tries = next-is (events.Try x) is

      on : q.builder.stopped ≡ false
      on = tries.going

      pub underway-tried : IsOpenFor d.left (built_in d) q.ask → (new : List Happening) → new ≡ hs ++ noted_try wanted x → IsUnderway wanted r d new
      underway-tried open_so new same_new = record {
        s = h.s;
        ts = h.ts;
        us = h.us ++ x ∷ [];
        takes = h.takes;
        coming = coming-tried p h.s h.us (held_in q) h.coming (held_in d) x tries (past-is (events.Try x) is on);
        noted =
            same_new
            ∙ ap (λ ks. ks ++ noted_try wanted x) h.noted
            ∙ tries-noted wanted (h.ts ++ h.us) x
            ∙ ap (noted_tries wanted) (append_assoc h.ts h.us (x ∷ []));
        sound = sound;
        same = continues;
        items = items-now;
        ends = subst (IsOpenFor d.left (built_in d)) asked open_so;
      }

      pub fewer-tried : left_of_page d < left_of_page q
      fewer-tried = subst (λ b. left_of_page d < calls_left b (length (held_in q).waiting + 5 * act_count (held_in q).waiting)) (sym on) (by_stop d.builder.stopped refl)
        where
          by_stop : (b : Bool) → d.builder.stopped ≡ b → calls_left b (length (held_in d).waiting + 5 * act_count (held_in d).waiting) < length (held_in q).waiting + 5 * act_count (held_in q).waiting + 1
          by_stop true e = omega arith
          by_stop false e =
              let t = past-is (events.Try x) is on e in
              let l = t.shorter in
              let a = ap act_count t.comes.is.waiting ∙ acts-append t.comes.before (held_in d).waiting in
              omega (arith, l, a)

    -- ---- an act was reached

    module _ (a : Act) (is : e ≡ events.Act a) where
      acts : ComesToAct a (builder_holds p h.s) seen (held_in q) (makeup_ask p) (held_in d)
      acts = next-is (events.Act a) is

      on-act : q.builder.stopped ≡ false
      on-act = acts.going

      abbrev line : ℕ
      line = (past-is (events.Act a) is on-act).line

      abbrev came : ComesPast (record { line = line; kind = act a } ∷ (held_in d).waiting) (builder_holds p h.s) (held_in d) (makeup_ask p)
      came = acted-past p h.s h.us (held_in q) h.coming (held_in d) a acts (past-is (events.Act a) is on-act)

      holding : held_in d ≡ builder_holds p (record h.s { page = laid_out p.topskip h.s.page came.before; waiting = (held_in d).waiting })
      holding = acted-state p h.s h.us (held_in q) h.coming (held_in d) a acts (past-is (events.Act a) is on-act) d.builder d.store (nodes_left d.left) refl sound

      abbrev sums : PageSums
      sums = page_sums_of (builder_holds p (record h.s { page = laid_out p.topskip h.s.page came.before; waiting = (held_in d).waiting }))

      abbrev put : List PlainNode
      put = act_nodes p sums a

      abbrev now : MakeupState
      now = record h.s { page = laid_out p.topskip h.s.page came.before; waiting = put ++ (held_in d).waiting }

      pub act-takes : IsTake a
      act-takes = acted-takes p ready.params.makeup h.s h.takes.nodes came.before (held_in d).waiting line a came.is.waiting came.is.no_acts (page_sums_of (held_in d))

      ends-led : EndsLed came.before
      ends-led = led-ends came.before line a (held_in d).waiting (subst (ActsAreLed false) came.is.waiting h.takes.nodes.led)

      pub act-can : CanAct d.builder d.store
      act-can = record {
        sound = sound;
        going = acts.stop;
        no_kern = ap ends_in_kern came.is.page ∙ led-no-kern p.topskip h.s.page came.before ends-led;
        known = ap (λ cs. has_class cs 253) acts.come.stays.classes;
      }

      one-number : 1 ≤ h.s.number
      one-number = let f = ready.plain.first in let g = h.takes.number in omega (arith, f, g)

      no-eject : h.s.waiting ≡ ejecting_nodes → ⊥
      no-eject e =
          let b = ap act_count (sym e ∙ came.is.waiting) ∙ acts-append came.before (record { line = line; kind = act a } ∷ (held_in d).waiting) in
          omega (arith, b)

      still-phase : ((state_of r).page ≡ []) ⊎ (h.s.waiting ≡ ejecting_nodes) → ((state_of r).page ≡ []) ⊎ (now.waiting ≡ ejecting_nodes)
      still-phase (inl e) = inl e
      still-phase (inr e) = absurd (no-eject e)

      -- it was done
      module _ (f : Makeup) (acted : HasActed d.plain.params a d.builder d.store f.builder f.store) (kept : Continues d f) (f_left : f.left ≡ d.left) (open_so : IsOpenFor d.left (built_in d) q.ask) where
        sums-same : page_sums_of (built_in d) ≡ page_sums_of (builder_holds p (record h.s { page = laid_out p.topskip h.s.page came.before; waiting = (held_in d).waiting }))
        sums-same = sym (sums-behind (built_in d).frozen (built_in d) (nodes_left d.left)) ∙ ap page_sums_of holding

        put-same : act_nodes d.plain.params (page_sums_of (built_in d)) a ≡ put
        put-same = (λ i. act_nodes (ap (λ (x : Plain). x.params) continues.plain i) (sums-same i) a)

        built-now : built_in f ≡ record (built_in d) { waiting = put ++ (built_in d).waiting }
        built-now = acted.contents ∙ (λ i. record (built_in d) { waiting = put-same i ++ (built_in d).waiting })

        holds-now : held_in f ≡ builder_holds p now
        holds-now =
            (λ i. with_more (nodes_left (f_left i)) (built-now i))
            ∙ ap (λ ns. record (built_in d) { waiting = ns }) (append_assoc put (built_in d).waiting (nodes_left d.left))
            ∙ ap (λ (c : Contents). record c { waiting = put ++ (held_in d).waiting }) holding

        open-put : (o : Option MakeupLeft) → IsOpenFor o (built_in d) q.ask → IsOpenFor o (record (built_in d) { waiting = put ++ (built_in d).waiting }) (makeup_ask p)
        open-put None k = tt
        open-put (Some l) k =
            let waits : kern_last false (put ++ (built_in d).waiting) ≡ false = kern-both false put (built_in d).waiting ∙ ap (λ b. kern_last b (built_in d).waiting) (put-few p sums a act-takes).ends ∙ k.1 acts.stop in (
              record {
                ends = open-laid (record (built_in d) { waiting = put ++ (built_in d).waiting }) (makeup_ask p) (ap (kern_last false) came.is.page ∙ led-open p.topskip h.s.page came.before ends-led) waits;
                stop = λ off. absurd (true≢false (sym off ∙ acts.stop));
              },
              λ on. waits,
            )

        open-now : IsOpenFor f.left (built_in f) (makeup_ask p)
        open-now = subst (λ c. IsOpenFor f.left c (makeup_ask p)) (sym built-now) (subst (λ o. IsOpenFor o (record (built_in d) { waiting = put ++ (built_in d).waiting }) (makeup_ask p)) (sym f_left) (open-put d.left open_so))

        tried_so : step_tries p h.s ≡ h.us
        tried_so = acted-tries p h.s h.us (held_in q) h.coming (held_in d) a acts (past-is (events.Act a) is on-act)

        pub underway-acted : IsUnderway wanted r f hs
        underway-acted = record {
          s = now;
          ts = h.ts ++ h.us;
          us = [];
          noted = h.noted ∙ ap (noted_tries wanted) (sym (append-nil (h.ts ++ h.us)));
          takes = record {
            run =
                h.takes.run
                ∙ ap (run_after (try_events h.ts)) (run-goes p h.s now [] one-number one-number (acted-step p h.s h.us (held_in q) h.coming (held_in d) a acts (past-is (events.Act a) is on-act)))
                ∙ sym (run-append (try_events h.ts) (step_events (step_tries p h.s) []) (run_at p now))
                ∙ ap (λ es. run_after es (run_at p now)) (turn-parts h.ts (step_tries p h.s) [] ∙ append-nil (try_events (h.ts ++ step_tries p h.s)) ∙ ap (λ us. try_events (h.ts ++ us)) tried_so);
            nodes = acted-nodes p ready.params.makeup h.s h.takes.nodes came.before (held_in d).waiting line a came.is.waiting came.is.no_acts sums;
            total = (let b = acted-total p ready.params.makeup h.s h.takes.nodes came.before (held_in d).waiting line a came.is.waiting came.is.no_acts sums in let t = h.takes.total in omega (arith, b, t));
            acts = (let b = acted-acts p ready.params.makeup h.s h.takes.nodes came.before (held_in d).waiting line a came.is.waiting came.is.no_acts sums in let t = h.takes.acts in omega (arith, b, t));
            number = h.takes.number;
            phase = still-phase h.takes.phase;
          };
          coming = coming-start p now f.builder f.store f.left acted.sound holds-now open-now;
          sound = acted.sound;
          same = record { plain = kept.plain ∙ continues.plain; ask = kept.ask ∙ continues.ask; limit = kept.limit ∙ continues.limit; bound = kept.bound ∙ continues.bound };
          items = subst (AreItemsLeft (makeup_classes p)) (sym f_left) items-now;
          ends = open-now;
        }

        pub fewer-acted : left_of_page f < left_of_page q
        fewer-acted =
            subst (λ b. calls_left b (length (held_in f).waiting + 5 * act_count (held_in f).waiting) < left_of_page q) (sym (ap (λ (x : Contents). x.stopped) holds-now))
            (subst (λ b. length (held_in f).waiting + 5 * act_count (held_in f).waiting + 1 < calls_left b (length (held_in q).waiting + 5 * act_count (held_in q).waiting)) (sym on-act)
            (let t = (past-is (events.Act a) is on-act).comes in
            let w1 = ap (λ (x : Contents). length x.waiting) holds-now ∙ length-append put (held_in d).waiting in
            let w2 = ap (λ (x : Contents). act_count x.waiting) holds-now ∙ acts-append put (held_in d).waiting in
            let w3 = put-acts p sums a in
            let w4 = (put-few p sums a act-takes).length_is in
            let v1 = ap length t.is.waiting ∙ length-append t.before (record { line = line; kind = act a } ∷ (held_in d).waiting) in
            let v2 = ap act_count t.is.waiting ∙ acts-append t.before (record { line = line; kind = act a } ∷ (held_in d).waiting) in
            omega (arith, w1, w2, w3, w4, v1, v2)))

    -- ---- nothing waits any more

    module _ (is : e ≡ events.Empty) (none : d.left ≡ None) where
      ends : ComesToEnd (builder_holds p h.s) seen (held_in q) (makeup_ask p) (held_in d)
      ends = next-is events.Empty is

      on-over : q.builder.stopped ≡ false
      on-over = ends.going

      none-waits : (held_in d).waiting ≡ []
      none-waits = ends.waiting

      abbrev over-came : ComesPast (held_in d).waiting (builder_holds p h.s) (held_in d) (makeup_ask p)
      over-came = over-past p h.s h.us (held_in q) h.coming (held_in d) ends (past-is events.Empty is on-over)

      all-came : h.s.waiting ≡ over-came.before
      all-came = over-came.is.waiting ∙ ap (λ ns. over-came.before ++ ns) none-waits ∙ append-nil over-came.before

      over-begun : ((state_of r).page ≡ []) ⊎ (h.s.waiting ≡ ejecting_nodes) → (state_of r).page ≡ []
      over-begun (inl x) = x
      over-begun (inr x) = absurd (true≢false (sym (ejected-fires p h.s x) ∙ over-fires p h.s h.us (held_in q) h.coming (held_in d) ends))

      page-is : (held_in d).page ≡ laid_out p.topskip h.s.page over-came.before
      page-is = over-came.is.page

      over-nodes : node_total h.s + 10 ≤ 7500000 → AreRunNodes (record h.s { page = (held_in d).page; waiting = ejecting_nodes })
      over-nodes room =
          let nodes = h.takes.nodes in
          let m = ready.params.makeup in
          let sized : All IsSizedOnPage over-came.before = subst (All IsSizedOnPage) all-came nodes.waiting in
          let b = laid-count p.topskip h.s.page over-came.before in
          let c = ap node_count all-came in
          let e = ap node_count page-is in
          record {
            page = subst (All IsSizedOnPage) (sym page-is) (laid-sized p.topskip h.s.page over-came.before m.topskip nodes.page sized);
            waiting = ejecting-sized;
            quiet = subst NoActs (sym page-is) (none-laid p.topskip h.s.page over-came.before nodes.quiet over-came.is.no_acts);
            led = (tt, (tt, (tt, tt)));
            acts = omega arith;
            few = omega (arith, room, b, c, e);
          }

      over-grown : node_total (record h.s { page = (held_in d).page; waiting = ejecting_nodes }) ≤ node_total (state_of r) + 4
      over-grown =
          let b = laid-count p.topskip h.s.page over-came.before in
          let c = ap node_count all-came in
          let e = ap node_count page-is in
          let t = h.takes.total in
          omega (arith, b, c, e, t)

      begun-room : Phase (state_of r) → (state_of r).page ≡ [] → node_total (state_of r) + 10 ≤ 7500000
      begun-room (begins e few) x = few
      begun-room (ejects e) x = let c = ap node_count e in let g = ap act_count e in let k = ap node_count x in omega (arith, c, g, k)

      pub filled-over : IsOver wanted r d hs
      filled-over =
          let begun = over-begun h.takes.phase in
          let room = begun-room ready.phase begun in
          let t = h.takes.total in
          record {
            s = h.s;
            ts = h.ts;
            takes = h.takes;
            noted = h.noted ∙ ap (λ us. noted_tries wanted (h.ts ++ us)) (sym (over-tries p h.s h.us (held_in q) h.coming (held_in d) ends));
            begun = begun;
            step = over-step p h.s h.us (held_in q) h.coming (held_in d) ends;
            holds =
                holds-more p h.s d.builder d.store (nodes_left d.left) h.s.number sound ends.stop ends.stays
                ∙ ap (λ ns. builder_holds p (record { page = (held_in d).page; waiting = ns; number = h.s.number })) none-waits;
            sound = sound;
            nodes = over-nodes (omega (arith, room, t));
            grown = over-grown;
            same = continues;
            left = none;
          }

    -- ---- the page fires

    module _ (page : Page) (is : e ≡ events.Fired page) (given : IsGivenOut e q.store (ids_of d.builder) d.store) (open_so : q.builder.stopped ≡ true → (before : List PlainNode) → IsOpen d.left (before ++ (built_in d).waiting)) where
      fires : ComesToPage page (builder_holds p h.s) (held_in q) (makeup_ask p) (held_in d) d.store
      fires = next-is (events.Fired page) is

      abbrev f : Fired
      f = fired p ready.params.makeup h.s h.takes.nodes

      out : IsGivenOut (events.Fired page) q.store (ids_of d.builder) d.store
      out = subst (λ x. IsGivenOut x q.store (ids_of d.builder) d.store) is given

      after : held_in d ≡ after_fired (held_in q) f
      after = fires.after

      with-is : fired_whole d page ≡ f
      with-is = λ i. record {
        body = fires.page.body i;
        boxes = (after i).boxes;
        held = (after i).held;
        rest = (after i).waiting;
        penalty = fires.page.penalty i;
        cost = fires.page.cost i;
        size = fires.page.size i;
        shrink = fires.page.shrink i;
        line = fires.page.line i;
      }

      sized-is : FiredSized f
      sized-is = fired-sized p ready.params.makeup h.s h.takes.nodes

      few-is : fired_count f ≤ node_count h.s.page + node_count h.s.waiting + 1
      few-is = fired-few p ready.params.makeup h.s h.takes.nodes

      classes-are : (held_in d).classes ≡ makeup_classes p
      classes-are = ap (λ (c : Contents). c.classes) after ∙ h.coming.come.stays.classes

      text-is : AreMatter (plain_list d.store page.body)
      text-is = subst AreMatter (sym fires.page.body) (fired-text p ready.params.makeup h.s h.takes.nodes)

      grown-is : HasGrown r (waiting_after p (fired_whole d page))
      grown-is =
          let g = subst (Grows p h.s) (sym with-is) (fired-grows p ready.params.makeup h.s h.takes.nodes) in
          let a = g.total in
          let b = g.acts in
          let t = h.takes.total in
          let u = h.takes.acts in
          record { total = omega (arith, a, t); acts = omega (arith, b, u) }

      pub filled-fires : IsFiring wanted r page d hs
      filled-fires = record {
        s = h.s;
        ts = h.ts;
        takes = h.takes;
        noted = h.noted ∙ ap (λ us. noted_tries wanted (h.ts ++ us)) (sym (fires-tries p h.s h.us (held_in q) h.coming fires.stopped));
        step = fires-step p h.s h.us (held_in q) h.coming fires.stopped ∙ ap (firing_step p h.s.number) (sym with-is);
        can = record {
          sound = sound;
          awaits = record { page = ap (λ (c : Contents). c.page) after; frozen = ap (λ (c : Contents). c.frozen) after };
          top = ap (λ cs. has_class cs 253) classes-are;
          foot = ap (λ cs. has_class cs 254) classes-are;
          held = fires.page.held ∙ ap length (sym (ap (λ (c : Contents). c.held) after));
          body = record {
            live = fires.page.live;
            leaves = matter-leaves (list_at d.store) (list_at d.store page.body) text-is;
            sized = list-back d.store page.body (subst (All IsSizedOnPage) (sym fires.page.body) sized-is.body);
            few = (let a = list-length d.store page.body in let b = ap node_count fires.page.body in let c = few-is in let k = h.takes.nodes.few in omega (arith, a, b, c, k));
          };
          free = out.2;
          boxes = subst (All IsSizedBox) (sym (ap (λ (c : Contents). c.boxes) after)) sized-is.boxes;
          few =
              (let a = list-length d.store page.body in
              let b = ap node_count fires.page.body in
              let c = few-is in
              let k = h.takes.nodes.few in
              let g = ap (λ (c : Contents). box_count c.boxes) after in
              omega (arith, a, b, c, k, g));
        };
        after = subst (AreAfter p) (sym with-is) (fired-after p ready.params.makeup h.s h.takes.nodes);
        grown = grown-is;
        classes = classes-are;
        stopped = ap (λ (c : Contents). c.stopped) after;
        void = ap (λ (c : Contents). with_void 254 (with_void 253 c.boxes)) after ∙ void-after (labels p h.s);
        same = continues;
        items = items-now;
        ends = open_so fires.stopped;
      }
