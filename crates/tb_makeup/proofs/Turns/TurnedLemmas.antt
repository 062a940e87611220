-- A turn of the page makeup, as steps of the run.
use Rattle.std.proofs.Common.{◌≡◌, refl, sym, ◌∙◌, ap, subst, ℕ, ◌+◌, ◌*◌, ◌-◌, ◌<◌, ◌≤◌, ℤ, pos, Bool, true, false, List, [], ◌∷◌, ◌++◌, Option, Some, None, arith}
use Rattle.std.specs.Prelude.{pred, nat_abs, int_lt, ◌≤ℤ◌, ◌<ℤ◌, if◌then◌else◌}
use Rattle.std.proofs.lemmas.Int.{ints}
use Rattle.std.proofs.lemmas.List.Elements.{All-nil}
use Rattle.tb_items.proofs.PageNumbers.{pred-is}
use Rattle.tb_node.specs.PlainNodes.{PlainNode}
use Rattle.tb_param.specs.declared.Params.{Params}
use Rattle.tb_builder.specs.declared.Page.{Page}
use Rattle.tb_builder.specs.declared.Try.{Try}
use Rattle.tb_insert.specs.declared.Class.{Class}
use Rattle.tb_builder.specs.FiredPages.{Fired, Boxed}
use Rattle.tb_builder.specs.Contents.{Contents, node_count}
use Rattle.tb_builder.specs.Contributions.{with_void}
use Rattle.tb_builder.specs.Pageable.{IsSizedOnPage}
use Rattle.tb_builder.specs.Courses.{IsSound, freezes}
use Rattle.tb_builder.specs.declared.Ask.{Ask}
use Rattle.tb_sheet.specs.Sheet.{PlainSent, shipped, one}
use Rattle.tb_plain.specs.Firing.{holds_any, makeup_column}
use Rattle.tb_plain.specs.Run.{MakeupRun, MakeupEnd, MakeupState, try_events, step_tries, step_events, ends, goes_on, done, page_limit, node_limit, shipping_step, firing_step, builder_holds, makeup_ask, makeup_classes, void_boxes, run_after, ejecting_nodes, waiting_after}
use Rattle.tb_plain.specs.MakeupCalls.{AreMakeupParams, IsPlain}
use Rattle.tb_items.specs.declared.happenings.Happening.{Happening}
use Rattle.tb_items.specs.ItemsLeft.{with_more}
use Rattle.tb_plain.specs.declared.Plain.{Plain}
use Rattle.tb_plain.proofs.StepLemmas.{page-less}
use Rattle.tb_makeup.specs.declared.makeup.Makeup.{Makeup}
use Rattle.tb_makeup.specs.declared.makeup.MakeupEnding.TheVariants as endings
use Rattle.tb_makeup.specs.declared.makeup_left.MakeupLeft.{MakeupLeft}
use Rattle.tb_makeup.specs.MakeupLeft.{nodes_left, AreItemsLeft, IsOpen}
use Rattle.tb_makeup.specs.Makeup.{built_in, held_in, state_of, over_limit, run_at, node_total, IsBounded, unsaid_nodes, begins, ejects, AreRunParams, AreRunNodes, IsOpenAtStart, IsReady, GoesTo, turns_left}
use Rattle.tb_makeup.specs.MakeupPages.{fired_whole, Takes, IsFiring, IsOver, Ejects}
use Rattle.tb_makeup.proofs.Filled.RunLemmas.{run-ends, run-goes, run-append}
use Rattle.tb_makeup.proofs.Filled.TriedLemmas.{turn_events}

-- ---- what a firing comes to

over-none : (limit : ℤ) (n : ℕ) (t : Bool) → int_lt limit (pos n) ≡ t → (if t then Some (endings.NodeLimit n) else None) ≡ None → int_lt limit (pos n) ≡ false
over-none limit n true e h = cc
over-none limit n false e h = e

over-some : (limit : ℤ) (n k : ℕ) (t : Bool) → int_lt limit (pos n) ≡ t → (if t then Some (endings.NodeLimit n) else None) ≡ Some (endings.NodeLimit k) → (int_lt limit (pos n) ≡ true) × (n ≡ k)
over-some limit n k true e h = (e, let same : endings.NodeLimit n ≡ endings.NodeLimit k = cc in cc)
over-some limit n k false e h = cc

within-limit : (m : ℤ) (n : ℕ) → pos n ≤ℤ m → int_lt m (pos n) ≡ false
within-limit m n h = grind (arith, ints, h)

past-limit : (m : ℤ) (n : ℕ) → m <ℤ pos n → int_lt m (pos n) ≡ true
past-limit m n h = grind (arith, ints, h)

module _ (p : Params) (n : ℕ) (f : Fired) where
  abbrev es : List PlainSent
  es = shipped n (one (makeup_column p f)) ∷ []

  abbrev next : MakeupState
  next = record { page = []; waiting = waiting_after p f; number = n + 1 }

  abbrev count : ℕ
  count = node_count (waiting_after p f)

  ships : pos n ≤ℤ p.maxpages → firing_step p n f ≡ shipping_step p n f
  ships h = ap (λ t. if t then ends [] (page_limit (pred n)) else shipping_step p n f) (within-limit p.maxpages n h)

  fire-goes : pos n ≤ℤ p.maxpages → over_limit p.maxnodes count ≡ None → firing_step p n f ≡ goes_on es next
  fire-goes h k = ships h ∙ ap (λ t. if t then ends es (node_limit count) else goes_on es next) (over-none p.maxnodes count (int_lt p.maxnodes (pos count)) refl k)

  fire-limit : (k : ℕ) → pos n ≤ℤ p.maxpages → over_limit p.maxnodes count ≡ Some (endings.NodeLimit k) → firing_step p n f ≡ ends es (node_limit k)
  fire-limit k h o =
      let x = over-some p.maxnodes count k (int_lt p.maxnodes (pos count)) refl o in
      ships h ∙ ap (λ t. if t then ends es (node_limit count) else goes_on es next) x.0 ∙ ap (λ m. ends es (node_limit m)) x.1

  fire-pages : (k : ℕ) → p.maxpages <ℤ pos n → k + 1 ≡ n → firing_step p n f ≡ ends [] (page_limit k)
  fire-pages k h e = ap (λ t. if t then ends [] (page_limit (pred n)) else shipping_step p n f) (past-limit p.maxpages n h) ∙ ap (λ m. ends [] (page_limit m)) (pred-is k n e)

-- ---- the run of a turn: after the tries of its acts, that of its last step

module _ (r : Makeup) (ts : List Try) (s : MakeupState) (es : List PlainSent) (t : Takes r ts s) where
  turn-goes : (x : MakeupRun) → run_at r.plain.params s ≡ run_after (step_events (step_tries r.plain.params s) es) x → run_at r.plain.params (state_of r) ≡ run_after (turn_events ts (step_tries r.plain.params s) es) x
  turn-goes x e = t.run ∙ ap (run_after (try_events ts)) e ∙ sym (run-append (try_events ts) (step_events (step_tries r.plain.params s) es) x)

  turn-ends : (f : MakeupEnd) → run_at r.plain.params s ≡ record { events = step_events (step_tries r.plain.params s) es; end = f } → run_at r.plain.params (state_of r) ≡ record { events = turn_events ts (step_tries r.plain.params s) es; end = f }
  turn-ends f e = t.run ∙ ap (run_after (try_events ts)) e

-- ---- turns that are left

turn-less : (m : ℤ) (n a : ℕ) → 1 ≤ n → pos n ≤ℤ m → 2 * (nat_abs m - pred (n + 1)) + 1 < 2 * (nat_abs m - pred n) + a
turn-less m n a h k =
    let within : n ≤ nat_abs m = grind (arith, ints, k) in
    let e = page-less (nat_abs m) n h within in
    omega (arith, e)

few-within : (n : ℕ) (m : ℤ) → m ≤ℤ pos 4194304 → int_lt m (pos n) ≡ false → n ≤ 4194304
few-within n m h e = grind (arith, ints, h, e)

-- ---- the page shipped

module _ (wanted : Bool) (r d q : Makeup) (page : Page) (before : List Happening) (ready : IsReady r) (h : IsFiring wanted r page d before) where
  abbrev p : Params
  p = r.plain.params

  abbrev f : Fired
  f = fired_whole d page

  same-params : d.plain.params ≡ p
  same-params = ap (λ (x : Plain). x.params) h.same.plain

  same-page : d.plain.page ≡ h.s.number
  same-page = ap (λ (x : Plain). x.page) h.same.plain ∙ sym h.takes.number

  one-number : 1 ≤ h.s.number
  one-number = let a = ready.plain.first in let b = h.takes.number in omega (arith, a, b)

  same-limit : d.limit ≡ p.maxnodes
  same-limit = h.same.limit ∙ ready.limit

  -- what was sent
  pub sent-same : shipped d.plain.page (one (makeup_column d.plain.params f)) ≡ shipped h.s.number (one (makeup_column p f))
  sent-same = λ i. shipped (same-page i) (one (makeup_column (same-params i) f))

  -- its number and what waits, from the makeup before and after
  module _ (within : pos d.plain.page ≤ℤ d.plain.params.maxpages) (number : q.plain ≡ record d.plain { page = d.plain.page + 1 })
      (contents : held_in q ≡ record (held_in d) { boxes = with_void 254 (with_void 253 (held_in d).boxes); waiting = waiting_after d.plain.params f; held = [] }) where
    within-now : pos h.s.number ≤ℤ p.maxpages
    within-now = subst (λ n. pos n ≤ℤ p.maxpages) same-page (subst (λ (x : Params). pos d.plain.page ≤ℤ x.maxpages) same-params within)

    state-now : state_of q ≡ next p h.s.number f
    state-now = λ i. record {
      page = (ap (λ (c : Contents). c.page) contents ∙ h.can.awaits.page) i;
      waiting = (ap (λ (c : Contents). c.waiting) contents ∙ (λ j. waiting_after (same-params j) f)) i;
      number = (ap (λ (x : Plain). x.page) number ∙ ap (λ n. n + 1) same-page) i;
    }

    plain-now : q.plain.params ≡ p
    plain-now = ap (λ (x : Plain). x.params) number ∙ same-params

    module _ (over : over_limit d.limit (node_count (waiting_after d.plain.params f)) ≡ None) where
      over-now : over_limit p.maxnodes (count p h.s.number f) ≡ None
      over-now = (λ i. over_limit (sym same-limit i) (node_count (waiting_after (sym same-params i) f))) ∙ over

      pub shipped-goes : GoesTo q None p (turn_events h.ts (step_tries p h.s) (es p h.s.number f)) (state_of r)
      shipped-goes = (
        turn-goes r h.ts h.s (es p h.s.number f) h.takes (run_at p (state_of q))
            (run-goes p h.s (next p h.s.number f) (es p h.s.number f) one-number (omega arith) (h.step ∙ fire-goes p h.s.number f within-now over-now) ∙ ap (λ x. run_after (step_events (step_tries p h.s) (es p h.s.number f)) (run_at p x)) (sym state-now)),
        subst (λ x. turns_left p x < turns_left p (state_of r)) (sym state-now)
            (subst (λ n. 2 * (nat_abs p.maxpages - pred (h.s.number + 1)) + 1 < 2 * (nat_abs p.maxpages - pred n) + (if holds_any (state_of r).page then 0 else 1)) h.takes.number (turn-less p.maxpages h.s.number (if holds_any (state_of r).page then 0 else 1) one-number within-now)),
      )

      nodes-now : AreRunNodes (next p h.s.number f) × (node_total (next p h.s.number f) + 10 ≤ 7500000)
      nodes-now =
          let few = few-within (count p h.s.number f) p.maxnodes ready.params.maxnodes (over-none p.maxnodes (count p h.s.number f) (int_lt p.maxnodes (pos (count p h.s.number f))) refl over-now) in
          let acts = h.after.acts in
          (record { page = All-nil IsSizedOnPage; waiting = h.after.sized; quiet = tt; led = h.after.led; acts = acts; few = omega (arith, few, acts) }, omega (arith, few, acts))

      -- what is left changes nothing on the next page
      open-so : (o : Option MakeupLeft) → (built_in q).page ≡ [] → IsOpen o (built_in q).waiting → IsOpenAtStart o (built_in q)
      open-so None e k = tt
      open-so (Some l) e k = (e, k)

      pub shipped-ready : IsSound q.builder q.store → q.ask ≡ d.ask → q.limit ≡ d.limit → q.left ≡ d.left → (front : List PlainNode) → (built_in q).waiting ≡ front ++ (built_in d).waiting → IsBounded 0 (state_of q) q.bound → IsReady q
      shipped-ready sound ask limit left front waits bounded = record {
        sound = sound;
        plain = record { params = subst AreMakeupParams (sym plain-now) ready.params.makeup; first = (let a = ap (λ (x : Plain). x.page) number in omega (arith, a)) };
        params = subst AreRunParams (sym plain-now) ready.params;
        ask = ask ∙ h.same.ask ∙ ready.ask ∙ ap makeup_ask (sym plain-now);
        limit = limit ∙ same-limit ∙ ap (λ (x : Params). x.maxnodes) (sym plain-now);
        holds = holds-now;
        nodes = subst AreRunNodes (sym state-now) nodes-now.0;
        phase = begins (ap (λ (x : MakeupState). x.page) state-now) (subst (λ x. node_total x + 10 ≤ 7500000) (sym state-now) nodes-now.1);
        bounded = (let a = bounded.total in record { total = omega (arith, a); acts = bounded.acts; few_nodes = bounded.few_nodes; few_acts = bounded.few_acts });
        items = subst (λ (x : Params). AreItemsLeft (makeup_classes x) q.left) (sym plain-now) (subst (AreItemsLeft (makeup_classes p)) (sym left) h.items);
        ends = open-so q.left (ap (λ (x : MakeupState). x.page) state-now) (subst (IsOpen q.left) (sym waits) (subst (λ o. IsOpen o (front ++ (built_in d).waiting)) (sym left) (h.ends front)));
      }
        where
          page-now : (held_in q).page ≡ []
          page-now = ap (λ (x : MakeupState). x.page) state-now

          holding : List Class → List Boxed → List PlainNode → List PlainNode → Option Ask → Bool → Contents
          holding classes boxes page waiting frozen stopped = record { classes = classes; boxes = boxes; page = page; waiting = waiting; held = []; frozen = frozen; stopped = stopped }

          holds-now : held_in q ≡ builder_holds q.plain.params (state_of q)
          holds-now =
              contents
              ∙ (λ i. holding (h.classes i) (h.void i) (h.can.awaits.page i) (waiting_after d.plain.params f) (h.can.awaits.frozen i) (h.stopped i))
              ∙ (λ i. holding (makeup_classes p) void_boxes (sym page-now i) (sym (ap (λ (c : Contents). c.waiting) contents) i) (ap (λ ns. if freezes ns then Some (makeup_ask p) else None) (sym page-now) i) false)
              ∙ ap (λ x. builder_holds x (state_of q)) (sym plain-now)

    pub shipped-limit : (k : ℕ) → over_limit d.limit (node_count (waiting_after d.plain.params f)) ≡ Some (endings.NodeLimit k) → GoesTo q (Some (endings.NodeLimit k)) p (turn_events h.ts (step_tries p h.s) (es p h.s.number f)) (state_of r)
    shipped-limit k over =
        turn-ends r h.ts h.s (es p h.s.number f) h.takes (node_limit k)
        (run-ends p h.s (es p h.s.number f) (node_limit k) (h.step ∙ fire-limit p h.s.number f k within-now ((λ i. over_limit (sym same-limit i) (node_count (waiting_after (sym same-params i) f))) ∙ over)))

  -- as many pages as may be were shipped
  pub shipped-pages : (k : ℕ) → d.plain.params.maxpages <ℤ pos d.plain.page → k + 1 ≡ d.plain.page → GoesTo q (Some (endings.PageLimit k)) p (turn_events h.ts (step_tries p h.s) []) (state_of r)
  shipped-pages k over pages =
      turn-ends r h.ts h.s [] h.takes (page_limit k)
      (run-ends p h.s [] (page_limit k) (h.step ∙ fire-pages p h.s.number f k (subst (λ n. p.maxpages <ℤ pos n) same-page (subst (λ (x : Params). x.maxpages <ℤ pos d.plain.page) same-params over)) (pages ∙ same-page)))

-- ---- nothing waits

module _ (wanted : Bool) (r d q : Makeup) (before : List Happening) (ready : IsReady r) (h : IsOver wanted r d before) where
  abbrev params : Params
  params = r.plain.params

  first-number : 1 ≤ h.s.number
  first-number = let a = ready.plain.first in let b = h.takes.number in omega (arith, a, b)

  -- nothing is on the page either
  pub over-done : holds_any (held_in d).page ≡ false → GoesTo q (Some endings.Done) params (turn_events h.ts (step_tries params h.s) []) (state_of r)
  over-done none = turn-ends r h.ts h.s [] h.takes done (run-ends params h.s [] done (h.step ∙ ap (λ t. if t then goes_on [] (record h.s { page = (held_in d).page; waiting = ejecting_nodes }) else ends [] done) none))

  module _ (some : holds_any (held_in d).page ≡ true) (e : Ejects d q) where
    abbrev now : MakeupState
    now = record h.s { page = (held_in d).page; waiting = ejecting_nodes }

    plain-same : q.plain ≡ r.plain
    plain-same = e.same.plain ∙ h.same.plain

    none-left : q.left ≡ None
    none-left = e.left ∙ h.left

    contents-so : held_in q ≡ record (held_in d) { waiting = ejecting_nodes }
    contents-so = λ i. with_more (nodes_left (none-left i)) (e.contents i)

    state-is : state_of q ≡ now
    state-is = λ i. record {
      page = ap (λ (c : Contents). c.page) contents-so i;
      waiting = ap (λ (c : Contents). c.waiting) contents-so i;
      number = (ap (λ (x : Plain). x.page) plain-same ∙ sym h.takes.number) i;
    }

    turns-less : turns_left params now < turns_left params (state_of r)
    turns-less =
        subst (λ b. 2 * (nat_abs params.maxpages - pred h.s.number) + (if b then 0 else 1) < turns_left params (state_of r)) (sym some)
        (subst (λ ns. 2 * (nat_abs params.maxpages - pred h.s.number) + 0 < 2 * (nat_abs params.maxpages - pred r.plain.page) + (if holds_any ns then 0 else 1)) (sym h.begun)
        (subst (λ n. 2 * (nat_abs params.maxpages - pred h.s.number) + 0 < 2 * (nat_abs params.maxpages - pred n) + 1) h.takes.number (omega arith)))

    pub over-goes : GoesTo q None params (turn_events h.ts (step_tries params h.s) []) (state_of r)
    over-goes = (
      turn-goes r h.ts h.s [] h.takes (run_at params (state_of q))
          (run-goes params h.s now [] first-number first-number (h.step ∙ ap (λ t. if t then goes_on [] now else ends [] done) some) ∙ ap (λ x. run_after (step_events (step_tries params h.s) []) (run_at params x)) (sym state-is)),
      subst (λ x. turns_left params x < turns_left params (state_of r)) (sym state-is) turns-less,
    )

    -- the page was empty when it was begun, so the bound left no node out
    said : node_total (state_of r) ≤ r.bound.most
    said = let t = ready.bounded.total in let u = ap {B = ℕ} (λ ns. if holds_any ns then 4 else 0) h.begun in omega (arith, t, u)

    bounded-now : IsBounded (unsaid_nodes now) now r.bound
    bounded-now = record {
      total = (let a = h.grown in let b = said in let u = ap {B = ℕ} (λ (t : Bool). if t then 4 else 0) some in omega (arith, a, b, u));
      acts = omega arith;
      few_nodes = ready.bounded.few_nodes;
      few_acts = ready.bounded.few_acts;
    }

    pub over-ready : IsReady q
    over-ready = record {
      sound = e.sound;
      plain = subst IsPlain (sym plain-same) ready.plain;
      params = subst (λ (x : Plain). AreRunParams x.params) (sym plain-same) ready.params;
      ask = e.same.ask ∙ h.same.ask ∙ ready.ask ∙ ap (λ (x : Plain). makeup_ask x.params) (sym plain-same);
      limit = e.same.limit ∙ h.same.limit ∙ ready.limit ∙ ap (λ (x : Plain). x.params.maxnodes) (sym plain-same);
      holds =
          contents-so ∙ ap (λ (c : Contents). record c { waiting = ejecting_nodes }) h.holds ∙ ap (λ x. builder_holds params x) (sym state-is)
          ∙ ap (λ (x : Plain). builder_holds x.params (state_of q)) (sym plain-same);
      nodes = subst AreRunNodes (sym state-is) h.nodes;
      phase = ejects (ap (λ (x : MakeupState). x.waiting) state-is);
      bounded = subst (λ s. IsBounded (unsaid_nodes s) s q.bound) (sym state-is) (subst (IsBounded (unsaid_nodes now) now) (sym (e.same.bound ∙ h.same.bound)) bounded-now);
      items = subst (AreItemsLeft (makeup_classes q.plain.params)) (sym none-left) tt;
      ends = subst (λ o. IsOpenAtStart o (built_in q)) (sym none-left) tt;
    }
