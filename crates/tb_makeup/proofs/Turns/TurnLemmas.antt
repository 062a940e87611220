-- What a turn of the page makeup comes to.
use Rattle.std.proofs.Common.{◌≡◌, sym, subst, ◌∙◌, ap, ◌+◌, ◌≤◌, pos, Bool, true, false, List, [], ◌∷◌, ◌++◌, length, map, Option, Some, None, append-nil, arith}
use Rattle.std.specs.Prelude.{IfNone, ◌≤ℤ◌, if◌then◌else◌}
use Rattle.tb_pool.specs.Lists.{IsLive}
use Rattle.tb_builder.specs.declared.Page.{Page}
use Rattle.tb_builder.specs.Contents.{Contents, node_count, box_count}
use Rattle.tb_builder.specs.Contributions.{with_void}
use Rattle.tb_sheet.specs.Sheet.{PlainSent, shipped, one}
use Rattle.tb_column.specs.Notes.{AreDistinct}
use Rattle.tb_builder.specs.BuilderLists.{builder_lists}
use Rattle.tb_sheet.specs.ApartLists.{AreNoneOf}
use Rattle.tb_items.specs.declared.happenings.Happening.{Happening}
use Rattle.tb_items.specs.RunEvents.{sent}
use Rattle.tb_items.specs.Happenings.{events_of, noted, ArePages}
use Rattle.tb_plain.specs.declared.Plain.{Plain}
use Rattle.tb_plain.specs.Firing.{holds_any, makeup_column}
use Rattle.tb_plain.specs.Run.{MakeupEvent, sent_among, MakeupState, step_tries, waiting_after}
use Rattle.tb_plain.specs.MakeupCalls.{IsPlain}
use Rattle.tb_makeup.specs.declared.makeup.Makeup.{Makeup}
use Rattle.tb_makeup.specs.declared.makeup.MakeupEnding.{MakeupEnding}
use Rattle.tb_makeup.specs.declared.makeup.MakeupEnding.TheVariants as endings
use Rattle.tb_makeup.specs.MakeupLeft.{nodes_left}
use Rattle.tb_makeup.specs.Makeup.{built_in, held_in, state_of, IsBounded, unsaid_nodes, run_events, IsReady, IsTurned, AreHappened}
use Rattle.tb_makeup.specs.MakeupPages.{fired_whole, noted_tries, AreTries, IsFiring, IsOver, IsBoundedPage, HasShipped, Ships, Finishes}
use Rattle.tb_makeup.proofs.Filled.TriedLemmas.{are-tries, tries-lists, tries-pages, turn_events, turn-noted, turn-sent}
use Rattle.tb_makeup.proofs.Turns.TurnedLemmas.{sent-same, shipped-goes, shipped-ready, shipped-limit, shipped-pages, over-done, over-goes, over-ready}

-- what a turn shows, and what the makeup is after it
pub record TurnsTo (wanted : Bool) (r : Makeup) (hs : List Happening) (o : Option MakeupEnding) (q : Makeup) : Type 0 where
  pub turned : IsTurned wanted r hs o q
  pub ready : IfNone o (IsReady q)
  pub params : q.plain.params ≡ r.plain.params
  pub live : IsLive q.store q.builder.page
  pub pages : ArePages q.store hs
  pub lists : IfNone o (AreHappened q hs)

-- ---- the page fires

unsaid-few : (s : MakeupState) → unsaid_nodes s ≤ 4
unsaid-few s = by_test (holds_any s.page)
  where
    by_test : (t : Bool) → (if t then 4 else 0) ≤ 4
    by_test true = omega arith
    by_test false = omega arith

module _ (wanted : Bool) (r d : Makeup) (page : Page) (before : List Happening) (ready : IsReady r) (h : IsFiring wanted r page d before) where
  -- only places were noted
  pub fired-tries : AreTries before
  fired-tries = subst AreTries (sym h.noted) (are-tries wanted (h.ts ++ step_tries r.plain.params h.s))

  pub fired-plain : IsPlain d.plain
  fired-plain = subst IsPlain (sym h.same.plain) ready.plain

  pub fired-few : node_count (waiting_after d.plain.params (fired_whole d page)) ≤ 8388608
  fired-few = subst (λ (x : Plain). node_count (waiting_after x.params (fired_whole d page)) ≤ 8388608) (sym h.same.plain) h.after.few

  pub fired-void : box_count (with_void 254 (with_void 253 (held_in d).boxes)) ≡ 0
  fired-void = ap box_count h.void

  pub fired-bounded : IsBoundedPage page d
  fired-bounded =
      subst (λ (x : Plain). IsBounded 10 (record { page = []; waiting = waiting_after x.params (fired_whole d page); number = x.page + 1 }) d.bound) (sym h.same.plain)
      (subst (IsBounded 10 (record { page = []; waiting = waiting_after r.plain.params (fired_whole d page); number = r.plain.page + 1 })) (sym h.same.bound)
      (let a = h.grown.total in
      let b = h.grown.acts in
      let t = ready.bounded.total in
      let u = ready.bounded.acts in
      let v = unsaid-few (state_of r) in
      record { total = omega (arith, a, t, v); acts = omega (arith, b, u); few_nodes = ready.bounded.few_nodes; few_acts = ready.bounded.few_acts }))

  pub fired-limit : d.limit ≤ℤ pos 4194304
  fired-limit = subst (λ x. x ≤ℤ pos 4194304) (sym (h.same.limit ∙ ready.limit)) ready.params.maxnodes

module _ (wanted : Bool) (r d q : Makeup) (page : Page) (before hs : List Happening) (ready : IsReady r) (h : IsFiring wanted r page d before) where
  abbrev es : List PlainSent
  es = shipped h.s.number (one (makeup_column r.plain.params (fired_whole d page))) ∷ []

  -- the events of the turn, if it sends these
  abbrev turned_with : List PlainSent → List MakeupEvent
  turned_with xs = turn_events h.ts (step_tries r.plain.params h.s) xs

  noted-with : (xs : List PlainSent) → events_of q.store before ++ map (λ e. sent e) xs ≡ noted wanted (run_events (turned_with xs))
  noted-with xs = ap (λ ks. events_of q.store ks ++ map (λ e. sent e) xs) h.noted ∙ sym (turn-noted wanted q.store h.ts (step_tries r.plain.params h.s) xs)

  sends-few : (xs : List PlainSent) → length xs ≤ 1 → length (sent_among (turned_with xs)) ≤ 1
  sends-few xs few = subst (λ ys. length ys ≤ 1) (sym (turn-sent h.ts (step_tries r.plain.params h.s) xs)) few

  shipped-events : HasShipped page d q before hs → events_of q.store hs ≡ noted wanted (run_events (turned_with es))
  shipped-events s = s.events ∙ ap (λ e. events_of q.store before ++ sent e ∷ []) (sent-same wanted r d q page before ready h) ∙ noted-with es

  shipped-params : HasShipped page d q before hs → q.plain.params ≡ r.plain.params
  shipped-params s = ap (λ (x : Plain). x.params) s.number ∙ ap (λ (x : Plain). x.params) h.same.plain

  pub fired-turns : (o : Option MakeupEnding) → Ships page d o q before hs → TurnsTo wanted r hs o q
  fired-turns None s = record {
    turned = record { es = turned_with es; events = shipped-events s.0; few = sends-few es (omega arith); goes = shipped-goes wanted r d q page before ready h s.0.within s.0.number s.0.contents s.1 };
    ready = shipped-ready wanted r d q page before ready h s.0.within s.0.number s.0.contents s.1 s.0.sound s.0.ask s.0.limit s.0.left s.0.front s.0.waits s.2;
    params = shipped-params s.0;
    live = s.0.sound.own.live.0;
    pages = s.0.happened.pages;
    lists = s.0.happened;
  }
  fired-turns (Some endings.Done) s = absurd s
  fired-turns (Some (endings.PageLimit n)) s = record {
    turned = record {
      es = turned_with [];
      events = ap (events_of q.store) s.none ∙ sym (append-nil (events_of q.store before)) ∙ noted-with [];
      few = sends-few [] (omega arith);
      goes = shipped-pages wanted r d q page before ready h n s.over s.pages;
    };
    ready = tt;
    params = ap (λ (x : Plain). x.params) s.plain ∙ ap (λ (x : Plain). x.params) h.same.plain;
    live = s.sound.own.live.0;
    pages = subst (ArePages q.store) (sym s.none) (tries-pages q.store before (fired-tries wanted r d page before ready h));
    lists = tt;
  }
  fired-turns (Some (endings.NodeLimit n)) s = record {
    turned = record { es = turned_with es; events = shipped-events s.0; few = sends-few es (omega arith); goes = shipped-limit wanted r d q page before ready h s.0.within s.0.number s.0.contents n s.1 };
    ready = tt;
    params = shipped-params s.0;
    live = s.0.sound.own.live.0;
    pages = s.0.happened.pages;
    lists = tt;
  }

-- ---- nothing waits

pub over-waiting : (wanted : Bool) (r d : Makeup) (hs : List Happening) → IsOver wanted r d hs → (built_in d).waiting ≡ []
over-waiting wanted r d hs h = sym (ap (λ o. (built_in d).waiting ++ nodes_left o) h.left ∙ append-nil (built_in d).waiting) ∙ ap (λ (c : Contents). c.waiting) h.holds

module _ (wanted : Bool) (r d q : Makeup) (hs : List Happening) (ready : IsReady r) (h : IsOver wanted r d hs) where
  -- the events of the turn
  abbrev over_events : List MakeupEvent
  over_events = turn_events h.ts (step_tries r.plain.params h.s) []

  over-tries : AreTries hs
  over-tries = subst AreTries (sym h.noted) (are-tries wanted (h.ts ++ step_tries r.plain.params h.s))

  over-noted : events_of q.store hs ≡ noted wanted (run_events over_events)
  over-noted = ap (events_of q.store) h.noted ∙ sym (append-nil (events_of q.store (noted_tries wanted (h.ts ++ step_tries r.plain.params h.s)))) ∙ sym (turn-noted wanted q.store h.ts (step_tries r.plain.params h.s) [])

  over-few : length (sent_among over_events) ≤ 1
  over-few = subst (λ (ys : List PlainSent). length ys ≤ 1) (sym (turn-sent h.ts (step_tries r.plain.params h.s) [])) (omega arith)

  -- they have no lists
  over-lists : AreHappened q hs
  over-lists = record {
    pages = tries-pages q.store hs over-tries;
    distinct = subst AreDistinct (sym (tries-lists hs over-tries)) tt;
    builder = subst (λ ls. AreNoneOf ls (builder_lists q.builder q.store)) (sym (tries-lists hs over-tries)) tt;
  }

  pub over-turns : (o : Option MakeupEnding) → Finishes d o q → TurnsTo wanted r hs o q
  over-turns None s = record {
    turned = record { es = over_events; events = over-noted; few = over-few; goes = over-goes wanted r d q hs ready h s.0 s.1 };
    ready = over-ready wanted r d q hs ready h s.0 s.1;
    params = ap (λ (x : Plain). x.params) (s.1.same.plain ∙ h.same.plain);
    live = s.1.sound.own.live.0;
    pages = over-lists.pages;
    lists = over-lists;
  }
  over-turns (Some endings.Done) s = record {
    turned = record { es = over_events; events = over-noted; few = over-few; goes = over-done wanted r d q hs ready h s.0 };
    ready = tt;
    params = ap (λ (x : Makeup). x.plain.params) s.1 ∙ ap (λ (x : Plain). x.params) h.same.plain;
    live = subst (λ (x : Makeup). IsLive x.store x.builder.page) (sym s.1) h.sound.own.live.0;
    pages = over-lists.pages;
    lists = tt;
  }
  over-turns (Some (endings.PageLimit n)) s = absurd s
  over-turns (Some (endings.NodeLimit n)) s = absurd s
