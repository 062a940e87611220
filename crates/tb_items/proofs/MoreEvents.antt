-- An event is the same if more nodes come behind those that wait.
use Rattle.std.proofs.Common.{◌≡◌, refl, sym, subst, ◌∙◌, ap, ℕ, ℤ, Bool, true, false, List, [], ◌∷◌, ◌++◌, take, drop, append_assoc, append-nil, arith}
use Rattle.std.specs.Prelude.{if◌then◌else◌, ◌||◌}
use Rattle.std.proofs.lemmas.Bool.{true≢false}
use Rattle.tb_pool.specs.Lists.{Lists}
use Rattle.tb_node.specs.declared.Act.{Act}
use Rattle.tb_node.specs.declared.Node.{Node}
use Rattle.tb_node.specs.PlainNodes.{act, PlainNode}
use Rattle.tb_break.specs.Best.{Breakpoint, is_stop, least_cost}
use Rattle.tb_break.specs.PageTop.{pruned_nodes}
use Rattle.tb_insert.specs.Account.{Frozen, Labelled, labelled, terms_after}
use Rattle.tb_builder.specs.declared.Ask.{Ask}
use Rattle.tb_builder.specs.declared.Event.{Event}
use Rattle.tb_builder.specs.declared.Event.TheVariants as events
use Rattle.tb_builder.specs.declared.Page.{Page}
use Rattle.tb_builder.specs.Reach.{Reached, acted, tried, Reach, also_reached, reach_from, holds_box, laid_out, breakpoints, try_of}
use Rattle.tb_builder.specs.FiredPages.{Boxed, Fired, page_break, from_break, penalty_at, line_at, with_spent_break, fired_by}
use Rattle.tb_builder.specs.LegalPlaces.{glue_first}
use Rattle.tb_builder.specs.Contributions.{ends_in_kern}
use Rattle.std.proofs.lemmas.List.{take-append-drop, length-append}
use Rattle.tb_builder.specs.Contents.{Contents, frozen_of, ahead_of, laid, reach_ahead, reach_whole, places_of}
use Rattle.tb_builder.specs.PassedNodes.{ComesPast, EventPast}
use Rattle.tb_builder.specs.PageEvents.{NextFits, Without, ActedIs, IsTheStop, GoesPast, EmptyIs, FirstIs, KeepsBoxes, PageIs, FiredIs, fired_page, after_fired, NextIs, stopped_with}
use Rattle.tb_builder.specs.PageProgress.{after_all, HasCome}
use Rattle.tb_builder.proofs.Handover.WaitLemmas.{places_glue}
use Rattle.tb_builder.proofs.Turns.TurnLemmas.{keeps-frozen}
use Rattle.tb_builder.proofs.Turns.PastLemmas.{holds-both, laid-more}
use Rattle.tb_items.specs.ItemsLeft.{kern_last, with_more}
use Rattle.tb_items.proofs.OpenLemmas.{kern-both, open-back, open-front, StartsPlain, some-plain, plain-front, plain-pruned, plain-spent, page-ends, glue-more, open-without, open-spent, open-pruned}
use Rattle.tb_items.proofs.MoreReached.{with_beyond, going_on, going-also, going-stops, reach-more, reach-left, reach-none, reach-box}

-- more nodes, as they are laid out behind others
abbrev pub more_laid : ℤ → List PlainNode → List PlainNode → List PlainNode
more_laid t ns more = if holds_box ns then more else pruned_nodes t more

-- ---- what is ahead

module _ (c : Contents) (ask : Ask) (more : List PlainNode) where
  pub laid-with : laid (with_more more c) ask ≡ laid c ask ++ more_laid ask.top_skip (laid c ask) more
  laid-with = sym (laid-more ask.top_skip c.page c.waiting more)

  cancel-front : (xs ys zs : List PlainNode) → xs ++ ys ≡ xs ++ zs → ys ≡ zs
  cancel-front [] ys zs e = e
  cancel-front (x ∷ xs) ys zs e = cancel-front xs ys zs (let t : xs ++ ys ≡ xs ++ zs = cc in t)

  ahead-with : ahead_of (with_more more c) ask ≡ ahead_of c ask ++ more_laid ask.top_skip (laid c ask) more
  ahead-with = cancel-front c.page (ahead_of (with_more more c) ask) (ahead_of c ask ++ more_laid ask.top_skip (laid c ask) more) (laid-with ∙ append_assoc c.page (ahead_of c ask) (more_laid ask.top_skip (laid c ask) more))

  module _ (ends : kern_last false (laid c ask) ≡ false) where
    pub ahead-more : reach_ahead (with_more more c) ask ≡ going_on (frozen_of c ask).limit (terms_after (frozen_of c ask)) (more_laid ask.top_skip (laid c ask) more) (reach_ahead c ask)
    ahead-more =
        ap (reach_from (frozen_of c ask).limit (terms_after (frozen_of c ask)) c.page) ahead-with
        ∙ reach-more (frozen_of c ask).limit (terms_after (frozen_of c ask)) c.page (ahead_of c ask) (more_laid ask.top_skip (laid c ask) more) (open-back c.page (ahead_of c ask) ends)

    -- a page that ends with a kern has a node behind it
    waits-plain : kern_last true (ahead_of c ask) ≡ false → StartsPlain c.waiting
    waits-plain h = by_box (holds_box c.page) (some-plain (ahead_of c ask) h)
      where
        by_box : (b : Bool) → StartsPlain (if b then c.waiting else pruned_nodes ask.top_skip c.waiting) → StartsPlain c.waiting
        by_box true s = s
        by_box false s = plain-pruned ask.top_skip c.waiting s

    pub places-more : places_of (with_more more c) ask ≡ places_of c ask
    places-more = places_glue (frozen_of c ask).limit (terms_after (frozen_of c ask)) [] c.page (glue_first (c.waiting ++ more)) (glue_first c.waiting) (λ k.
        glue-more c.waiting more (waits-plain (ap (λ d. kern_last d (ahead_of c ask)) (sym (page-ends false c.page k)) ∙ sym (kern-both false c.page (ahead_of c ask)) ∙ ends)))

  -- at a stop all that comes behind is laid out as it is
  pub stop-laid : (reach_ahead c ask).fires ≡ true → more_laid ask.top_skip (laid c ask) more ≡ more
  stop-laid f = ap (λ b. if b then more else pruned_nodes ask.top_skip more) (by_box (holds_box c.page) refl f)
    where
      by_box : (b : Bool) → holds_box c.page ≡ b → (reach_from (frozen_of c ask).limit (terms_after (frozen_of c ask)) c.page (if b then c.waiting else pruned_nodes ask.top_skip c.waiting)).fires ≡ true
          → holds_box (c.page ++ (if b then c.waiting else pruned_nodes ask.top_skip c.waiting)) ≡ true
      by_box true e h = holds-both c.page c.waiting ∙ ap (λ x. x || holds_box c.waiting) e
      by_box false e h = holds-both c.page (pruned_nodes ask.top_skip c.waiting) ∙ ap (λ x. x || holds_box (pruned_nodes ask.top_skip c.waiting)) e ∙ reach-box (frozen_of c ask).limit (terms_after (frozen_of c ask)) ask.top_skip c.page c.waiting h

-- ---- at a stop

-- a stop was tried last: it is that of the page with what waits, before a node that is no act
pub record IsAtStop (c : Contents) (ask : Ask) : Type 0 where
  pub fires : (reach_whole c ask).fires ≡ true
  pub passed : (reach_whole c ask).passed ≡ c.page
  pub beyond : (reach_whole c ask).beyond ≡ c.waiting
  pub waits : StartsPlain c.waiting
  pub whole : laid c ask ≡ c.page ++ c.waiting

stop-fires : (limit : ℤ) (z : Frozen) (ns waiting : List PlainNode) → StartsPlain waiting → (reach_from limit (terms_after z) [] ns).beyond ≡ waiting → (reach_from limit (terms_after z) [] ns).fires ≡ true
stop-fires limit z ns waiting s e = by_test (reach_from limit (terms_after z) [] ns).fires refl
  where
    by_test : (t : Bool) → (reach_from limit (terms_after z) [] ns).fires ≡ t → t ≡ true
    by_test true f = refl
    by_test false f = let none : waiting ≡ [] = sym e ∙ reach-none limit (terms_after z) [] ns f in let k = subst StartsPlain none s in let no : ⊥ = (let x = k.is in cc) in absurd no

module _ (ask : Ask) (line : ℕ) (b : Breakpoint) (c d : Contents) (g : IsTheStop (laid c ask) (reach_ahead c ask) (places_of c ask) ask line b d) where
  waits-so : StartsPlain d.waiting
  waits-so = subst StartsPlain (ap (λ (v : Reach). v.beyond) g.reach) (reach-left (frozen_of c ask).limit (terms_after (frozen_of c ask)) c.page (ahead_of c ask) (ap (λ (v : Reach). v.fires) g.reach))

  pub at-stop : IsAtStop d ask
  at-stop = record {
    fires = stop-fires (frozen_of d ask).limit (frozen_of d ask) (d.page ++ d.waiting) d.waiting waits-so g.beyond;
    passed = g.passed;
    beyond = g.beyond;
    waits = waits-so;
    whole = g.still ∙ sym g.whole;
  }

  module _ (more : List PlainNode) (ends : kern_last false (laid c ask) ≡ false) where
    whole-more : reach_whole (with_more more d) ask ≡ with_beyond more (reach_whole d ask)
    whole-more =
        ap (reach_from (frozen_of d ask).limit (terms_after (frozen_of d ask)) []) (sym (append_assoc d.page d.waiting more))
        ∙ reach-more (frozen_of d ask).limit (terms_after (frozen_of d ask)) [] (d.page ++ d.waiting) more (ap (kern_last false) g.whole ∙ ends)
        ∙ going-stops (frozen_of d ask).limit (terms_after (frozen_of d ask)) (reach_whole d ask) more at-stop.fires

    laid-so : more_laid ask.top_skip (laid c ask) more ≡ more
    laid-so = stop-laid c ask more (ap (λ (v : Reach). v.fires) g.reach)

    pub stop-more : IsTheStop (laid (with_more more c) ask) (reach_ahead (with_more more c) ask) (places_of (with_more more c) ask) ask line b (with_more more d)
    stop-more = record {
      reach =
          ahead-more c ask more ends
          ∙ ap (going_on (frozen_of c ask).limit (terms_after (frozen_of c ask)) (more_laid ask.top_skip (laid c ask) more)) g.reach
          ∙ ap (λ ms. stopped_with d.page (d.waiting ++ ms) line b) laid-so;
      reached = ap (λ (v : Reach). breakpoints v.reached) whole-more ∙ g.reached ∙ ap (λ xs. xs ++ b ∷ []) (sym (places-more c ask more ends));
      passed = ap (λ (v : Reach). v.passed) whole-more ∙ g.passed;
      beyond = ap (λ (v : Reach). v.beyond) whole-more ∙ ap (λ xs. xs ++ more) g.beyond;
      whole = sym (append_assoc d.page d.waiting more) ∙ ap (λ xs. xs ++ more) g.whole ∙ ap (λ xs. laid c ask ++ xs) (sym laid-so) ∙ sym (laid-with c ask more);
      still = laid-with d ask more ∙ ap (λ xs. xs ++ more_laid ask.top_skip xs more) g.still ∙ sym (laid-with c ask more);
      stopped = g.stopped;
    }

-- ---- an event

-- the event is not that nothing waits any more
abbrev pub IsMet : Event → Type 0
IsMet events.Empty = ⊥
IsMet e = Unit {0}

module _ (c d : Contents) (ask : Ask) (more : List PlainNode) (ends : kern_last false (laid c ask) ≡ false) where
  keeps-more : KeepsBoxes c d ask → KeepsBoxes (with_more more c) (with_more more d) ask
  keeps-more k = record { classes = k.classes; boxes = k.boxes; held = k.held; made = k.made; keeps = k.keeps }

  module _ (k : KeepsBoxes c d ask) (after : kern_last false (laid d ask) ≡ false) (top : more_laid ask.top_skip (laid c ask) more ≡ more_laid ask.top_skip (laid d ask) more) where
    goes-more : (r : Reached) → reach_ahead c ask ≡ also_reached r (reach_ahead d ask) → reach_ahead (with_more more c) ask ≡ also_reached r (reach_ahead (with_more more d) ask)
    goes-more r reach =
        ahead-more c ask more ends
        ∙ ap (going_on (frozen_of c ask).limit (terms_after (frozen_of c ask)) (more_laid ask.top_skip (laid c ask) more)) reach
        ∙ going-also (frozen_of c ask).limit (terms_after (frozen_of c ask)) r (reach_ahead d ask) (more_laid ask.top_skip (laid c ask) more)
        ∙ ap (also_reached r) (
        (λ i. going_on (sym (keeps-frozen k) i).limit (terms_after (sym (keeps-frozen k) i)) (top i) (reach_ahead d ask))
        ∙ sym (ahead-more d ask more after)
        )

  -- a place was tried
  past-more : (k : KeepsBoxes c d ask) (line : ℕ) (b : Breakpoint) → GoesPast (laid c ask) (reach_ahead c ask) (places_of c ask) ask line b d
      → GoesPast (laid (with_more more c) ask) (reach_ahead (with_more more c) ask) (places_of (with_more more c) ask) ask line b (with_more more d)
  past-more k line b g =
      let after : kern_last false (laid d ask) ≡ false = (ap (kern_last false) g.whole ∙ ends) in
      record {
        reach = goes-more k after (ap (λ ns. more_laid ask.top_skip ns more) (sym g.whole)) (tried line b) g.reach;
        places = places-more d ask more after ∙ g.places ∙ ap (λ bs. bs ++ b ∷ []) (sym (places-more c ask more ends));
        whole = laid-with d ask more ∙ ap (λ ns. ns ++ more_laid ask.top_skip ns more) g.whole ∙ sym (laid-with c ask more);
        stopped = g.stopped;
      }

  -- the list without an act is as open, and has as many boxes
  without-ends : (a : Act) (ns ms : List PlainNode) → Without a ns ms → kern_last false ns ≡ false → kern_last false ms ≡ false
  without-ends a ns ms w h = ap (kern_last false) w.left ∙ sym (open-without false w.line a w.before w.after) ∙ sym (ap (kern_last false) w.was) ∙ h

  without-boxes : (a : Act) (ns ms : List PlainNode) → Without a ns ms → holds_box ns ≡ holds_box ms
  without-boxes a ns ms w = ap holds_box w.was ∙ holds-both w.before (record { line = w.line; kind = _ } ∷ w.after) ∙ sym (holds-both w.before w.after) ∙ sym (ap holds_box w.left)

  acted-more : (k : KeepsBoxes c d ask) (a : Act) → ActedIs a (laid c ask) (reach_ahead c ask) (places_of c ask) ask d
      → ActedIs a (laid (with_more more c) ask) (reach_ahead (with_more more c) ask) (places_of (with_more more c) ask) ask (with_more more d)
  acted-more k a g =
      let after = without-ends a (laid c ask) (laid d ask) g.whole ends in
      let top : more_laid ask.top_skip (laid c ask) more ≡ more_laid ask.top_skip (laid d ask) more = ap (λ t. if t then more else pruned_nodes ask.top_skip more) (without-boxes a (laid c ask) (laid d ask) g.whole) in
      let tail = more_laid ask.top_skip (laid c ask) more in
      record {
        reach = goes-more k after top (acted a) g.reach;
        places = places-more d ask more after ∙ g.places ∙ sym (places-more c ask more ends);
        whole = record {
          before = g.whole.before;
          line = g.whole.line;
          after = g.whole.after ++ tail;
          was = laid-with c ask more ∙ ap (λ ns. ns ++ tail) g.whole.was ∙ append_assoc g.whole.before _ tail;
          left = laid-with d ask more ∙ (λ i. g.whole.left i ++ sym top i) ∙ append_assoc g.whole.before g.whole.after tail;
        };
        stopped = g.stopped;
      }

  first-event : (k : KeepsBoxes c d ask) (e : Event) → IsMet e → FirstIs e (laid c ask) (reach_ahead c ask) (places_of c ask) ask d
      → FirstIs e (laid (with_more more c) ask) (reach_ahead (with_more more c) ask) (places_of (with_more more c) ask) ask (with_more more d)
  first-event k (events.Try t) m f = record {
    line = f.line;
    place = f.place;
    made = f.made ∙ ap (λ bs. try_of f.line f.place (least_cost bs)) (sym (places-more c ask more ends));
    goes = λ no. past-more k f.line f.place (f.goes no);
    stops = λ yes. stop-more ask f.line f.place c d (f.stops yes) more ends;
  }
  first-event k (events.Act a) m f = acted-more k a f
  first-event k (events.Fired p) m f = absurd f
  first-event k events.Empty m f = absurd m

-- ---- the page that fires

-- more nodes wait behind the rest of a page
abbrev pub fired_before : List PlainNode → Fired → Fired
fired_before more f = record f { rest = f.rest ++ more }

spent-more : (ns more : List PlainNode) → StartsPlain ns → with_spent_break (ns ++ more) ≡ with_spent_break ns ++ more
spent-more [] more s = let no : ⊥ = (let e = s.is in cc) in absurd no
spent-more (n ∷ ns) more s = refl

penalty-more : (ns more : List PlainNode) → StartsPlain ns → penalty_at (ns ++ more) ≡ penalty_at ns
penalty-more [] more s = let no : ⊥ = (let e = s.is in cc) in absurd no
penalty-more (n ∷ ns) more s = refl

line-more : (ns more : List PlainNode) → StartsPlain ns → line_at (ns ++ more) ≡ line_at ns
line-more [] more s = let no : ⊥ = (let e = s.is in cc) in absurd no
line-more (n ∷ ns) more s = refl

pub fired-more : (ls : List Labelled) (boxes : List Boxed) (w : Reach) (more : List PlainNode) → StartsPlain w.beyond → fired_by ls boxes (with_beyond more w) ≡ fired_before more (fired_by ls boxes w)
fired-more ls boxes w more s = (λ i. record {
  body = (fired_by ls boxes w).body;
  boxes = (fired_by ls boxes w).boxes;
  held = (fired_by ls boxes w).held;
  rest = rest i;
  penalty = penalty i;
  cost = (fired_by ls boxes w).cost;
  size = (fired_by ls boxes w).size;
  shrink = (fired_by ls boxes w).shrink;
  line = line i;
})
  where
    front : List PlainNode
    front = drop (page_break w).place w.passed

    left : from_break (with_beyond more w) ≡ from_break w ++ more
    left = sym (append_assoc front w.beyond more)

    some : StartsPlain (from_break w)
    some = plain-front front w.beyond s

    rest : with_spent_break (from_break (with_beyond more w)) ≡ with_spent_break (from_break w) ++ more
    rest = ap with_spent_break left ∙ spent-more (from_break w) more some

    penalty : penalty_at (from_break (with_beyond more w)) ≡ penalty_at (from_break w)
    penalty = ap penalty_at left ∙ penalty-more (from_break w) more some

    line : line_at (from_break (with_beyond more w)) ≡ line_at (from_break w)
    line = ap line_at left ∙ line-more (from_break w) more some

module _ (c d : Contents) (ask : Ask) (more : List PlainNode) (ends : kern_last false (laid c ask) ≡ false) (stop : IsAtStop c ask) where
  pub page-more : fired_page (with_more more c) ask ≡ fired_before more (fired_page c ask)
  page-more =
      let w = reach_whole c ask in
      let same : reach_whole (with_more more c) ask ≡ with_beyond more w = (
      ap (reach_from (frozen_of c ask).limit (terms_after (frozen_of c ask)) []) (sym (append_assoc c.page c.waiting more))
      ∙ reach-more (frozen_of c ask).limit (terms_after (frozen_of c ask)) [] (c.page ++ c.waiting) more (ap (kern_last false) (sym stop.whole) ∙ ends)
      ∙ going-stops (frozen_of c ask).limit (terms_after (frozen_of c ask)) w more stop.fires
      ) in
      ap (λ (v : Reach). fired_by (labelled (frozen_of c ask) (take (page_break v).place v.passed)) c.boxes v) same
      ∙ fired-more (labelled (frozen_of c ask) (take (page_break w).place w.passed)) c.boxes w more (subst StartsPlain (sym stop.beyond) stop.waits)

  page-event : (p : Page) (s : Lists Node) → FiredIs p c ask d s → FiredIs p (with_more more c) ask (with_more more d) s
  page-event p s f = record {
    page = subst (λ x. PageIs p x s) (sym page-more) (record { live = f.page.live; body = f.page.body; penalty = f.page.penalty; cost = f.page.cost; size = f.page.size; shrink = f.page.shrink; amount = f.page.amount; line = f.page.line; held = f.page.held });
    after = ap (with_more more) f.after ∙ ap (after_fired (with_more more c)) (sym page-more);
  }

-- a call returns the same event
pub next-more : (c d : Contents) (ask : Ask) (more : List PlainNode) (e : Event) (s : Lists Node) → kern_last false (laid c ask) ≡ false → (c.stopped ≡ true → IsAtStop c ask) → IsMet e
    → NextIs c.stopped e c ask d s → NextIs c.stopped e (with_more more c) ask (with_more more d) s
next-more c d ask more e s ends stop met n = by_stopped c.stopped refl n
  where
    by_fired : (v : Event) → IsAtStop c ask → NextIs true v c ask d s → NextIs true v (with_more more c) ask (with_more more d) s
    by_fired (events.Fired p) st f = page-event c d ask more ends st p s f
    by_fired v st f = absurd f

    by_stopped : (t : Bool) → c.stopped ≡ t → NextIs t e c ask d s → NextIs t e (with_more more c) ask (with_more more d) s
    by_stopped true is f = by_fired e (stop is) f
    by_stopped false is f = (first-event c d ask more ends f.1 e met f.0, keeps-more c d ask more ends f.1)

-- the page goes past the same nodes
past-more-of : (c d : Contents) (ask : Ask) (more after : List PlainNode) → ComesPast after c d ask → ComesPast (after ++ more) (with_more more c) (with_more more d) ask
past-more-of c d ask more after h = record {
  before = h.before;
  is = record { waiting = ap (λ ns. ns ++ more) h.is.waiting ∙ append_assoc h.before after more; page = h.is.page; no_acts = h.is.no_acts };
}

pub event-past-more : (c d : Contents) (ask : Ask) (more : List PlainNode) (e : Event) → EventPast e c d ask → EventPast e (with_more more c) (with_more more d) ask
event-past-more c d ask more (events.Try t) h = λ go. record {
  comes = past-more-of c d ask more d.waiting (h go).comes;
  shorter = (let a = length-append c.waiting more in let b = length-append d.waiting more in let l = (h go).shorter in omega (arith, a, b, l));
}
event-past-more c d ask more (events.Act a) h = record { line = h.line; comes = past-more-of c d ask more (record { line = h.line; kind = act a } ∷ d.waiting) h.comes }
event-past-more c d ask more (events.Fired p) h = tt
event-past-more c d ask more events.Empty h = past-more-of c d ask more d.waiting h

-- nothing more
pub none-behind : (c : Contents) → with_more [] c ≡ c
none-behind c = ap (λ ns. record c { waiting = ns }) (append-nil c.waiting)

-- all that is added up without the nodes behind fits too
pub fits-front : (c : Contents) (ask : Ask) (more : List PlainNode) → NextFits (with_more more c) ask → NextFits c ask
fits-front c ask more h = record {
  asked = h.asked;
  boxes = h.boxes;
  laid_fits = record {
    pages = λ before rest e. h.laid_fits.pages before (rest ++ tail) (longer before rest e);
    nodes = λ before n rest e. h.laid_fits.nodes before n (rest ++ tail) (longer before (n ∷ rest) e);
    classes = h.laid_fits.classes;
  };
}
  where
    tail : List PlainNode
    tail = more_laid ask.top_skip (laid c ask) more

    longer : (before rest : List PlainNode) → before ++ rest ≡ laid c ask → before ++ (rest ++ tail) ≡ laid (with_more more c) ask
    longer before rest e = sym (append_assoc before rest tail) ∙ ap (λ ns. ns ++ tail) e ∙ sym (laid-with c ask more)

-- ---- what stays

-- nodes that end with no kern, laid out on a page that ends with none
pub open-laid : (c : Contents) (ask : Ask) → kern_last false c.page ≡ false → kern_last false c.waiting ≡ false → kern_last false (laid c ask) ≡ false
open-laid c ask page h = kern-both false c.page (ahead_of c ask) ∙ ap (λ b. kern_last b (ahead_of c ask)) page ∙ by_box (holds_box c.page)
  where
    by_box : (b : Bool) → kern_last false (if b then c.waiting else pruned_nodes ask.top_skip c.waiting) ≡ false
    by_box true = h
    by_box false = open-pruned ask.top_skip false c.waiting h

-- more nodes behind these contents change nothing before them, and a stop that was tried is that of the page
pub record IsOpenPage (c : Contents) (ask : Ask) : Type 0 where
  pub ends : kern_last false (laid c ask) ≡ false
  pub stop : c.stopped ≡ true → IsAtStop c ask

-- after a place or an act
pub open-after : (c d : Contents) (ask : Ask) (e : Event) → kern_last false (laid c ask) ≡ false → IsMet e → FirstIs e (laid c ask) (reach_ahead c ask) (places_of c ask) ask d → IsOpenPage d ask
open-after c d ask (events.Try t) ends m f = by_stop (is_stop f.place) refl
  where
    by_stop : (b : Bool) → is_stop f.place ≡ b → IsOpenPage d ask
    by_stop true e = record { ends = ap (kern_last false) (f.stops e).still ∙ ends; stop = λ off. at-stop ask f.line f.place c d (f.stops e) }
    by_stop false e = record { ends = ap (kern_last false) (f.goes e).whole ∙ ends; stop = λ off. absurd (true≢false (sym off ∙ (f.goes e).stopped)) }
open-after c d ask (events.Act a) ends m f = record { ends = without-ends c d ask [] ends a (laid c ask) (laid d ask) f.whole ends; stop = λ off. absurd (true≢false (sym off ∙ f.stopped)) }
open-after c d ask (events.Fired p) ends m f = absurd f
open-after c d ask events.Empty ends m f = absurd m

-- after the page fired, what waits may stand behind any nodes
pub open-fired : (c : Contents) (ask : Ask) (xs : List PlainNode) → IsOpenPage c ask → c.stopped ≡ true → kern_last false (xs ++ (fired_page c ask).rest) ≡ false
open-fired c ask xs o off = open-front xs (with_spent_break (from_break w)) (plain-spent (from_break w) starts) (open-spent (from_break w) ∙ rest)
  where
    w : Reach
    w = reach_whole c ask

    k : ℕ
    k = (page_break w).place

    stop : IsAtStop c ask
    stop = o.stop off

    left : from_break w ≡ drop k c.page ++ c.waiting
    left = λ i. drop k (stop.passed i) ++ stop.beyond i

    starts : StartsPlain (from_break w)
    starts = subst StartsPlain (sym left) (plain-front (drop k c.page) c.waiting stop.waits)

    whole : take k c.page ++ (drop k c.page ++ c.waiting) ≡ laid c ask
    whole = sym (append_assoc (take k c.page) (drop k c.page) c.waiting) ∙ ap (λ ns. ns ++ c.waiting) (take-append-drop k c.page) ∙ sym stop.whole

    rest : kern_last false (from_break w) ≡ false
    rest = ap (kern_last false) left ∙ open-back (take k c.page) (drop k c.page ++ c.waiting) (ap (kern_last false) whole ∙ o.ends)

-- ---- nothing waits any more

module _ (c d : Contents) (ask : Ask) (more : List PlainNode) (ends : kern_last false (laid c ask) ≡ false) (k : KeepsBoxes c d ask) (f : EmptyIs (laid c ask) (reach_ahead c ask) (places_of c ask) ask d) where
  abbrev supplied : Contents
  supplied = record d { waiting = more }

  -- all that is reached comes of the nodes behind
  pub ahead-supplied : reach_ahead (with_more more c) ask ≡ reach_ahead supplied ask
  ahead-supplied =
      ahead-more c ask more ends
      ∙ ap (going_on (frozen_of c ask).limit (terms_after (frozen_of c ask)) (more_laid ask.top_skip (laid c ask) more)) f.reach
      ∙ (λ i. reach_from (sym (keeps-frozen k) i).limit (terms_after (sym (keeps-frozen k) i)) d.page (more_laid ask.top_skip (sym f.whole i) more))

  pub laid-supplied : laid supplied ask ≡ laid (with_more more c) ask
  laid-supplied = (λ i. f.whole i ++ more_laid ask.top_skip (f.whole i) more) ∙ sym (laid-with c ask more)

  page-ends-so : kern_last false d.page ≡ false
  page-ends-so = ap (kern_last false) f.whole ∙ ends

  no-kern : ends_in_kern d.page ≡ true → ⊥
  no-kern e = true≢false (sym (page-ends false d.page e) ∙ page-ends-so)

  places-supplied : places_of supplied ask ≡ places_of (with_more more c) ask
  places-supplied =
      places_glue (frozen_of d ask).limit (terms_after (frozen_of d ask)) [] d.page (glue_first more) (glue_first d.waiting) (λ e. absurd (no-kern e))
      ∙ f.places ∙ sym (places-more c ask more ends)

  -- the builder is on the same page
  pub come-supplied : (s : Contents) (rs : List Reached) → c.stopped ≡ false → HasCome s rs (with_more more c) ask → HasCome s rs supplied ask
  come-supplied s rs going h = record {
    stays = record { classes = k.classes ∙ h.stays.classes; boxes = k.boxes ∙ h.stays.boxes; held = k.held ∙ h.stays.held; made = k.made ∙ h.stays.made };
    goes = λ on. record { reach = (h.goes going).reach ∙ ap (after_all rs) ahead-supplied; places = places-supplied ∙ (h.goes going).places };
    stops = λ off. absurd (true≢false (sym off ∙ f.stopped));
  }

  -- if only some of them were handed over, and they end with no kern
  pub open-supplied : (ns : List PlainNode) → kern_last false ns ≡ false → IsOpenPage (record d { waiting = ns }) ask
  open-supplied ns h = record { ends = open-laid (record d { waiting = ns }) ask page-ends-so h; stop = λ off. absurd (true≢false (sym off ∙ f.stopped)) }

  pub may-take : ends_in_kern d.page ≡ false
  may-take = by_test (ends_in_kern d.page) refl
    where
      by_test : (b : Bool) → ends_in_kern d.page ≡ b → b ≡ false
      by_test true e = absurd (no-kern e)
      by_test false e = refl

-- at the start of a page
pub open-start : (c : Contents) (ask : Ask) → c.page ≡ [] → c.stopped ≡ false → kern_last false c.waiting ≡ false → IsOpenPage c ask
open-start c ask page going h = record {
  ends = ap (λ p. kern_last false (laid_out ask.top_skip p c.waiting)) page ∙ open-pruned ask.top_skip false c.waiting h;
  stop = λ off. absurd (true≢false (sym off ∙ going));
}
