-- A page that was filled and does not fire: what is told of it, and a break in it that costs too much.
use Rattle.std.proofs.Common.{◌≡◌, refl, sym, subst, ◌∙◌, ap, ℕ, suc, ◌≤◌, Bool, true, false, true≢false, ◌==◌, ◌&&◌, ◌||◌, List, [], ◌∷◌, ◌++◌, map, length, get_or, Option, Some, None, arith}
use Rattle.std.specs.Prelude.{ℤ, pos, pred, ◌%◌, ◌<◌, ◌+ℤ◌, ◌-ℤ◌, ◌<ℤ◌, int_lt, if◌then◌else◌, reverse, option_copied, IfSome}
use Rattle.std.specs.Borrow.{Bor}
use Rattle.std.proofs.lemmas.Int.{ints}
use Rattle.std.specs.List.{AllByRecursion}
use Rattle.tb_scaled.specs.Scaled.{awful_bad}
use Rattle.tb_pool.specs.Lists.{Lists}
use Rattle.tb_node.specs.declared.Node.{Node}
use Rattle.tb_node.specs.PlainNodes.{PlainNode, skip, pen, plain, on_line}
use Rattle.tb_param.specs.declared.Params.{Params}
use Rattle.tb_galley.specs.declared.Galley.{Galley}
use Rattle.tb_galley.specs.declared.Item.{Item}
use Rattle.tb_galley.specs.declared.ItemKind.{ItemKind}
use Rattle.tb_galley.specs.declared.ItemKind.TheVariants as items
use Rattle.tb_galley.specs.GalleyNodes.{item_kinds}
use Rattle.tb_plans.specs.declared.walk.Before.{Before}
use Rattle.tb_builder.specs.declared.Ask.{Ask}
use Rattle.tb_builder.specs.Reach.{Reach, holds_box}
use Rattle.tb_builder.specs.FiredPages.{fired_of}
use Rattle.tb_output.specs.State.{State, Recorded, emptied, void_boxes}
use Rattle.tb_output.specs.Output.{out}
use Rattle.tb_output.specs.Columns.{emptied_boxes}
use Rattle.tb_items.specs.Classes.{classes_of}
use Rattle.tb_items.specs.declared.items_left.ItemsLeft.{ItemsLeft}
use Rattle.tb_items.specs.declared.happenings.Happening.{Happening}
use Rattle.tb_items.specs.declared.happenings.Happening.TheVariants as happenings
use Rattle.tb_items.specs.Happenings.{events_of}
use Rattle.tb_items.specs.RunEvents.{RunEvent, sent}
use Rattle.tb_steps.specs.Run.{done, dead_cycles, page_limit, Progress, progress, Step, ends, goes_on, ask_for}
use Rattle.tb_rate.specs.Places.{place_penalties}
use Rattle.tb_run.specs.declared.routine.Routine.{Routine}
use Rattle.tb_run.specs.declared.routine.Ending.{Ending}
use Rattle.tb_run.specs.declared.routine.Ending.TheVariants as endings
use Rattle.tb_run.specs.Routine.{state_of}
use Rattle.tb_run.specs.FilledPages.{IsFilledLast}
use Rattle.tb_best.specs.PlanDemerits.{reach_in, step_demerits, unlimited_firing, unlimited_fire, unlimited_progress, unlimited_step}
use Rattle.tb_best.specs.ItemsAhead.{Ahead, all_ahead, item_ahead, ahead_from, last_ahead, forced, state_with}
use Rattle.tb_best.specs.PageTables.{with_page}
use Rattle.tb_best.specs.Counts.{counts_of, AreNoGreater}
use Rattle.tb_best.specs.Sides.{may_alternate, sides_of}
use Rattle.tb_best.specs.PlainPages.{is_plain, all_plain, IsBare, after_plain}
use Rattle.tb_best.specs.PlacePrices.{tries_among, sets_parameter, sets_any, is_place_behind, AreAbove, AreDear}
use Rattle.tb_best.proofs.CutPages.{cut-fires}
use Rattle.tb_best.proofs.PlacePricesStep.{cut-price}
use Rattle.tb_best.proofs.PlainPages.{plain-cut, plain-same}
use Rattle.tb_best.proofs.SideItems.{sides-with}
use Rattle.tb_best.proofs.SteadySteps.{next-keeps}
use Rattle.tb_search.specs.declared.branch.Stop.{Stop}
use Rattle.tb_search.specs.declared.branch.Stop.TheVariants as stops
use Rattle.tb_search.specs.declared.table.Start.{Start}
use Rattle.tb_search.specs.declared.table.Table.{Table}
use Rattle.tb_search.specs.Branches.{shown}
use Rattle.tb_search.specs.AheadInCode.{items_ahead, HasAhead}
use Rattle.tb_search.specs.Calm.{nodes_of_first, with_first}
use Rattle.tb_search.specs.FilledBranches.{IsRefusal}
use Rattle.tb_search.specs.SameStates.{without_counts}
use Rattle.tb_search.specs.PlainStarts.{IsPlainStart}
use Rattle.tb_search.specs.Searched.{over, waits, stuck, fills}
use Rattle.tb_search.specs.Starts.{IsReached, IsStart, IsTable}
use Rattle.tb_search.specs.Continues.{IsSearchedBy, IsSearchedAsGoodBy, IsCutSearched}
use Rattle.tb_search.specs.declared.calm.Told.{Told}
use Rattle.tb_search.specs.Told.{tried_in, is_place_item, IsDearIn, IsPlaceFirst, IsPlaceNext, Tells, TellsBehind, StopsAt}
use Rattle.tb_search.specs.Plain.{Beats, CostsAbove, IsBeaten, IsPlainPage}
use Rattle.tb_search.proofs.ToldLemmas.{above-among, dear-in}
use Rattle.tb_search.proofs.AheadLemmas.{next_ahead, next-is}
use Rattle.tb_search.proofs.EndLemmas.{full-end, dead-end, limit-end}
use Rattle.tb_search.proofs.FiredLemmas.{all-noted}
use Rattle.tb_search.proofs.KeepLemmas.{all-at, known-fewer, get-same, counts-as-good, level-starts, level-rows}
use Rattle.tb_search.proofs.PlainLemmas.{shown-void}
use Rattle.tb_search.proofs.ReachedWays.{next-sides}
use Rattle.tb_search.proofs.QuietLemmas.{is-quiet}
use Rattle.tb_search.proofs.SearchedLemmas.{as-good-itself}
use Rattle.tb_search.proofs.SearchSteps.{cut-searched, fired-refused}

-- ---- what is told

tried-events : (store : Lists Node) (hs : List Happening) → tries_among (events_of store hs) ≡ tried_in hs
tried-events store [] = refl
tried-events store (happenings.Tried t ∷ hs) = ap (λ ts. t ∷ ts) (tried-events store hs)
tried-events store (happenings.Sent e ∷ hs) = tried-events store hs

-- where the page of a routine stopped
pub stop-so : (r q : Routine) (e : Ending) (hs : List Happening) → IsFilledLast true r e q hs → (steady dear fine : Bool) → (steady ≡ true → sets_any (state_of r).waiting ≡ false) → (dear ≡ true → AllByRecursion IsDearIn hs)
    → (fine ≡ true → all_plain (state_of r).waiting ≡ true) → (s : Stop)
    → ((told flat : Bool) → s ≡ stops.Nowhere told flat → (e ≡ endings.Done) × ((told ≡ true → (steady ≡ true) × (dear ≡ true)) × (flat ≡ fine))) → StopsAt (state_of r) hs s
stop-so r q e hs last steady dear fine sets costs plains (stops.Line l) h = tt
stop-so r q e hs last steady dear fine sets costs plains (stops.Nowhere told flat) h =
    let k = h told flat refl in (
      (is-quiet r q e hs last k.0).quiet,
      (
        λ is. record {
          steady = sets (k.1.0 is).0;
          tries = sym (tried-events q.store hs) ∙ ap tries_among (last.filled.events q.store ∙ all-noted (progress (reach_in (state_of r)).reached awful_bad (state_of r)).events);
          dear = costs (k.1.0 is).1;
        },
        λ is. plains (sym k.1.1 ∙ is),
      ),
    )

-- what follows of something, if there is one
pub if-some-more : {X : Type 0} (P Q : X → Type 0) (o : Option X) → ((x : X) → P x → Q x) → IfSome o P → IfSome o Q
if-some-more P Q (Some x) f h = f x h
if-some-more P Q None f h = tt

-- the same of a reference to it
pub if-some-now : {X : Type 0} (P : X → Type 0) (o : Option (Bor X)) (p : Option X) → option_copied o ≡ p → IfSome p P → IfSome o (λ x. P x.now)
if-some-now P (Some x) p e h = subst (λ q. IfSome q P) (sym e) h
if-some-now P None p e h = tt

-- ---- the next item

-- the first of some items is the next, if these are all
pub place-next : (ns : List PlainNode) (o : Option ItemsLeft) (l : ItemsLeft) → o ≡ Some l → (xs : List Item) → xs ≡ l.items.now → (d : Item) → (length xs == 0) ≡ false → is_place_item ns (get_or xs 0 d).kind ≡ true → IsPlaceNext ns o (get_or xs 0 d).line
place-next ns o l is [] are d none place = absurd (true≢false none)
place-next ns o l is (x ∷ xs) are d none place = subst (λ p. IsPlaceNext ns p x.line) (sym is) (subst (first_at x.line) are (refl, place))
  where
    first_at : ℕ → List Item → Type 0
    first_at line ys = IsPlaceNext ns (Some (record l { items = record l.items { now = ys } })) line

-- the node of a penalty or glue
kind-node : (p : Params) (two : Bool) (l : ℕ) (k : ItemKind) (ns : List PlainNode) → is_place_item ns k ≡ true → (n : PlainNode) × (on_line l (item_kinds p two k) ≡ n ∷ []) × (n.line ≡ l) × (is_place_behind ns n.kind ≡ true)
kind-node p two l (items.Penalty v) ns h = (record { line = l; kind = plain (pen v) }, refl, refl, h)
kind-node p two l (items.Skip g) ns h = (record { line = l; kind = plain (skip g) }, refl, refl, h)
kind-node p two l k ns h = absurd (true≢false (sym h))

-- the next item is one node, and a legal place
record NextNode (c : Ahead) (ns : List PlainNode) (line : ℕ) : Type 0 where
  node : PlainNode
  nodes : c.nodes ≡ node ∷ []
  on : node.line ≡ c.line
  here : line ≡ c.line
  place : is_place_behind ns node.kind ≡ true

item-node : (g : Galley) (c : Ahead) (cs : List Ahead) (l : ItemsLeft) (b : Before) (m : ℕ) (ns : List PlainNode) (line : ℕ) (xs : List Item) → c ∷ cs ≡ ahead_from g.params l.params (last_ahead g) l.two b m xs
    → IsPlaceFirst ns xs line → NextNode c ns line
item-node g c cs l b m ns line [] e h = absurd h
item-node g c cs l b m ns line (x ∷ xs) e h =
    let is : c ≡ item_ahead g.params l.params l.two b m x xs = cc in
    let k = kind-node l.params l.two x.line x.kind ns h.1 in
    record {
      node = k.0;
      nodes = ap (λ (a : Ahead). a.nodes) is ∙ k.1;
      on = k.2 ∙ sym (ap (λ (a : Ahead). a.line) is);
      here = sym h.0 ∙ sym (ap (λ (a : Ahead). a.line) is);
      place = k.3;
    }

next-node : (g : Galley) (c : Ahead) (cs : List Ahead) (o : Option ItemsLeft) (ns : List PlainNode) (line : ℕ) → HasAhead g o (c ∷ cs) → IsPlaceNext ns o line → NextNode c ns line
next-node g c cs None ns line h k = absurd k
next-node g c cs (Some l) ns line h k = item-node g c cs l h.before h.number ns line l.items.now h.ahead k

-- ---- a page that fires goes on, or the run is refused

-- the step does not end a run well
abbrev NotDone : Step → Type 0
NotDone (ends es rs e) = IsRefusal (ends es rs e)
NotDone (goes_on es rs t) = Unit {0}

either-not : (t : Bool) (x y : Step) → NotDone x → NotDone y → NotDone (if t then x else y)
either-not true x y h k = h
either-not false x y h k = k

first-not : (t : Bool) (x y : Step) → t ≡ true → NotDone x → NotDone (if t then x else y)
first-not true x y e h = h
first-not false x y e h = absurd (true≢false (sym e))

progress-not : (a : Ask) (w : Reach) (q : Progress) (o : Option (ℕ × ℕ)) → w.fires ≡ true → NotDone (unlimited_progress a w q o)
progress-not a w q (Some f) fires = full-end q.events q.records f.0 f.1
progress-not a w q None fires =
    let work = out q.state.params q.state (fired_of a q.state.classes q.state.boxes w) in
    let es = q.events ++ map sent work.sent in
    let rs = q.records ++ work.records in
    first-not w.fires (unlimited_fire a w q) (ends q.events (q.records ++ emptied q.state.floats ∷ []) (done w.passed)) fires
    (either-not (int_lt (pos q.state.dead_cycles) q.state.params.maxdeadcycles) (unlimited_firing q.events q.records work) (ends q.events q.records (dead_cycles q.state.dead_cycles))
    (either-not work.refused (ends es rs (page_limit (pred work.state.page))) (goes_on es rs work.state) (limit-end es rs (pred work.state.page)) tt)
    (dead-end q.events q.records q.state.dead_cycles))

step-not : (s : State) → (reach_in s).fires ≡ true → NotDone (unlimited_step s)
unfolding unlimited_step
step-not s fires = let q = progress (reach_in s).reached awful_bad s in progress-not (ask_for s) (reach_in s) q q.fault fires

-- ---- a break that costs too much

set-front : (t u v : Bool) → (u ≡ false → v ≡ false) → (t || u) ≡ false → (t || v) ≡ false
set-front true u v f h = h
set-front false u v f h = f h

sets-front : (xs ys : List PlainNode) → sets_any (xs ++ ys) ≡ false → sets_any xs ≡ false
sets-front [] ys h = refl
sets-front (x ∷ xs) ys h = set-front (sets_parameter x.kind) (sets_any (xs ++ ys)) (sets_any xs) (sets-front xs ys) h

plain-both : (t u : Bool) → (t && u) ≡ true → (t ≡ true) × (u ≡ true)
plain-both true u h = (refl, h)
plain-both false u h = absurd (true≢false (sym h))

-- nodes in front of others are plain if all are
pub plain-front : (xs ys : List PlainNode) → all_plain (xs ++ ys) ≡ true → all_plain xs ≡ true
plain-front [] ys h = refl
plain-front (x ∷ xs) ys h = let k = plain-both (is_plain x.kind) (all_plain (xs ++ ys)) h in (λ i. k.0 i && plain-front xs ys k.1 i)

-- a page with a break before the next item, which was tried with items behind
module _ (t : Table) (k : ℕ) (x : Start) (some : suc k ≤ length (all_ahead t.galley.now)) (table : IsTable t) (reached : IsReached t.galley.now (suc k) x) (prices : Told)
    (box : holds_box (shown x.branch).waiting ≡ true) (tells : TellsBehind (place_penalties t.galley.now.items) (shown x.branch) (items_ahead t.galley.now (suc k)) prices) where
  abbrev g : Galley
  g = t.galley.now

  abbrev s : State
  s = shown x.branch

  abbrev c : Ahead
  c = next_ahead g k

  -- what happened when the page was tried
  abbrev hs : List Happening
  hs = tells.told.happened

  abbrev broken : State
  broken = state_with (forced c ∷ c.nodes) s

  abbrev breaks : List ℕ
  breaks = c.number ∷ reverse x.way.breaks.items

  -- the demerits with the break and its page
  abbrev paid : List RunEvent → List Recorded → State → ℤ
  paid es rs u = with_page g (x.way.demerits +ℤ pos 1000) broken es rs u

  abbrev rest : List PlainNode
  rest = nodes_of_first tells.more (items_ahead g k)

  -- ---- at a legal place

  module _ (line : ℕ) (place : IsPlaceNext s.waiting x.branch.ahead line) where
    next : NextNode c s.waiting line
    next = next-node g c (items_ahead g k) x.branch.ahead s.waiting line (subst (HasAhead g x.branch.ahead) (next-is g k some) reached.ahead) place

    -- the page that was tried
    whole : with_first (suc tells.more) (items_ahead g (suc k)) s ≡ state_with (next.node ∷ rest) s
    whole = (λ i. with_first (suc tells.more) (next-is g k some i) s) ∙ ap (λ ns. state_with (ns ++ rest) s) next.nodes

    told : Tells hs (state_with (next.node ∷ rest) s)
    told = subst (Tells hs) whole tells.told.tells

    dear : AreDear (tries_among (progress (reach_in (state_with (next.node ∷ rest) s)).reached awful_bad (state_with (next.node ∷ rest) s)).events)
    dear = subst AreDear told.tries (dear-in hs told.dear)

    calm : (reach_in (state_with (next.node ∷ rest) s)).fires ≡ false
    calm = subst (λ y. (reach_in y).fires ≡ false) whole tells.calm

    -- the page costs more than this if each place that was tried on the line does
    costs-more : (most : ℤ) → CostsAbove line most prices.prices.items → (es : List RunEvent) (rs : List Recorded) (u : State) → unlimited_step broken ≡ goes_on es rs u
        → most <ℤ step_demerits (place_penalties g.items) broken (goes_on es rs u)
    costs-more most costs es rs u e =
        let above = above-among s.params (place_penalties g.items) line most hs (subst (CostsAbove line most) tells.told.prices costs) in
        cut-price (place_penalties g.items) s c next.node rest most next.on box (sets-front s.waiting (next.node ∷ rest) told.steady) next.place calm dear
        (subst (AreAbove s.params (place_penalties g.items) c.line most) told.tries (subst (λ l. AreAbove s.params (place_penalties g.items) l most (tried_in hs)) next.here above))
        es rs u e

    -- after a plain page nothing is left but the item
    leaves-plain : IsBare s → all_plain s.waiting ≡ true → (es : List RunEvent) (rs : List Recorded) (u : State) → unlimited_step broken ≡ goes_on es rs u → u ≡ after_plain c s
    leaves-plain bare fine es rs u e = plain-cut s c next.node rest bare fine box next.place calm dear es rs u e

  -- the ways with the break are searched if the page costs too much or the state after it is
  by-step : ((es : List RunEvent) (rs : List Recorded) (u : State) → unlimited_step broken ≡ goes_on es rs u → IsSearchedAsGoodBy t u (items_ahead g k) (paid es rs u) breaks)
      → (y : Step) → unlimited_step broken ≡ y → NotDone y → IsSearchedBy t broken (items_ahead g k) (x.way.demerits +ℤ pos 1000) breaks
  by-step f (ends es rs e) is refused = stuck broken (items_ahead g k) (x.way.demerits +ℤ pos 1000) breaks (fired-refused broken (cut-fires s c box) (subst IsRefusal (sym is) refused))
  by-step f (goes_on es rs u) is on =
      let h = f es rs u is in
      fills broken u h.0 (items_ahead g k) (x.way.demerits +ℤ pos 1000) breaks es rs (cut-fires s c box) is h.1 h.2

  searched-by : ((es : List RunEvent) (rs : List Recorded) (u : State) → unlimited_step broken ≡ goes_on es rs u → IsSearchedAsGoodBy t u (items_ahead g k) (paid es rs u) breaks)
      → IsCutSearched t s (items_ahead g (suc k)) x.way.demerits (reverse x.way.breaks.items)
  searched-by f = cut-searched t g k s x.way.demerits (reverse x.way.breaks.items) some (λ place holds. by-step f (unlimited_step broken) refl (step-not broken (cut-fires s c box)))

  module _ (line : ℕ) (place : IsPlaceNext s.waiting x.branch.ahead line) where
    -- ---- the page costs too much

    pub too-dear : CostsAbove line (t.bound -ℤ (x.way.demerits +ℤ pos 1000)) prices.prices.items → IsCutSearched t s (items_ahead g (suc k)) x.way.demerits (reverse x.way.breaks.items)
    too-dear h =
        searched-by (λ es rs u e.
        let more = costs-more line place (t.bound -ℤ (x.way.demerits +ℤ pos 1000)) h es rs u e in
        (u, as-good-itself g u, over u (items_ahead g k) (paid es rs u) breaks (omega (arith, ints, more))))

    -- ---- the state after the page

    boxes_void : emptied_boxes s.boxes ≡ void_boxes (classes_of g)
    boxes_void = shown-void x.branch reached.branch ∙ ap void_boxes reached.classes

    -- the state after a plain page is one
    pub plain-start : IsPlainPage s → (es : List RunEvent) (rs : List Recorded) (u : State) → unlimited_step broken ≡ goes_on es rs u → IsPlainStart g k u
    plain-start h es rs u e = record {
      from = s;
      bare = h.bare;
      classes = reached.classes;
      boxes = boxes_void;
      is = leaves-plain line place h.bare h.plain es rs u e;
    }

    -- a state that is kept stands for it
    module _ (page : IsPlainPage s) (inside : k < length t.starts.items) (beaten : IsBeaten t k x.branch x.way line prices.prices.items) (y : Start) (y_is : y ≡ get_or beaten.level.items beaten.place y) where
      beats : Beats t.may_alternate y x.branch x.way line prices.prices.items
      beats = subst (λ z. Beats t.may_alternate z x.branch x.way line prices.prices.items) (sym y_is) (beaten.beats.beats y)

      start : IsStart g t.bound k y
      start = subst (IsStart g t.bound k) (sym y_is) (all-at (IsStart g t.bound k) beaten.level.items beaten.place y (level-starts t k inside table beaten.level beaten.here) beaten.beats.inside)

      stands : (es : List RunEvent) (rs : List Recorded) (u : State) → unlimited_step broken ≡ goes_on es rs u → IsSearchedAsGoodBy t u (items_ahead g k) (paid es rs u) breaks
      stands es rs u e =
          let p = start.plain beats.plain in
          let left = leaves-plain line place page.bare page.plain es rs u e in
          let same : without_counts (shown y.branch) ≡ without_counts u =
          ap without_counts p.is
          ∙ plain-same c s p.from page.bare p.bare (sym (ap (λ (z : State). z.params) p.is) ∙ beats.leads.params) (p.classes ∙ sym reached.classes) (sym (ap (λ (z : State). z.first_column) p.is) ∙ beats.leads.first_column) (p.boxes ∙ sym boxes_void)
          ∙ sym (ap without_counts left)
          in
          let pages_u = ap (λ (z : State). z.page) left in
          let number = ap (λ (z : State). z.number) left in
          let dead = ap (λ (z : State). z.dead_cycles) p.is in
          let pages_y = beats.leads.page in
          let counts : AreNoGreater (may_alternate g) (counts_of (shown y.branch)) (counts_of u) = record {
            pages = omega (arith, pages_u, pages_y);
            dead_cycles = omega (arith, dead);
            sides = λ on. ap (λ n. n % 2) (beats.leads.number (table.alternate ∙ on) ∙ sym number);
          } in
          let more = costs-more line place (y.way.demerits -ℤ (x.way.demerits +ℤ pos 1000)) beats.costs es rs u e in
          let fewer : y.way.demerits <ℤ paid es rs u = omega (arith, ints, more) in (
            shown y.branch,
            counts-as-good g u (shown y.branch) same (next-keeps (sides_of g) broken u es rs (sides-with (sides_of g) s (forced c ∷ c.nodes) reached.sides (next-sides g k)) e) counts,
            waits (shown y.branch) (items_ahead g k) (paid es rs u) breaks
                (level-rows t k inside table beaten.level beaten.here (shown y.branch) (items_ahead g k) (paid es rs u) breaks (known-fewer g k beaten.level.items beaten.place y (paid es rs u) breaks beaten.beats.inside (sym y_is) fewer)),
          )

    pub beaten-searched : IsPlainPage s → k < length t.starts.items → IsBeaten t k x.branch x.way line prices.prices.items → (y : Start) → IsCutSearched t s (items_ahead g (suc k)) x.way.demerits (reverse x.way.breaks.items)
    beaten-searched page inside h d =
        let y = get_or h.level.items h.place d in
        searched-by (stands page inside h y (get-same h.level.items h.place d h.beats.inside))
