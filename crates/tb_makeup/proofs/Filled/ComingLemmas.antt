-- A page that is filled, event by event, as steps of the run.
use Rattle.std.proofs.Common.{◌≡◌, refl, sym, ◌∙◌, ap, subst, ℕ, true, false, List, [], ◌∷◌, ◌++◌, Option, append_assoc, append-nil}
use Rattle.std.specs.Prelude.{if◌then◌else◌}
use Rattle.std.proofs.lemmas.Bool.{true≢false}
use Rattle.tb_pool.specs.Lists.{Lists}
use Rattle.tb_node.specs.declared.Act.{Act}
use Rattle.tb_node.specs.declared.Node.{Node}
use Rattle.tb_node.specs.PlainNodes.{PlainKind, plain, ins, act, PlainNode, is_act_kind}
use Rattle.tb_param.specs.declared.Params.{Params}
use Rattle.tb_break.specs.Best.{Breakpoint, least_cost}
use Rattle.tb_builder.specs.declared.Ask.{Ask}
use Rattle.tb_builder.specs.declared.Builder.{Builder}
use Rattle.tb_builder.specs.declared.Event.TheVariants as events
use Rattle.tb_builder.specs.declared.Try.{Try}
use Rattle.tb_builder.specs.Reach.{Reached, acted, tried, Reach, breakpoints, laid_out}
use Rattle.tb_builder.specs.FiredPages.{fired_of}
use Rattle.tb_builder.specs.Contents.{Contents, contents_of, laid, reach_ahead, frozen_with}
use Rattle.tb_builder.specs.PageProgress.{page_reach, page_fired, KeepsStart, GoesFrom, StopsAt, HasCome, ComesToTry, ComesToAct, ComesToEnd}
use Rattle.tb_builder.specs.PassedNodes.{ComesPast, ActsPast, EventPast}
use Rattle.tb_builder.specs.LegalPlaces.{NoActs}
use Rattle.tb_builder.specs.Courses.{IsSound}
use Rattle.tb_builder.proofs.Turns.PastLemmas.{past-none, past-after}
use Rattle.tb_builder.proofs.Events.SoFarLemmas.{AllTried, ComesSoFar, comes-so-far}
use Rattle.tb_builder.specs.PageSums.{page_sums_of}
use Rattle.tb_items.specs.ItemsLeft.{with_more}
use Rattle.tb_plain.specs.TakenFloats.{act_nodes}
use Rattle.tb_plain.specs.Run.{MakeupState, goes_on, makeup_ask, makeup_classes, void_boxes, builder_holds, makeup_reach, at_act, after_node, first_act_by, first_act, meets_act, act_step, firing_step, last_step, step_of, makeup_step, tries_first, step_tries}
use Rattle.tb_makeup.specs.declared.makeup_left.MakeupLeft.{MakeupLeft}
use Rattle.tb_makeup.specs.MakeupLeft.{nodes_left}
use Rattle.tb_makeup.proofs.Filled.HoldLemmas.{holds-more, state-made}
use Rattle.tb_makeup.proofs.Filled.MoreLemmas.{IsOpenFor, so-far-left}
use Rattle.tb_makeup.proofs.Filled.TriedLemmas.{tries-more, tries-cut, tried-both, same-rest}

-- ---- the first act

first-kind : (l : ℕ) (k : PlainKind) (xs ys : List PlainNode) (m : ℕ) (a : Act) → is_act_kind k ≡ false → first_act (xs ++ record { line = m; kind = act a } ∷ ys) ≡ at_act xs a ys
    → (let n : PlainNode = record { line = l; kind = k } in first_act_by n (xs ++ record { line = m; kind = act a } ∷ ys) (first_act (xs ++ record { line = m; kind = act a } ∷ ys)) k ≡ at_act (n ∷ xs) a ys)
first-kind l (plain x) xs ys m a f e = ap (after_node (record { line = l; kind = plain x })) e
first-kind l (ins i) xs ys m a f e = ap (after_node (record { line = l; kind = ins i })) e
first-kind l (act b) xs ys m a f e = absurd (true≢false f)

pub first-is : (xs ys : List PlainNode) (m : ℕ) (a : Act) → NoActs xs → first_act (xs ++ record { line = m; kind = act a } ∷ ys) ≡ at_act xs a ys
first-is [] ys m a h = refl
first-is (x ∷ xs) ys m a h = first-kind x.line x.kind xs ys m a h.0 (first-is xs ys m a h.1)

-- ---- what is met

meets-none : (rs : List Reached) → AllTried rs → meets_act rs ≡ false
meets-none [] h = refl
meets-none (acted a ∷ rs) h = absurd h
meets-none (tried l b ∷ rs) h = meets-none rs h

meets-one : (rs qs : List Reached) (a : Act) → meets_act ((rs ++ acted a ∷ []) ++ qs) ≡ true
meets-one [] qs a = refl
meets-one (acted b ∷ rs) qs a = refl
meets-one (tried l b ∷ rs) qs a = meets-one rs qs a

tried-more : (rs : List Reached) (l : ℕ) (b : Breakpoint) → AllTried rs → AllTried (rs ++ tried l b ∷ [])
tried-more [] l b h = tt
tried-more (acted a ∷ rs) l b h = absurd h
tried-more (tried m c ∷ rs) l b h = tried-more rs l b h

-- ---- so far

-- the builder is on the page of this state, and no act was reached since: the places of the page so far were reached first, and after them new ones, which were tried
pub record IsComing (p : Params) (s : MakeupState) (ts : List Try) (c : Contents) : Type 0 where
  pub first : List Reached
  pub new : List Reached
  pub begun : GoesFrom (builder_holds p s) first (builder_holds p s) (makeup_ask p)
  pub come : HasCome (builder_holds p s) (first ++ new) c (makeup_ask p)
  pub front : AllTried first
  pub tried : AllTried new
  pub are : tries_first (least_cost (breakpoints first)) new ≡ ts
  pub all : laid c (makeup_ask p) ≡ laid_out p.topskip s.page s.waiting
  pub past : c.stopped ≡ false → ComesPast c.waiting (builder_holds p s) c (makeup_ask p)

-- if it holds what the state says, with the nodes of the items that are left
pub coming-start : (p : Params) (s : MakeupState) (b : Builder) (t : Lists Node) (o : Option MakeupLeft) → IsSound b t → with_more (nodes_left o) (contents_of b t) ≡ builder_holds p s → IsOpenFor o (contents_of b t) (makeup_ask p)
    → IsComing p s [] (with_more (nodes_left o) (contents_of b t))
coming-start p s b t o sound e ends =
    let c = with_more (nodes_left o) (contents_of b t) in
    let going = ap (λ (c : Contents). c.stopped) e in
    let made : frozen_with b.frozen (makeup_ask p) ≡ makeup_ask p = ap (λ (c : Contents). frozen_with c.frozen (makeup_ask p)) e ∙ state-made p s in
    let so-far : ComesSoFar c (makeup_ask p) = so-far-left o (contents_of b t) (makeup_ask p) going ends (comes-so-far b t (makeup_ask p) sound going made) in
    record {
      first = so-far.rs;
      new = [];
      begun = subst (λ c. GoesFrom c so-far.rs c (makeup_ask p)) e (so-far.come.goes going);
      come = subst (λ rs. HasCome (builder_holds p s) rs c (makeup_ask p)) (sym (append-nil so-far.rs)) (subst (λ x. HasCome x so-far.rs c (makeup_ask p)) e so-far.come);
      front = so-far.tried;
      tried = tt;
      are = refl;
      all = ap (λ c. laid c (makeup_ask p)) e;
      past = λ on. past-none c.waiting (builder_holds p s) c (makeup_ask p) (ap (λ (c : Contents). c.waiting) (sym e)) (ap (λ (c : Contents). c.page) e);
    }

module _ (p : Params) (s : MakeupState) (ts : List Try) (c : Contents) (h : IsComing p s ts c) where
  abbrev ask : Ask
  ask = makeup_ask p

  abbrev pub start : Contents
  start = builder_holds p s

  abbrev pub rs : List Reached
  rs = h.first ++ h.new

  all-tried : AllTried rs
  all-tried = tried-both h.first h.new h.front h.tried

  -- the places that were tried are those of the step, if no more are before an act among what is reached past the page so far
  tries-are : (qs : List Reached) → (page_reach start ask).reached ≡ h.first ++ qs → tries_first (least_cost (breakpoints h.first)) qs ≡ tries_first (least_cost (breakpoints h.first)) h.new → step_tries p s ≡ ts
  unfolding step_tries
  tries-are qs e same =
      let ahead : (reach_ahead start ask).reached ≡ qs = same-rest h.first (reach_ahead start ask).reached qs (sym (ap (λ (x : Reach). x.reached) h.begun.reach) ∙ e) in
      (λ i. tries_first (least_cost (h.begun.places i)) (ahead i)) ∙ same ∙ h.are

  module _ (d : Contents) where
    -- ---- a place was tried

    pub coming-tried : (x : Try) → ComesToTry x start rs c ask d → EventPast (events.Try x) c d ask → IsComing p s (ts ++ x ∷ []) d
    coming-tried x n q = record {
      first = h.first;
      new = h.new ++ tried n.line n.place ∷ [];
      begun = h.begun;
      come = subst (λ qs. HasCome start qs d ask) (append_assoc h.first h.new (tried n.line n.place ∷ [])) n.come;
      front = h.front;
      tried = tried-more h.new n.line n.place h.tried;
      are = tries-more h.first h.new n.line n.place h.tried ∙ (λ i. h.are i ++ sym n.made i ∷ []);
      all = n.whole ∙ h.all;
      past = λ go. past-after d.waiting start c d ask (h.past n.going) (q go).comes;
    }

    -- ---- an act was reached

    module _ (a : Act) (n : ComesToAct a start rs c ask d) (q : ActsPast a c d ask) where
      -- all nodes before it went to the page
      pub acted-past : ComesPast (record { line = q.line; kind = act a } ∷ d.waiting) start d ask
      acted-past = past-after (record { line = q.line; kind = act a } ∷ d.waiting) start c d ask (h.past n.going) q.comes

      -- the state when it was reached
      abbrev pub reached : MakeupState
      reached = record s { page = laid_out p.topskip s.page acted-past.before; waiting = d.waiting }

      meets : meets_act (page_reach start ask).reached ≡ true
      meets = ap (λ (x : Reach). meets_act x.reached) (n.come.goes n.stop).reach ∙ meets-one rs (reach_ahead d ask).reached a

      pub acted-tries : step_tries p s ≡ ts
      acted-tries =
          let more = (reach_ahead d ask).reached in
          tries-are ((h.new ++ acted a ∷ []) ++ more) (ap (λ (x : Reach). x.reached) (n.come.goes n.stop).reach ∙ ap (λ qs. qs ++ more) (append_assoc h.first h.new (acted a ∷ [])) ∙ append_assoc h.first (h.new ++ acted a ∷ []) more)
          (tries-cut (least_cost (breakpoints h.first)) h.new a more h.tried)

      pub acted-step : makeup_step p s ≡ goes_on [] (record reached { waiting = act_nodes p (page_sums_of (builder_holds p reached)) a ++ d.waiting })
      unfolding makeup_step
      acted-step =
          let w = page_reach start ask in
          ap (λ x. if x then act_step p s (first_act s.waiting) else (if w.fires then firing_step p s.number (fired_of ask (makeup_classes p) void_boxes w) else last_step s w.passed)) meets
          ∙ ap (act_step p s) (ap first_act acted-past.is.waiting ∙ first-is acted-past.before d.waiting q.line a acted-past.is.no_acts)

      -- the builder holds what the state says
      pub acted-state : (e : Builder) (u : Lists Node) (more : List PlainNode) → with_more more (contents_of e u) ≡ d → IsSound e u → d ≡ builder_holds p reached
      acted-state e u more is snd =
          let held = holds-more p s e u more s.number snd (ap (λ (x : Contents). x.stopped) is ∙ n.stop) (subst (λ x. KeepsStart start x ask) (sym is) n.come.stays) in
          sym is ∙ held ∙ ap (λ (x : Contents). builder_holds p (record { page = x.page; waiting = x.waiting; number = s.number })) is
          ∙ ap (λ ns. builder_holds p (record { page = ns; waiting = d.waiting; number = s.number })) acted-past.is.page

    -- ---- nothing waits

    module _ (n : ComesToEnd start rs c ask d) where
      pub over-tries : step_tries p s ≡ ts
      over-tries = tries-are h.new (ap (λ (x : Reach). x.reached) n.reach) refl

      pub over-step : makeup_step p s ≡ last_step s d.page
      unfolding makeup_step
      over-step = ap (λ (x : Reach). step_of p s x) n.reach ∙ ap (λ x. if x then act_step p s (first_act s.waiting) else last_step s d.page) (meets-none rs all-tried)

      pub over-fires : (makeup_reach p s).fires ≡ false
      over-fires = ap (λ (x : Reach). x.fires) n.reach

      pub over-past : ComesPast d.waiting c d ask → ComesPast d.waiting start d ask
      over-past q = past-after d.waiting start c d ask (h.past n.going) q

  -- ---- the page fires

  pub fires-tries : c.stopped ≡ true → step_tries p s ≡ ts
  fires-tries off = tries-are h.new (ap (λ (x : Reach). x.reached) (h.come.stops off).reach) refl

  pub fires-step : c.stopped ≡ true → makeup_step p s ≡ firing_step p s.number (page_fired start ask)
  unfolding makeup_step
  fires-step off =
      let stop : StopsAt start rs c ask = h.come.stops off in
      let last : Reach = record { reached = rs; passed = c.page; beyond = c.waiting; fires = true } in
      ap (λ (x : Reach). step_of p s x) stop.reach
      ∙ ap (λ x. if x then act_step p s (first_act s.waiting) else firing_step p s.number (fired_of ask (makeup_classes p) void_boxes last)) (meets-none rs all-tried)
      ∙ ap (λ (x : Reach). firing_step p s.number (fired_of ask (makeup_classes p) void_boxes x)) (sym stop.reach)
