-- What a page at least costs that is broken by force at a place that was tried on a longer page.
use Rattle.std.proofs.Common.{◌≡◌, refl, sym, subst, ◌∙◌, ap, ℕ, ◌+◌, ◌*◌, ℤ, Bool, true, false, List, [], ◌∷◌, ◌++◌, map, Option, Some, None, arith}
use Rattle.std.specs.Prelude.{pos, ◌+ℤ◌, ◌<ℤ◌, ◌≤ℤ◌, ◌||◌, int_lt, int_le, if◌then◌else◌}
use Rattle.std.proofs.lemmas.Int.{ints}
use Rattle.tb_scaled.specs.Scaled.{awful_bad, eject_penalty, min_ℤ}
use Rattle.tb_node.specs.Shape.{is_box}
use Rattle.tb_node.specs.PlainNodes.{pen, plain, PlainNode, node_shape, is_insertion_kind}
use Rattle.tb_param.specs.declared.Params.{Params}
use Rattle.tb_break.specs.PageTop.{pruned_nodes}
use Rattle.tb_insert.specs.Account.{terms_after}
use Rattle.tb_builder.specs.declared.Ask.{Ask}
use Rattle.tb_builder.specs.declared.Try.{Try}
use Rattle.tb_builder.specs.Courses.{freezes}
use Rattle.tb_builder.specs.Reach.{Reached, Reach, holds_box, try_of, reach_from}
use Rattle.tb_builder.specs.FiredPages.{frozen_for, fired_of, reach_of}
use Rattle.tb_sheet.specs.declared.Warn.{Warn}
use Rattle.tb_sheet.specs.Sheet.{warned}
use Rattle.tb_output.specs.State.{State, Recorded, Work}
use Rattle.tb_output.specs.Act.{Acted, went, full, act_on}
use Rattle.tb_output.specs.Output.{out}
use Rattle.tb_output.proofs.KeptParams.{out-keeps-params}
use Rattle.tb_items.specs.RunEvents.{RunEvent, sent}
use Rattle.tb_steps.specs.Run.{Progress, progress, progress_by, Step, ends, goes_on, ask_for}
use Rattle.tb_steps.proofs.LedLemmas.{led-begun}
use Rattle.tb_rate.specs.declared.PlacePenalty.{PlacePenalty}
use Rattle.tb_rate.specs.Rating.{rated, rating}
use Rattle.tb_rate.specs.Tries.{later_champion, champion_or, last_champion, first_number}
use Rattle.tb_rate.specs.RatedRun.{demerits_if, floats_waiting, insertions_first}
use Rattle.tb_best.specs.PlanDemerits.{reach_in, unlimited_firing, unlimited_fire, unlimited_progress, unlimited_step, step_demerits}
use Rattle.tb_best.specs.ItemsAhead.{Ahead, forced, state_with}
use Rattle.tb_best.specs.PlacePrices.{tries_among, sets_any, AreAbove, AreDear, IsPlaceBehind}
use Rattle.tb_best.proofs.TopBreaks.{asked-in}
use Rattle.tb_best.proofs.StepMore.{progress-more}
use Rattle.tb_best.proofs.CutPages.{box-first}
use Rattle.tb_best.proofs.CountedStates.{champion-before}
use Rattle.tb_best.proofs.PlacePricesParams.{acts-keep, pruned-any}
use Rattle.tb_best.proofs.PlacePricesReach.{forced_place, BreaksOff, here, past_act, past_try, left_out, broken-acts, reach-cut, place-behind}

-- ---- warnings are no tries

warned-tries : (ws : List Warn) (es : List RunEvent) → tries_among (map (λ w. sent (warned w)) ws ++ es) ≡ tries_among es
warned-tries [] es = refl
warned-tries (w ∷ ws) es = warned-tries ws es

warned-champion : (best : Option Try) (ws : List Warn) (es : List RunEvent) → champion_or best (map (λ w. sent (warned w)) ws ++ es) ≡ champion_or best es
warned-champion best [] es = refl
warned-champion best (w ∷ ws) es = warned-champion best ws es

-- ---- the place at which the page breaks

low-least : (a b : ℤ) (t : Bool) → eject_penalty ≤ℤ a → eject_penalty ≤ℤ b → eject_penalty ≤ℤ (if t then a else b)
low-least a b true h k = h
low-least a b false h k = k

is-champion : (a : ℤ) → eject_penalty ≤ℤ a → int_le eject_penalty a ≡ true
is-champion a h = grind (arith, ints, h)

some-fault : {X : Type 0} {f : ℕ × ℕ} → Some f ≡ None → X
some-fault h = let no : ⊥ = (cc) in absurd no

module _ (places : List PlacePenalty) (p : Params) (line : ℕ) (d : ℤ) where
  -- the page breaks by force at a place with demerits above d
  pub record IsDear (place : Option Try) : Type 0 where
    pub chosen : Try
    pub is : place ≡ Some chosen
    pub forces : chosen.penalty ≡ eject_penalty
    pub dear : d <ℤ (rated p places 0 chosen 0 0).demerits

  -- these events tell of no place that costs less than a forced break, and the places on the line have prices above d
  abbrev Tells : List RunEvent → Type 0
  Tells es = AreDear (tries_among es) × AreAbove p places line d (tries_among es)

  -- the same with what comes first told
  untold : (ws : List Warn) (es : List RunEvent) → Tells (map (λ w. sent (warned w)) ws ++ es) → Tells es
  untold ws es h = subst (λ ts. AreDear ts × AreAbove p places line d ts) (warned-tries ws es) h

  abbrev Breaks : Option Try → Progress → Type 0
  Breaks best q = q.fault ≡ None → IsDear (champion_or best q.events)

  past-acted : (best : Option Try) (f g : State → Progress) (s : State) → ((t : State) → Tells (f t).events → Breaks best (g t)) → (x : Acted) → Tells (progress_by f s x).events → Breaks best (progress_by g s x)
  past-acted best f g s ih (went t ws rs) h e = subst IsDear (sym (warned-champion best ws (g t).events)) (ih t (untold ws (f t).events h) e)
  past-acted best f g s ih (full n live) h e = some-fault e

  pub breaks-dear : {rs qs : List Reached} → BreaksOff line rs qs → (least below : ℤ) → eject_penalty ≤ℤ below → (s : State) (best : Option Try) → Tells (progress rs least s).events → Breaks best (progress qs below s)
  breaks-dear (here b rs) least below low s best h e = record {
    chosen = try_of line (forced_place b) below;
    is = ap (λ t. if t then Some (try_of line (forced_place b) below) else best) (is-champion below low);
    forces = refl;
    dear = h.1.0 refl;
  }
  breaks-dear (past_act {rs = rs} {qs = qs} a k x) least below low s best h e =
      past-acted best (λ t. progress rs least t) (λ t. progress qs below t) s (λ t. breaks-dear x least below low t best) (act_on s.params s a) h e
  breaks-dear (past_try l b x) least below low s best h e =
      breaks-dear x (min_ℤ least b.cost) (min_ℤ below b.cost) (low-least below b.cost (int_le below b.cost) low h.0.0) s (later_champion best (try_of l b below)) (h.0.1, h.1.1) e
  breaks-dear (left_out l b x) least below low s best h e = breaks-dear x (min_ℤ least b.cost) below low s best (h.0.1, h.1.1) e

-- ---- what a state reaches whose waiting nodes have a box

box-freezes : (ns : List PlainNode) → holds_box ns ≡ true → freezes ns ≡ true
box-freezes [] h = h
box-freezes (n ∷ ns) h = by (is_box (node_shape n)) (is_insertion_kind n.kind) h (box-freezes ns)
  where
    by : (a b : Bool) → (a || holds_box ns) ≡ true → (holds_box ns ≡ true → freezes ns ≡ true) → ((a || b) || freezes ns) ≡ true
    by true b e ih = refl
    by false true e ih = refl
    by false false e ih = ih e

-- with nodes behind them its page is made for the same
asked-behind : (s : State) (more : List PlainNode) → holds_box s.waiting ≡ true → ask_for (state_with more s) ≡ ask_for s
asked-behind s more box = asked-in s (s.waiting ++ more) s.waiting (led-begun s.waiting more s (box-freezes s.waiting box))

-- what is laid out of the waiting nodes, and what is reached with nodes behind them
abbrev pub laid : State → List PlainNode
laid s = pruned_nodes (ask_for s).top_skip s.waiting

abbrev pub reach_with : State → List PlainNode → Reach
reach_with s ns = reach_from (ask_for s).max_depth (terms_after (frozen_for (ask_for s) s.classes s.boxes)) [] ns

pub reach-behind : (s : State) (more : List PlainNode) → holds_box s.waiting ≡ true → reach_in (state_with more s) ≡ reach_with s (laid s ++ more)
reach-behind s more box =
    ap (λ a. reach_of a s.classes s.boxes [] (s.waiting ++ more)) (asked-behind s more box) ∙ ap (reach_with s) (box-first (ask_for s).top_skip s.waiting more box)

-- a forced break on this line
abbrev cut_on : ℕ → PlainNode
cut_on line = record { line = line; kind = plain (pen eject_penalty) }

-- the page that is broken before a node, beside the longer one that does not fire
breaks-off : (s : State) (n : PlainNode) (more rest : List PlainNode) → holds_box s.waiting ≡ true → sets_any s.waiting ≡ false → IsPlaceBehind s.waiting n → (reach_in (state_with (n ∷ more) s)).fires ≡ false
    → BreaksOff n.line (reach_in (state_with (n ∷ more) s)).reached (reach_in (state_with (cut_on n.line ∷ rest) s)).reached
breaks-off s n more rest box steady place fires =
    let a = ask_for s in
    let top = a.top_skip in
    let found = place-behind top s.waiting n.kind box place in
    let off = λ (h : (reach_with s (laid s ++ record { line = n.line; kind = plain found.0 } ∷ more)).fires ≡ false).
    reach-cut a.max_depth (terms_after (frozen_for a s.classes s.boxes)) n.line found.0 found.1 more rest [] (laid s) (pruned-any top s.waiting steady) found.3 h in
    subst (λ w. w.fires ≡ false → BreaksOff n.line w.reached (reach_in (state_with (cut_on n.line ∷ rest) s)).reached) (sym (reach-behind s (n ∷ more) box))
    (subst (λ (w : Reach). (reach_with s (laid s ++ n ∷ more)).fires ≡ false → BreaksOff n.line (reach_with s (laid s ++ n ∷ more)).reached w.reached) (sym (reach-behind s (cut_on n.line ∷ rest) box))
    (subst (λ k. (reach_with s (laid s ++ record { line = n.line; kind = k } ∷ more)).fires ≡ false → BreaksOff n.line (reach_with s (laid s ++ record { line = n.line; kind = k } ∷ more)).reached (reach_with s (laid s ++ cut_on n.line ∷ rest)).reached) (sym found.2) off))
    fires

-- ---- a step that goes on

-- no act of its page was refused, and it breaks at the place, and goes on with the parameters, that the page led to
abbrev GoesOnAs : Progress → Step → Type 0
GoesOnAs q (ends es rs e) = Unit {0}
GoesOnAs q (goes_on es rs u) = (q.fault ≡ None) × (last_champion es ≡ last_champion q.events) × (u.params ≡ q.state.params)

either-on : (q : Progress) (t : Bool) (x y : Step) → GoesOnAs q x → GoesOnAs q y → GoesOnAs q (if t then x else y)
either-on q true x y h k = h
either-on q false x y h k = k

firing-on : (q : Progress) (w : Work) → q.fault ≡ None → w.state.params ≡ q.state.params → GoesOnAs q (unlimited_firing q.events q.records w)
firing-on q w e h = either-on q w.refused (ends _ _ _) (goes_on (q.events ++ map sent w.sent) (q.records ++ w.records) w.state) tt (e, champion-before None q.events w.sent, h)

progress-on : (a : Ask) (w : Reach) (q : Progress) (o : Option (ℕ × ℕ)) → q.fault ≡ o → GoesOnAs q (unlimited_progress a w q o)
progress-on a w q None e =
    let page = fired_of a q.state.classes q.state.boxes w in
    let fired = unlimited_firing q.events q.records (out q.state.params q.state page) in
    either-on q w.fires (unlimited_fire a w q) (ends _ _ _)
    (either-on q (int_lt (pos q.state.dead_cycles) q.state.params.maxdeadcycles) fired (ends _ _ _) (firing-on q (out q.state.params q.state page) e (out-keeps-params q.state.params q.state page)) tt) tt
progress-on a w q (Some f) e = tt

step-on : (s : State) → GoesOnAs (progress (reach_in s).reached awful_bad s) (unlimited_step s)
unfolding unlimited_step
step-on s = let q = progress (reach_in s).reached awful_bad s in progress-on (ask_for s) (reach_in s) q q.fault refl

-- ---- its demerits

more-left : (d x : ℤ) (w h : ℕ) → d <ℤ (x +ℤ pos (10000 * (0 + 0))) → d <ℤ (x +ℤ pos (10000 * (w + h)))
more-left d x w h less = omega (arith, ints, less)

rated-dear : (places : List PlacePenalty) (p : Params) (line : ℕ) (d : ℤ) (number w h : ℕ) (place : Option Try) → IsDear places p line d place → d <ℤ demerits_if (rating p places number place w h)
rated-dear places p line d number w h place is =
    let t = is.chosen in
    let r = rated p places number t w h in
    subst (λ v. d <ℤ demerits_if (rating p places number v w h)) (sym is.is)
    (subst (λ v. d <ℤ demerits_if (if int_lt v eject_penalty then None else Some r)) (sym is.forces)
    (more-left d _ w h is.dear))

-- the demerits of a page that is broken by force before a node are above d, if the prices of the places that were tried on its line are, on a longer page that does not fire, and no place there costs less than a forced break
pub cut-price : (places : List PlacePenalty) (s : State) (c : Ahead) (n : PlainNode) (more : List PlainNode) (d : ℤ) → n.line ≡ c.line
    → holds_box s.waiting ≡ true → sets_any s.waiting ≡ false → IsPlaceBehind s.waiting n
    → (reach_in (state_with (n ∷ more) s)).fires ≡ false
    → AreDear (tries_among (progress (reach_in (state_with (n ∷ more) s)).reached awful_bad (state_with (n ∷ more) s)).events)
    → AreAbove s.params places c.line d (tries_among (progress (reach_in (state_with (n ∷ more) s)).reached awful_bad (state_with (n ∷ more) s)).events)
    → (es : List RunEvent) (rs : List Recorded) (u : State) → unlimited_step (state_with (forced c ∷ c.nodes) s) ≡ goes_on es rs u
    → d <ℤ step_demerits places (state_with (forced c ∷ c.nodes) s) (goes_on es rs u)
cut-price places s c n more d line box steady place fires dear above es rs u e =
    let long = (reach_in (state_with (n ∷ more) s)).reached in
    let short = (reach_in (state_with (forced c ∷ c.nodes) s)).reached in
    let off : BreaksOff c.line long short = subst (λ l. BreaksOff l long (reach_in (state_with (cut_on l ∷ c.nodes) s)).reached) line (breaks-off s n more c.nodes box steady place fires) in
    let told : Tells places s.params c.line d (progress long awful_bad s).events = subst (λ q. Tells places s.params c.line d q.events) (progress-more long awful_bad s (n ∷ more)) (dear, above) in
    let on : GoesOnAs (progress short awful_bad s) (goes_on es rs u) = subst (λ q. GoesOnAs q (goes_on es rs u)) (progress-more short awful_bad s (forced c ∷ c.nodes)) (subst (GoesOnAs (progress short awful_bad (state_with (forced c ∷ c.nodes) s))) e (step-on (state_with (forced c ∷ c.nodes) s))) in
    let low : eject_penalty ≤ℤ awful_bad = omega (arith, ints) in
    let broken = breaks-dear places s.params c.line d off awful_bad awful_bad low s None told on.0 in
    let kept : u.params ≡ s.params = on.2 ∙ acts-keep short awful_bad s (broken-acts off) in
    subst (λ p. d <ℤ demerits_if (rating p places (first_number u.number es) (last_champion es) (floats_waiting u.floats) (insertions_first u.waiting))) (sym kept)
    (rated-dear places s.params c.line d (first_number u.number es) (floats_waiting u.floats) (insertions_first u.waiting) (last_champion es) (subst (IsDear places s.params c.line d) (sym on.1) broken))
