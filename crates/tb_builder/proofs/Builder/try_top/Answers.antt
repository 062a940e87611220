use Rattle.std.proofs.Common.{◌≡◌, refl, sym, subst, ◌∙◌, ap, ℕ, ◌+◌, ◌-◌, pos, drop, map, length, true, Some, arith}
use Rattle.std.proofs.lemmas.List.{length-map}
use Rattle.tb_pool.specs.Lists.{Lists, list_at}
use Rattle.tb_node.specs.declared.Node.{Node}
use Rattle.tb_node.specs.NodeView.{NodeView}
use Rattle.tb_node.specs.PlainNodes.{plain_of}
use Rattle.tb_node.specs.NodeSums.{added_node}
use Rattle.tb_node.specs.SmallAmounts.{IsSmall}
use Rattle.tb_break.specs.SplitPlace.{penalty_by}
use Rattle.tb_builder.specs.declared.Builder.{Builder}
use Rattle.tb_builder.specs.Contents.{contents_of}
use Rattle.tb_builder.specs.Courses.{kept_frozen, nodes_glue_first}
use Rattle.tb_builder.specs.CourseOffers.{OfferIs}
use Rattle.tb_builder.specs.LegalPlaces.{glue_first, node_penalty}
use Rattle.tb_builder.specs.PageTurns.{with_top, ChangesPage, TriesOn, places_on}
use Rattle.tb_builder.proofs.Events.WalkLemmas.{seen_space}
use Rattle.tb_builder.proofs.Turns.FillLemmas.{Went}
use Rattle.tb_builder.proofs.Turns.StepLemmas.{step_sums, penalty_first, plain_first, tried_stops, tried_goes}
use Rattle.tb_builder.proofs.Turns.TopLemmas.{top_list, top_page, top_went}
use Rattle.tb_builder.proofs.Builder.try_top.Goals.{Start, After-offer-self, After-push_front, After-push_back}
use Rattle.tb_builder.proofs.Builder.try_top.Goals as goal

-- the lists with the glue before what waits
abbrev top : (c : Start) → Lists Node
top c = with_top c.args.store.now c.args.self.now.waiting c.args.glue

-- the penalty of the place before the glue
legal_here : (c : Start) → (let held = list_at (top c) in node_penalty c.args.self.now.course.lasting (glue_first (map (plain_of held) (list_at c.args.store.now c.args.self.now.waiting))) (plain_of held c.args.glue) ≡ Some (pos 0))
legal_here c =
    let b = c.args.self.now in
    let s = c.args.store.now in
    let g = c.args.glue in
    let t = top c in
    let follows = nodes_glue_first (drop 1 (list_at t b.waiting)) in
    penalty_first (list_at t) b.course.lasting follows (Some (pos 0)) (list_at t b.waiting) (list_at s b.waiting) g (top_list s b.waiting g) c.requires.waits.fits.no_act refl
    (sym (λ j. penalty_by (c.requires.lasting j) follows ((seen_space g c.requires.space).shape j)))

-- what the course says of the place
offered : (c : After-offer-self) → (let here = contents_of c.args.self.now (top (goal.at.After-offer-self c).Start) in OfferIs (kept_frozen here) c.offer-self.new.self here.page (places_on (kept_frozen here) here) c.offer-self.result c.glue.inside.line (pos 0))
offered c =
    let b = c.args.self.now in
    let t = top (goal.at.After-offer-self c).Start in
    let here = contents_of b t in
    let z = kept_frozen here in
    c.offer-self.ensures z here.page (places_on z here) c.requires.waits.underway.course
    (c.len.ensures ∙ sym (length-map (list_at t b.page) (plain_of (list_at t)) ∙ ap length (top_page b c.args.store.now c.args.glue c.requires.own)))

-- ---- the place is a stop

one_less : (n m : ℕ) → n + 1 ≡ m → n ≡ m - 1
one_less n m e = omega (arith, e)

pushed : (c : After-push_front) → c.push_front.new.self ≡ top (goal.at.After-push_front c).Start
pushed c = λ i. record { lists = c.push_front.ensures.pushed i; spare = one_less c.push_front.new.self.spare c.args.store.now.spare c.push_front.ensures.spare i }

-- the builder that stopped
abbrev stopped : (c : After-push_front) → Builder
stopped c = record c.args.self.now { stopped = true; tried = c.offer-self.result; course = c.offer-self.new.self }

pub returns-then-stops-clause-moves : goal.returns-then-stops-clause-moves
returns-then-stops-clause-moves c =
    let i = (goal.at.returns-then-stops-clause-moves c).After-push_front in
    let b = c.args.self.now in
    let t = top (goal.at.returns-then-stops-clause-moves c).Start in
    let still : ChangesPage b t (stopped i) t = record {
      own = c.requires.waits.own;
      frame = record { others = λ q h. refl; apart = λ q h. h };
      classes = refl;
      boxes = refl;
      held = refl;
    }
    in
    subst (λ y. ChangesPage b t (stopped i) y) (sym (pushed i)) still

pub returns-then-stops-clause-step : goal.returns-then-stops-clause-step
returns-then-stops-clause-step c =
    let w = goal.at.returns-then-stops-clause-step c in
    let i = w.After-push_front in
    let b = c.args.self.now in
    let s = c.args.store.now in
    let g = c.args.glue in
    let t = top w.Start in
    let held = list_at t in
    let before = contents_of b t in
    let z = kept_frozen before in
    let l = c.offer-self.new.self in
    let line_is = ap (λ (m : NodeView). m.line) c.glue.view_is in
    subst (λ y. TriesOn z c.offer-self.result l before (contents_of (stopped i) y)) (sym (pushed i))
    (tried_stops z b.course l before held g (pos 0) c.offer-self.result c.glue.inside.line c.requires.waits.underway c.requires.waits.fits (offered w.After-offer-self) line_is (contents_of (stopped i) t)
    (map (plain_of held) (list_at s b.waiting)) (plain_first held _ (list_at s b.waiting) g (top_list s b.waiting g)) (legal_here w.Start) (sym c.stops.ensures ∙ c.if-stops.true) refl refl refl)

-- ---- it is no stop

pub put_glue-requires-clause-fits : goal.put_glue-requires-clause-fits
put_glue-requires-clause-fits c =
    let w = goal.at.put_glue-requires-clause-fits c in
    let t = top w.Start in
    let here = contents_of c.args.self.now t in
    let l = c.offer-self.new.self in
    subst (λ x. IsSmall (added_node l.scan.max_depth l.scan.sums x)) c.glue_in.ensures
    (step_sums (kept_frozen here) l here.page _ (list_at t) c.args.glue (offered w.After-offer-self).course c.requires.waits.fits)

-- the builder with the glue on its page
abbrev laid : (c : After-push_back) → Builder
laid c = record c.args.self.now { tried = c.offer-self.result; course = c.put_glue.new.self }

-- the glue went on the page
went : (c : After-push_back) → Went c.args.self.now (laid c) (top (goal.at.After-push_back c).Start) c.push_back.new.self c.args.glue
went c = top_went c.args.self.now (laid c) c.args.store.now c.push_back.new.self c.args.glue refl refl refl c.requires.own c.requires.waits.own c.push_back.ensures.pushed

pub returns-clause-moves : goal.returns-clause-moves
returns-clause-moves c = (went (goal.at.returns-clause-moves c).After-push_back).moves

pub returns-clause-behind : goal.returns-clause-behind
returns-clause-behind c = λ n ns on e. (went (goal.at.returns-clause-behind c).After-push_back).behind n ns e

pub returns-clause-step : goal.returns-clause-step
returns-clause-step c =
    let w = goal.at.returns-clause-step c in
    let b = c.args.self.now in
    let s = c.args.store.now in
    let g = c.args.glue in
    let t = top w.Start in
    let held = list_at t in
    let before = contents_of b t in
    let z = kept_frozen before in
    let fits = c.requires.waits.fits in
    let line_is = ap (λ (m : NodeView). m.line) c.glue.view_is in
    let shifted = (went w.After-push_back).shifted in
    tried_goes z b.course c.offer-self.new.self before held g (pos 0) c.offer-self.result c.glue.inside.line c.requires.waits.underway fits (offered w.After-offer-self) line_is c.put_glue.new.self (contents_of (laid w.After-push_back) c.push_back.new.self)
    (map (plain_of held) (list_at s b.waiting)) (plain_first held _ (list_at s b.waiting) g (top_list s b.waiting g)) (legal_here w.Start) (sym c.stops.ensures ∙ c.if-stops.false) shifted (shifted.stopped ∙ c.requires.on)
    (λ bs h. c.put_glue.ensures g z before.page bs held c.glue_in.ensures h fits.no_act fits.no_insertion)
