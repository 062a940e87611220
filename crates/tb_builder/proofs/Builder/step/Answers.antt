use Rattle.std.proofs.Common.{◌≡◌, refl, sym, ◌∙◌, ap, true, map, ◌∷◌, List, None, FitsSigned, w64, rules}
use Rattle.std.proofs.lemmas.Int.{to_z-of_z}
use Rattle.std.proofs.lemmas.List.{length-map}
use Rattle.tb_pool.specs.Lists.{list_at}
use Rattle.tb_node.specs.declared.Node.{Node}
use Rattle.tb_node.specs.NodeView.{NodeView}
use Rattle.tb_node.specs.PlainNodes.{plain_of}
use Rattle.tb_node.specs.Roles.{act_of_kind}
use Rattle.tb_builder.specs.declared.Builder.{Builder}
use Rattle.tb_builder.specs.Contents.{contents_of}
use Rattle.tb_builder.specs.Courses.{kept_frozen}
use Rattle.tb_builder.specs.CourseOffers.{OfferIs}
use Rattle.tb_builder.specs.LegalPlaces.{glue_first, node_penalty}
use Rattle.tb_builder.specs.PageTurns.{StepFits, places_on}
use Rattle.tb_builder.proofs.Turns.FillLemmas.{Went, went_from, first_is}
use Rattle.tb_builder.proofs.Turns.StepLemmas.{step_sums, penalty_first, plain_first, passed_step, tried_stops, tried_goes}
use Rattle.tb_builder.proofs.Builder.step.Goals.{In-Some, After-penalty_of, After-move_first, After-offer-self, After-move_first-2}
use Rattle.tb_builder.proofs.Builder.step.Goals as goal

-- the first waiting node, and what is behind it
rest : (c : In-Some) → (ns : List Node) × (list_at c.args.store.now c.args.self.now.waiting ≡ c.in-Some.n.now ∷ ns)
rest c = first_is (list_at c.args.store.now c.args.self.now.waiting) c.in-Some.n.now (sym c.in-Some.ensures)

-- what is added up with it fits
fits_here : (c : In-Some) → (let before = contents_of c.args.self.now c.args.store.now in StepFits (kept_frozen before) before.page (list_at c.args.store.now) c.in-Some.n.now)
fits_here c = c.requires.fits c.in-Some.n.now (sym c.in-Some.ensures)

-- the penalty of the place before it
penalty_here : (c : After-penalty_of) (ns : List Node) → list_at c.args.store.now c.args.self.now.waiting ≡ c.in-Some.n.now ∷ ns → act_of_kind c.in-Some.n.now.kind ≡ None
    → (let held = list_at c.args.store.now in node_penalty c.args.self.now.course.lasting (glue_first (map (plain_of held) ns)) (plain_of held c.in-Some.n.now) ≡ c.penalty_of.result)
penalty_here c ns first none = penalty_first (list_at c.args.store.now) _ _ c.penalty_of.result _ ns c.in-Some.n.now first none refl c.penalty_of.ensures.value

-- ---- the place before the node is no legal place

-- the node went on the page
went : (c : After-move_first) → Went c.args.self.now (record c.args.self.now { course = c.put.new.self }) c.args.store.now c.move_first.new.self c.in-Some.n.now
went c = went_from _ _ _ c.move_first.new.self _ refl refl refl c.requires.own (sym c.in-Some.ensures) c.move_first.ensures.moved

pub put-requires-clause-fits : goal.put-requires-clause-fits
put-requires-clause-fits c =
    let before = contents_of c.args.self.now c.args.store.now in
    step_sums _ c.args.self.now.course before.page _ (list_at c.args.store.now) _ c.requires.underway.course (fits_here (goal.at.put-requires-clause-fits c).In-Some)

pub returns-in_default-penalty_of-clause-moves : goal.returns-in_default-penalty_of-clause-moves
returns-in_default-penalty_of-clause-moves c = (went c).moves

pub returns-in_default-penalty_of-clause-step : goal.returns-in_default-penalty_of-clause-step
returns-in_default-penalty_of-clause-step c =
    let w = goal.at.returns-in_default-penalty_of-clause-step c in
    let b = c.args.self.now in
    let before = contents_of b c.args.store.now in
    let held = list_at c.args.store.now in
    let z = kept_frozen before in
    let fits = fits_here w.In-Some in
    let f = rest w.In-Some in
    passed_step z b.course c.put.new.self before _ held c.in-Some.n.now (map (plain_of held) f.0) c.requires.underway fits (plain_first held _ f.0 _ f.1)
    (penalty_here w.After-penalty_of f.0 f.1 fits.no_act ∙ c.in_default-penalty_of.is) (went c).shifted
    (c.put.ensures z before.page (places_on z before) held c.requires.underway.course fits.no_act fits.no_insertion)

pub returns-in_default-penalty_of-clause-behind : goal.returns-in_default-penalty_of-clause-behind
returns-in_default-penalty_of-clause-behind c = λ m ns on e. (went c).behind m ns e

pub returns-in_default-penalty_of-clause-boxed : goal.returns-in_default-penalty_of-clause-boxed
returns-in_default-penalty_of-clause-boxed c = (went c).boxed

-- ---- the place is tried

-- what the course says of the place
offered : (c : After-offer-self) → (let before = contents_of c.args.self.now c.args.store.now in OfferIs (kept_frozen before) c.offer-self.new.self before.page (places_on (kept_frozen before) before) c.offer-self.result c.n.inside.line c.in-Some-penalty_of.penalty)
offered c =
    let before = contents_of c.args.self.now c.args.store.now in
    let z = kept_frozen before in
    let p : FitsSigned w64 c.in-Some-penalty_of.penalty = search rules in
    let told = simp to_z-of_z at c.offer-self.ensures in
    told z before.page (places_on z before) c.requires.underway.course (c.len.ensures ∙ sym (length-map (list_at c.args.store.now c.args.self.now.page) (plain_of (list_at c.args.store.now))))

pub returns-then-stops-clause-step : goal.returns-then-stops-clause-step
returns-then-stops-clause-step c =
    let w = goal.at.returns-then-stops-clause-step c in
    let b = c.args.self.now in
    let s = c.args.store.now in
    let held = list_at s in
    let fits = fits_here w.In-Some in
    let f = rest w.In-Some in
    let line_is = ap (λ (m : NodeView). m.line) c.n.view_is in
    let d : Builder = record b { stopped = true; tried = c.offer-self.result; course = c.offer-self.new.self } in
    tried_stops _ b.course c.offer-self.new.self (contents_of b s) held c.in-Some.n.now c.in-Some-penalty_of.penalty c.offer-self.result c.n.inside.line c.requires.underway fits (offered w.After-offer-self) line_is (contents_of d s)
    (map (plain_of held) f.0) (plain_first held _ f.0 _ f.1) (penalty_here w.After-penalty_of f.0 f.1 fits.no_act ∙ c.in-Some-penalty_of.is) (sym c.stops.ensures ∙ c.if-stops.true) refl refl refl

-- ---- it is no stop

-- the node went on the page
went_tried : (c : After-move_first-2) → Went c.args.self.now (record c.args.self.now { tried = c.offer-self.result; course = c.put-2.new.self }) c.args.store.now c.move_first-2.new.self c.in-Some.n.now
went_tried c = went_from _ _ _ c.move_first-2.new.self _ refl refl refl c.requires.own (sym c.in-Some.ensures) c.move_first-2.ensures.moved

pub put-requires-2-clause-fits : goal.put-requires-2-clause-fits
put-requires-2-clause-fits c =
    let w = goal.at.put-requires-2-clause-fits c in
    let before = contents_of c.args.self.now c.args.store.now in
    step_sums _ c.offer-self.new.self before.page _ (list_at c.args.store.now) _ (offered w.After-offer-self).course (fits_here w.In-Some)

pub returns-clause-moves : goal.returns-clause-moves
returns-clause-moves c = (went_tried c).moves

pub returns-clause-step : goal.returns-clause-step
returns-clause-step c =
    let w = goal.at.returns-clause-step c in
    let b = c.args.self.now in
    let s = c.args.store.now in
    let before = contents_of b s in
    let held = list_at s in
    let z = kept_frozen before in
    let fits = fits_here w.In-Some in
    let f = rest w.In-Some in
    let line_is = ap (λ (m : NodeView). m.line) c.n.view_is in
    let shifted = (went_tried c).shifted in
    tried_goes z b.course c.offer-self.new.self before held c.in-Some.n.now c.in-Some-penalty_of.penalty c.offer-self.result c.n.inside.line c.requires.underway fits (offered w.After-offer-self) line_is c.put-2.new.self _
    (map (plain_of held) f.0) (plain_first held _ f.0 _ f.1) (penalty_here w.After-penalty_of f.0 f.1 fits.no_act ∙ c.in-Some-penalty_of.is) (sym c.stops.ensures ∙ c.if-stops.false) shifted (shifted.stopped ∙ c.requires.on)
    (λ bs h. c.put-2.ensures z before.page bs held h fits.no_act fits.no_insertion)

pub returns-clause-behind : goal.returns-clause-behind
returns-clause-behind c = λ m ns on e. (went_tried c).behind m ns e

pub returns-clause-boxed : goal.returns-clause-boxed
returns-clause-boxed c = (went_tried c).boxed
