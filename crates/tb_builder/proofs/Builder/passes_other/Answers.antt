use Rattle.std.proofs.Common.{refl, sym, ◌∙◌, ◌+◌, drop, ap, ℕ, FitsSigned, w64, rules}
use Rattle.std.proofs.lemmas.Int.{to_z-of_z}
use Rattle.tb_pool.specs.Lists.{Lists, list_at}
use Rattle.tb_node.specs.declared.Node.{Node}
use Rattle.tb_node.specs.NodeView.{NodeView}
use Rattle.tb_builder.specs.declared.Builder.{Builder}
use Rattle.tb_builder.specs.Contents.{Contents, contents_of}
use Rattle.tb_builder.specs.Ownership.{ids_of}
use Rattle.tb_builder.specs.Courses.{kept_frozen}
use Rattle.tb_builder.specs.CourseOffers.{OfferIs}
use Rattle.tb_builder.specs.PageTurns.{places_on}
use Rattle.tb_builder.specs.PageWalks.{moved}
use Rattle.tb_builder.proofs.Events.WalkLemmas.{Walks, walk_fits, walk_sums, walk_course, walk_terms, walk_passes, walk_tries, walk_stops, page_length}
use Rattle.tb_builder.proofs.Builder.passes_other.Goals.{In-Some, After-offer-tried}
use Rattle.tb_builder.proofs.Builder.passes_other.Goals as goal

-- the node is the next of the walk
walks : (c : In-Some) → Walks c.args.self.now c.args.store.now c.args.ask.now c.args.n.now c.args.passed c.in-Some.follows
walks c = record {
  sound = c.requires.sound;
  on = c.requires.on;
  opened = c.requires.opened;
  fits = c.requires.fits;
  next = c.requires.first;
  no_act = c.in-Some.ensures.no_act;
  no_insertion = c.in-Some.ensures.no_insertion;
  place = λ lasting. c.in-Some.ensures.place lasting (drop (c.args.passed + 1) (list_at c.args.store.now c.args.self.now.waiting)) c.requires.behind;
}

-- the page so far, as the walk left it
abbrev page_at : Builder → Lists Node → ℕ → Contents
page_at b s k = contents_of b (moved (ids_of b) s k)

-- the place before the node was tried
offered : (c : After-offer-tried) → Walks c.args.self.now c.args.store.now c.args.ask.now c.args.n.now c.args.passed c.in-Some.follows
    → (let here = page_at c.args.self.now c.args.store.now c.args.passed in OfferIs (kept_frozen here) c.offer-tried.new.self here.page (places_on (kept_frozen here) here) c.offer-tried.result c.n.inside.line c.in-Some-place_penalty.penalty)
offered c w =
    let b = c.args.self.now in
    let s = c.args.store.now in
    let k = c.args.passed in
    let here = page_at b s k in
    let z = kept_frozen here in
    let p : FitsSigned w64 c.in-Some-place_penalty.penalty = search rules in
    let told = simp to_z-of_z at c.offer-tried.ensures in
    let index = c.requires.index ∙ page_length b s k c.args.n.now _ w.sound w.next in
    told z here.page (places_on z here) (walk_course _ _ _ _ _ w) index

pub place_penalty-requires : goal.place_penalty-requires
place_penalty-requires c = (walk_fits _ _ _ _ _ (walks c)).small

pub put-requires-clause-node : goal.put-requires-clause-node
put-requires-clause-node c = (walk_fits _ _ _ _ _ (walks (goal.at.put-requires-clause-node c).In-Some)).small

pub put-requires-clause-fits : goal.put-requires-clause-fits
put-requires-clause-fits c =
    let w = walks (goal.at.put-requires-clause-fits c).In-Some in
    walk_sums _ _ _ _ _ w c.args.self.now.course _ (walk_course _ _ _ _ _ w)

pub returns-in_default-place_penalty-clause-goes : goal.returns-in_default-place_penalty-clause-goes
returns-in_default-place_penalty-clause-goes c = λ e.
    let w = walks (goal.at.returns-in_default-place_penalty-clause-goes c).In-Some in
    let b = c.args.self.now in
    let s = c.args.store.now in
    let k = c.args.passed in
    let here = page_at b s k in
    let z = kept_frozen here in
    let d : Builder = record b { course = c.put.new.self } in
    walk_passes b s c.args.ask.now c.args.n.now k w d refl refl refl refl c.place_penalty.result c.in_default-place_penalty.is c.place_penalty.ensures.value
    (c.put.ensures z here.page (places_on z here) (list_at (moved (ids_of b) s k)) (walk_course _ _ _ _ _ w) w.no_act w.no_insertion)

pub offer-tried-requires-clause-terms : goal.offer-tried-requires-clause-terms
offer-tried-requires-clause-terms c = walk_terms _ _ _ _ _ (walks (goal.at.offer-tried-requires-clause-terms c).In-Some)

pub returns-then-stops-clause-ends : goal.returns-then-stops-clause-ends
returns-then-stops-clause-ends c = λ e.
    let w = walks (goal.at.returns-then-stops-clause-ends c).In-Some in
    let line_is = ap (λ (m : NodeView). m.line) c.n.view_is in
    walk_stops c.args.self.now c.args.store.now c.args.ask.now c.args.n.now c.args.passed w c.offer-tried.new.self c.place_penalty.result c.in-Some-place_penalty.penalty c.offer-tried.result c.n.inside.line c.in-Some-place_penalty.is c.place_penalty.ensures.value
    (offered (goal.at.returns-then-stops-clause-ends c).After-offer-tried w) line_is (sym c.stops.ensures ∙ c.if-stops.true)

pub put-requires-2-clause-node : goal.put-requires-2-clause-node
put-requires-2-clause-node c = (walk_fits _ _ _ _ _ (walks (goal.at.put-requires-2-clause-node c).In-Some)).small

pub put-requires-2-clause-fits : goal.put-requires-2-clause-fits
put-requires-2-clause-fits c =
    let w = walks (goal.at.put-requires-2-clause-fits c).In-Some in
    walk_sums _ _ _ _ _ w c.offer-tried.new.self _ (offered (goal.at.put-requires-2-clause-fits c).After-offer-tried w).course

pub returns-clause-goes : goal.returns-clause-goes
returns-clause-goes c = λ e.
    let w = walks (goal.at.returns-clause-goes c).In-Some in
    let b = c.args.self.now in
    let s = c.args.store.now in
    let k = c.args.passed in
    let here = page_at b s k in
    let line_is = ap (λ (m : NodeView). m.line) c.n.view_is in
    let d : Builder = record b { course = c.put-2.new.self } in
    walk_tries b s c.args.ask.now c.args.n.now k w d refl refl refl refl c.place_penalty.result c.in-Some-place_penalty.penalty c.offer-tried.result c.n.inside.line c.offer-tried.new.self c.in-Some-place_penalty.is c.place_penalty.ensures.value
    (offered (goal.at.returns-clause-goes c).After-offer-tried w) line_is (sym c.stops.ensures ∙ c.if-stops.false)
    (λ bs h. c.put-2.ensures (kept_frozen here) here.page bs (list_at (moved (ids_of b) s k)) h w.no_act w.no_insertion)
