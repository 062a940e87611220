use Rattle.std.proofs.Common.{◌≡◌, pos, Bool, true, false, None, refl, sym, subst, ◌∙◌, ap, Some, ℕ}
use Rattle.std.specs.Prelude.{if◌then◌else◌}
use Rattle.tb_pool.specs.Lists.{Lists, list_at}
use Rattle.tb_node.specs.declared.Node.{Node}
use Rattle.tb_node.specs.PlainNodes.{shape_of}
use Rattle.tb_node.specs.Shape.{glue}
use Rattle.tb_node.specs.NodeSums.{added_node}
use Rattle.tb_node.specs.SmallAmounts.{IsSmall, IsSmallShape}
use Rattle.tb_break.specs.SplitPlace.{penalty_by}
use Rattle.tb_node.specs.NodeView.{NodeView}
use Rattle.tb_builder.specs.declared.Builder.{Builder}
use Rattle.tb_builder.specs.Contents.{Contents, contents_of}
use Rattle.tb_builder.specs.Ownership.{ids_of}
use Rattle.tb_builder.specs.Courses.{kept_frozen}
use Rattle.tb_builder.specs.CourseOffers.{OfferIs}
use Rattle.tb_builder.specs.PageTurns.{places_on}
use Rattle.tb_builder.specs.PageWalks.{moved}
use Rattle.tb_builder.proofs.Events.WalkLemmas.{SeenSpace, seen_space, walks_shape, Walks, walk_fits, walk_sums, walk_course, walk_terms, walk_passes, walk_tries, walk_stops, page_length}
use Rattle.tb_builder.proofs.Builder.passes_glue.Goals.{Start, After-offer-tried}
use Rattle.tb_builder.proofs.Builder.passes_glue.Goals as goal

space : (c : Start) → SeenSpace c.args.n.now
space c = seen_space c.args.n.now c.requires.glue

-- the node is the next of the walk
walks : (c : Start) → Walks c.args.self.now c.args.store.now c.args.ask.now c.args.n.now c.args.passed false
walks c =
    let x = space c in
    walks_shape _ _ _ _ _ (glue x.g) x.shape (λ lasting follows. refl) x.no_act x.no_insertion c.requires.sound c.requires.on c.requires.opened c.requires.fits c.requires.first

-- the penalty of its place, by whether a lasting node comes before it
penalty_is : (c : Start) (o : Bool) → c.args.self.now.course.lasting ≡ o → (if o then Some (pos 0) else None) ≡ penalty_by c.args.self.now.course.lasting false (shape_of c.args.n.now)
penalty_is c o e = ap (λ t. if t then Some (pos 0) else None) (sym e) ∙ sym (ap (penalty_by c.args.self.now.course.lasting false) (space c).shape)

-- the page so far, as the walk left it
abbrev page_at : Builder → Lists Node → ℕ → Contents
page_at b s k = contents_of b (moved (ids_of b) s k)

-- the place before the node was tried
offered : (c : After-offer-tried) → Walks c.args.self.now c.args.store.now c.args.ask.now c.args.n.now c.args.passed false
    → (let here = page_at c.args.self.now c.args.store.now c.args.passed in OfferIs (kept_frozen here) c.offer-tried.new.self here.page (places_on (kept_frozen here) here) c.offer-tried.result c.n.inside.line (pos 0))
offered c w =
    let b = c.args.self.now in
    let s = c.args.store.now in
    let k = c.args.passed in
    let here = page_at b s k in
    let z = kept_frozen here in
    let index = c.requires.index ∙ page_length b s k c.args.n.now _ w.sound w.next in
    c.offer-tried.ensures z here.page (places_on z here) (walk_course _ _ _ _ _ w) index

pub put_glue-requires-clause-node : goal.put_glue-requires-clause-node
put_glue-requires-clause-node c =
    let i = (goal.at.put_glue-requires-clause-node c).Start in
    subst IsSmallShape c.glue_in.ensures (walk_fits _ _ _ _ _ (walks i)).small

pub put_glue-requires-clause-fits : goal.put_glue-requires-clause-fits
put_glue-requires-clause-fits c =
    let i = (goal.at.put_glue-requires-clause-fits c).Start in
    let w = walks i in
    let k = c.args.self.now.course in
    subst (λ x. IsSmall (added_node k.scan.max_depth k.scan.sums x)) c.glue_in.ensures (walk_sums _ _ _ _ _ w k _ (walk_course _ _ _ _ _ w))

pub returns-then-not-self-clause-goes : goal.returns-then-not-self-clause-goes
returns-then-not-self-clause-goes c = λ e.
    let i = (goal.at.returns-then-not-self-clause-goes c).Start in
    let w = walks i in
    let b = c.args.self.now in
    let s = c.args.store.now in
    let k = c.args.passed in
    let here = page_at b s k in
    let z = kept_frozen here in
    let d : Builder = record b { course = c.put_glue.new.self } in
    walk_passes b s c.args.ask.now c.args.n.now k w d refl refl refl refl None refl (penalty_is i false c.if-not-self.true)
    (c.put_glue.ensures c.args.n.now z here.page (places_on z here) (list_at (moved (ids_of b) s k)) c.glue_in.ensures (walk_course _ _ _ _ _ w) w.no_act w.no_insertion)

pub offer-tried-requires-clause-terms : goal.offer-tried-requires-clause-terms
offer-tried-requires-clause-terms c = walk_terms _ _ _ _ _ (walks (goal.at.offer-tried-requires-clause-terms c).Start)

pub returns-then-stops-clause-ends : goal.returns-then-stops-clause-ends
returns-then-stops-clause-ends c = λ e.
    let i = (goal.at.returns-then-stops-clause-ends c).Start in
    let w = walks i in
    let line_is = ap (λ (m : NodeView). m.line) c.n.view_is in
    walk_stops c.args.self.now c.args.store.now c.args.ask.now c.args.n.now c.args.passed w c.offer-tried.new.self (Some (pos 0)) (pos 0) c.offer-tried.result c.n.inside.line refl (penalty_is i true c.if-not-self.false)
    (offered (goal.at.returns-then-stops-clause-ends c).After-offer-tried w) line_is (sym c.stops.ensures ∙ c.if-stops.true)

pub put_glue-requires-2-clause-node : goal.put_glue-requires-2-clause-node
put_glue-requires-2-clause-node c =
    let i = (goal.at.put_glue-requires-2-clause-node c).Start in
    subst IsSmallShape c.glue_in-2.ensures (walk_fits _ _ _ _ _ (walks i)).small

pub put_glue-requires-2-clause-fits : goal.put_glue-requires-2-clause-fits
put_glue-requires-2-clause-fits c =
    let i = (goal.at.put_glue-requires-2-clause-fits c).Start in
    let w = walks i in
    let k = c.offer-tried.new.self in
    subst (λ x. IsSmall (added_node k.scan.max_depth k.scan.sums x)) c.glue_in-2.ensures (walk_sums _ _ _ _ _ w k _ (offered (goal.at.put_glue-requires-2-clause-fits c).After-offer-tried w).course)

pub returns-clause-goes : goal.returns-clause-goes
returns-clause-goes c = λ e.
    let i = (goal.at.returns-clause-goes c).Start in
    let w = walks i in
    let b = c.args.self.now in
    let s = c.args.store.now in
    let k = c.args.passed in
    let here = page_at b s k in
    let line_is = ap (λ (m : NodeView). m.line) c.n.view_is in
    let d : Builder = record b { course = c.put_glue-2.new.self } in
    walk_tries b s c.args.ask.now c.args.n.now k w d refl refl refl refl (Some (pos 0)) (pos 0) c.offer-tried.result c.n.inside.line c.offer-tried.new.self refl (penalty_is i true c.if-not-self.false)
    (offered (goal.at.returns-clause-goes c).After-offer-tried w) line_is (sym c.stops.ensures ∙ c.if-stops.false)
    (λ bs h. c.put_glue-2.ensures c.args.n.now (kept_frozen here) here.page bs (list_at (moved (ids_of b) s k)) c.glue_in-2.ensures h w.no_act w.no_insertion)
