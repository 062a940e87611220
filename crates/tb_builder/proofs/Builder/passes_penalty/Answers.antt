use Rattle.std.proofs.Common.{◌≡◌, pos, ℤ, Bool, true, false, Option, None, Some, refl, sym, subst, ◌∙◌, ap, ℕ, FitsSigned, w64, rules, arith}
use Rattle.std.specs.Prelude.{int_le, int_lt, if◌then◌else◌}
use Rattle.std.proofs.lemmas.Int.{ints, to_z-of_z}
use Rattle.tb_pool.specs.Lists.{Lists, list_at}
use Rattle.tb_node.specs.declared.Node.{Node}
use Rattle.tb_node.specs.PlainNodes.{shape_of}
use Rattle.tb_node.specs.Shape.{penalty}
use Rattle.tb_node.specs.SmallAmounts.{IsSmallShape}
use Rattle.tb_node.specs.NodeView.{NodeView}
use Rattle.tb_break.specs.SplitPlace.{penalty_by}
use Rattle.tb_builder.specs.declared.Builder.{Builder}
use Rattle.tb_builder.specs.Contents.{Contents, contents_of}
use Rattle.tb_builder.specs.Ownership.{ids_of}
use Rattle.tb_builder.specs.Courses.{IsFlat, kept_frozen}
use Rattle.tb_builder.specs.CourseOffers.{OfferIs}
use Rattle.tb_builder.specs.PageTurns.{places_on}
use Rattle.tb_builder.specs.PageWalks.{moved}
use Rattle.tb_builder.proofs.Events.WalkLemmas.{SeenShape, seen_gate, walks_shape, Walks, walk_fits, walk_course, walk_terms, walk_passes, walk_tries, walk_stops, page_length}
use Rattle.tb_builder.proofs.Builder.passes_penalty.Goals.{Start, After-offer-tried}
use Rattle.tb_builder.proofs.Builder.passes_penalty.Goals as goal

gate : (c : Start) → SeenShape (penalty c.args.penalty) c.args.n.now
gate c = seen_gate c.args.penalty c.args.n.now c.requires.gate

flat : (c : Start) → IsFlat false (shape_of c.args.n.now)
flat c = subst (IsFlat false) (sym (gate c).shape) refl

-- the node is the next of the walk
walks : (c : Start) → Walks c.args.self.now c.args.store.now c.args.ask.now c.args.n.now c.args.passed false
walks c =
    let x = gate c in
    walks_shape _ _ _ _ _ (penalty c.args.penalty) x.shape (λ lasting follows. refl) x.no_act x.no_insertion c.requires.sound c.requires.on c.requires.opened c.requires.fits c.requires.first

forbidden : (p : ℤ) (lasting : Bool) → int_le (pos 10000) p ≡ true → penalty_by lasting false (penalty p) ≡ None
forbidden p lasting e = let more : int_lt p (pos 10000) ≡ false = grind (arith, ints, e) in ap (λ t. if t then Some p else None) more

legal : (p : ℤ) (lasting : Bool) → int_le (pos 10000) p ≡ false → penalty_by lasting false (penalty p) ≡ Some p
legal p lasting e = let less : int_lt p (pos 10000) ≡ true = grind (arith, ints, e) in ap (λ t. if t then Some p else None) less

-- the penalty of its place
penalty_is : (c : Start) (o : Option ℤ) → penalty_by c.args.self.now.course.lasting false (penalty c.args.penalty) ≡ o → o ≡ penalty_by c.args.self.now.course.lasting false (shape_of c.args.n.now)
penalty_is c o e = sym (ap (penalty_by c.args.self.now.course.lasting false) (gate c).shape ∙ e)

-- the page so far, as the walk left it
abbrev page_at : Builder → Lists Node → ℕ → Contents
page_at b s k = contents_of b (moved (ids_of b) s k)

-- the place before the node was tried
offered : (c : After-offer-tried) → Walks c.args.self.now c.args.store.now c.args.ask.now c.args.n.now c.args.passed false
    → (let here = page_at c.args.self.now c.args.store.now c.args.passed in OfferIs (kept_frozen here) c.offer-tried.new.self here.page (places_on (kept_frozen here) here) c.offer-tried.result c.n.inside.line c.args.penalty)
offered c w =
    let b = c.args.self.now in
    let s = c.args.store.now in
    let k = c.args.passed in
    let here = page_at b s k in
    let z = kept_frozen here in
    let p : FitsSigned w64 c.args.penalty = search rules in
    let told = simp to_z-of_z at c.offer-tried.ensures in
    let index = c.requires.index ∙ page_length b s k c.args.n.now _ w.sound w.next in
    told z here.page (places_on z here) (walk_course _ _ _ _ _ w) index

pub returns-then-penalty-ge-INF_PENALTY-clause-goes : goal.returns-then-penalty-ge-INF_PENALTY-clause-goes
returns-then-penalty-ge-INF_PENALTY-clause-goes c = λ e.
    let p : FitsSigned w64 c.args.penalty = search rules in
    let i = (goal.at.returns-then-penalty-ge-INF_PENALTY-clause-goes c).Start in
    let w = walks i in
    let b = c.args.self.now in
    let s = c.args.store.now in
    let k = c.args.passed in
    let here = page_at b s k in
    let z = kept_frozen here in
    let d : Builder = record b { course = c.put_flat.new.self } in
    let more : int_le (pos 10000) c.args.penalty ≡ true = simp to_z-of_z at c.if-penalty-ge-INF_PENALTY.true in
    walk_passes b s c.args.ask.now c.args.n.now k w d refl refl refl refl None refl (penalty_is i None (forbidden c.args.penalty b.course.lasting more))
    (c.put_flat.ensures c.args.n.now z here.page (places_on z here) (list_at (moved (ids_of b) s k)) (flat i) (walk_course _ _ _ _ _ w) w.no_act w.no_insertion)

pub offer-tried-requires-clause-terms : goal.offer-tried-requires-clause-terms
offer-tried-requires-clause-terms c = walk_terms _ _ _ _ _ (walks (goal.at.offer-tried-requires-clause-terms c).Start)

pub offer-tried-requires-clause-low : goal.offer-tried-requires-clause-low
offer-tried-requires-clause-low c =
    let p : FitsSigned w64 c.args.penalty = search rules in
    let i = (goal.at.offer-tried-requires-clause-low c).Start in
    simp to_z-of_z (subst IsSmallShape (gate i).shape (walk_fits _ _ _ _ _ (walks i)).small)

pub returns-then-stops-clause-ends : goal.returns-then-stops-clause-ends
returns-then-stops-clause-ends c = λ e.
    let p : FitsSigned w64 c.args.penalty = search rules in
    let i = (goal.at.returns-then-stops-clause-ends c).Start in
    let w = walks i in
    let line_is = ap (λ (m : NodeView). m.line) c.n.view_is in
    let less : int_le (pos 10000) c.args.penalty ≡ false = simp to_z-of_z at c.if-penalty-ge-INF_PENALTY.false in
    walk_stops c.args.self.now c.args.store.now c.args.ask.now c.args.n.now c.args.passed w c.offer-tried.new.self (Some c.args.penalty) c.args.penalty c.offer-tried.result c.n.inside.line refl (penalty_is i (Some c.args.penalty) (legal c.args.penalty c.args.self.now.course.lasting less))
    (offered (goal.at.returns-then-stops-clause-ends c).After-offer-tried w) line_is (sym c.stops.ensures ∙ c.if-stops.true)

pub returns-clause-goes : goal.returns-clause-goes
returns-clause-goes c = λ e.
    let p : FitsSigned w64 c.args.penalty = search rules in
    let i = (goal.at.returns-clause-goes c).Start in
    let w = walks i in
    let b = c.args.self.now in
    let s = c.args.store.now in
    let k = c.args.passed in
    let here = page_at b s k in
    let line_is = ap (λ (m : NodeView). m.line) c.n.view_is in
    let d : Builder = record b { course = c.put_flat-2.new.self } in
    let less : int_le (pos 10000) c.args.penalty ≡ false = simp to_z-of_z at c.if-penalty-ge-INF_PENALTY.false in
    walk_tries b s c.args.ask.now c.args.n.now k w d refl refl refl refl (Some c.args.penalty) c.args.penalty c.offer-tried.result c.n.inside.line c.offer-tried.new.self refl (penalty_is i (Some c.args.penalty) (legal c.args.penalty b.course.lasting less))
    (offered (goal.at.returns-clause-goes c).After-offer-tried w) line_is (sym c.stops.ensures ∙ c.if-stops.false)
    (λ bs h. c.put_flat-2.ensures c.args.n.now (kept_frozen here) here.page bs (list_at (moved (ids_of b) s k)) (flat i) h w.no_act w.no_insertion)
