use Rattle.std.proofs.Common.{refl, sym, subst, ◌∙◌, ap, true, false, None, FitsSigned, w64, rules}
use Rattle.std.proofs.lemmas.Int.{to_z-of_z}
use Rattle.tb_pool.specs.Lists.{list_at}
use Rattle.tb_node.specs.Shape.{box, other}
use Rattle.tb_node.specs.PlainNodes.{shape_of}
use Rattle.tb_node.specs.NodeSums.{added_node}
use Rattle.tb_node.specs.SmallAmounts.{IsSmall, IsSmallShape}
use Rattle.tb_break.specs.SplitPlace.{penalty_by}
use Rattle.tb_builder.specs.declared.Builder.{Builder}
use Rattle.tb_builder.specs.Contents.{contents_of}
use Rattle.tb_builder.specs.Ownership.{ids_of}
use Rattle.tb_builder.specs.Courses.{IsFlat, kept_frozen}
use Rattle.tb_builder.specs.PageTurns.{places_on}
use Rattle.tb_builder.specs.PageWalks.{moved}
use Rattle.tb_builder.proofs.Events.WalkLemmas.{SeenShape, seen_solid, seen_still, Walks, walks_shape, walk_fits, walk_sums, walk_course, walk_passes}
use Rattle.tb_builder.proofs.Builder.passes.Goals.{In-Solid, In-Still}
use Rattle.tb_builder.proofs.Builder.passes.Goals as goal

solid : (c : In-Solid) → SeenShape (box c.in-Solid.height c.in-Solid.depth) c.args.n.now
solid c = seen_solid c.in-Solid.height c.in-Solid.depth c.args.n.now (sym c.seen_in.ensures ∙ c.in-Solid.is)

-- the node is the next of the walk
walks : (c : In-Solid) → Walks c.args.self.now c.args.store.now c.args.ask.now c.args.n.now c.args.passed false
walks c =
    let x = solid c in
    walks_shape _ _ _ _ _ (box c.in-Solid.height c.in-Solid.depth) x.shape (λ lasting follows. refl) x.no_act x.no_insertion c.requires.sound c.requires.on c.requires.opened c.requires.fits c.requires.first

pub put_box-requires-clause-node : goal.put_box-requires-clause-node
put_box-requires-clause-node c =
    let h : FitsSigned w64 c.in-Solid.height = search rules in
    let d : FitsSigned w64 c.in-Solid.depth = search rules in
    let i = (goal.at.put_box-requires-clause-node c).In-Solid in
    simp to_z-of_z (subst IsSmallShape (solid i).shape (walk_fits _ _ _ _ _ (walks i)).small)

pub put_box-requires-clause-fits : goal.put_box-requires-clause-fits
put_box-requires-clause-fits c =
    let h : FitsSigned w64 c.in-Solid.height = search rules in
    let d : FitsSigned w64 c.in-Solid.depth = search rules in
    let i = (goal.at.put_box-requires-clause-fits c).In-Solid in
    let w = walks i in
    let k = c.args.self.now.course in
    simp to_z-of_z (subst (λ x. IsSmall (added_node k.scan.max_depth k.scan.sums x)) (solid i).shape (walk_sums _ _ _ _ _ w k _ (walk_course _ _ _ _ _ w)))

pub returns-in-Solid-clause-goes : goal.returns-in-Solid-clause-goes
returns-in-Solid-clause-goes c = λ e.
    let h : FitsSigned w64 c.in-Solid.height = search rules in
    let p : FitsSigned w64 c.in-Solid.depth = search rules in
    let i = (goal.at.returns-in-Solid-clause-goes c).In-Solid in
    let x = solid i in
    let w = walks i in
    let b = c.args.self.now in
    let s = c.args.store.now in
    let k = c.args.passed in
    let here = contents_of b (moved (ids_of b) s k) in
    let z = kept_frozen here in
    let d : Builder = record b { course = c.put_box.new.self } in
    let put = simp to_z-of_z at c.put_box.ensures in
    walk_passes b s c.args.ask.now c.args.n.now k w d refl refl refl refl None refl (sym (ap (penalty_by b.course.lasting false) x.shape))
    (put c.args.n.now z here.page (places_on z here) (list_at (moved (ids_of b) s k)) x.shape (walk_course _ _ _ _ _ w) w.no_act w.no_insertion)

still : (c : In-Still) → SeenShape other c.args.n.now
still c = seen_still c.args.n.now (sym c.seen_in.ensures ∙ c.in-Still.is)

pub returns-in-Still-clause-goes : goal.returns-in-Still-clause-goes
returns-in-Still-clause-goes c = λ e.
    let i = (goal.at.returns-in-Still-clause-goes c).In-Still in
    let x = still i in
    let n = c.args.n.now in
    let b = c.args.self.now in
    let s = c.args.store.now in
    let k = c.args.passed in
    let w : Walks b s c.args.ask.now n k false = walks_shape _ _ _ _ _ other x.shape (λ lasting follows. refl) x.no_act x.no_insertion c.requires.sound c.requires.on c.requires.opened c.requires.fits c.requires.first in
    let here = contents_of b (moved (ids_of b) s k) in
    let z = kept_frozen here in
    let d : Builder = record b { course = c.put_flat.new.self } in
    let flat : IsFlat true (shape_of n) = subst (IsFlat true) (sym x.shape) refl in
    walk_passes b s c.args.ask.now n k w d refl refl refl refl None refl (sym (ap (penalty_by b.course.lasting false) x.shape))
    (c.put_flat.ensures n z here.page (places_on z here) (list_at (moved (ids_of b) s k)) flat (walk_course _ _ _ _ _ w) w.no_act w.no_insertion)

pub passes_penalty-requires-clause-gate : goal.passes_penalty-requires-clause-gate
passes_penalty-requires-clause-gate c =
    let p : FitsSigned w64 c.in-Gate.penalty = search rules in
    simp to_z-of_z (sym c.seen_in.ensures ∙ c.in-Gate.is)
