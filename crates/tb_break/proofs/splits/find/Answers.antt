use Rattle.std.proofs.Common.{◌≡◌, ◌∙◌, ap, sym, ◌∷◌, length, drop, FitsSigned, w64, arith}
use Rattle.std.proofs.lemmas.Int.{to_z-of_z}
use Rattle.std.specs.Prelude.{Some, map}
use Rattle.tb_node.specs.PlainNodes.{shape_of}
use Rattle.tb_scaled.specs.Scaled.{eject_penalty}
use Rattle.tb_break.specs.declared.PlaceKind.TheVariants.{Last}
use Rattle.tb_break.specs.Places.{begins_with_glue}
use Rattle.tb_break.specs.SplitPlace.{shapes, penalty_by, kind_of_shape, found_after}
use Rattle.tb_break.proofs.FindLemmas.{Finding, begins, ends, stops, goes, added_fits, node_fits, rest_ahead, is_legal}
use Rattle.tb_break.proofs.splits.find.Goals.{In-Some, After-visit}
use Rattle.tb_break.proofs.splits.find.Goals as goal

pub loop-n-init : goal.loop-n-init
loop-n-init c =
    let h : FitsSigned w64 c.args.height = c.ranges.height in
    let d : FitsSigned w64 c.args.max_depth = c.ranges.max_depth in
    let items = c.into_iter-n-iterator.ensures.into_iter_gives ∙ c.iter-n-items.ensures in
    let scan = simp to_z-of_z at c.new_scan-scan.ensures.value in
    record {
      can_next = tt;
      is_finite = tt;
      ahead = c.takes_glue.ensures.rest ∙ ap (drop 1) (c.iter-ahead.ensures ∙ sym items);
      finding = simp to_z-of_z (rw items (begins c.args.height c.args.max_depth _ _ _ scan));
      few = omega (arith, ap length items);
    }

-- the search has come to this node
at_node : (c : In-Some) → Finding c.args.height c.args.max_depth (shapes c.args.store.now c.args.l) c.loop-n.scan c.loop-n.best c.loop-n.index c.loop-n.lasting (shape_of c.in-Some.n.now ∷ map shape_of c.next.new.self)
at_node c =
    let h : FitsSigned w64 c.args.height = c.ranges.height in
    let d : FitsSigned w64 c.args.max_depth = c.ranges.max_depth in
    rw c.in-Some.ensures.steps at (simp to_z-of_z at c.loop-n.invariant.finding)

-- the nodes behind it are those ahead
ahead_is : (c : After-visit) → c.loop-n.ahead ≡ c.next.new.self
ahead_is c = rest_ahead _ _ _ _ c.in-Some.ensures.steps c.loop-n.invariant.ahead

-- the place before it
place_is : (c : After-visit) → c.place_penalty-place.result ≡ penalty_by c.loop-n.lasting (begins_with_glue (map shape_of c.next.new.self)) (shape_of c.in-Some.n.now)
place_is c = rw (c.takes_glue-glue_next.ensures.glue, ahead_is c) at c.place_penalty-place.ensures.value

-- the best place so far, with that place
best_is : (c : After-visit) → c.visit.new.best ≡ found_after c.loop-n.scan c.loop-n.best c.loop-n.index c.args.height (kind_of_shape (shape_of c.in-Some.n.now)) c.place_penalty-place.result
best_is c = rw (to_z-of_z w64 c.args.height c.ranges.height, c.kind_of.ensures) at c.visit.ensures.best

pub place_penalty-place-requires : goal.place_penalty-place-requires
place_penalty-place-requires c = node_fits _ _ _ _ _ _ _ _ _ c.requires.nodes (at_node (goal.at.place_penalty-place-requires c).In-Some)

pub returns-then-visit : goal.returns-then-visit
returns-then-visit c =
    let w = goal.at.returns-then-visit c in
    let stop = rw (to_z-of_z w64 c.args.height c.ranges.height) at c.visit.ensures.stop in
    stops _ _ _ _ _ _ _ _ _ _ (at_node w.In-Some) _ (place_is w.After-visit) (is_legal _ c.place_penalty-place.ensures.legal) (sym stop ∙ c.if-visit.true) (best_is w.After-visit)

pub add-requires-clause-node : goal.add-requires-clause-node
add-requires-clause-node c = node_fits _ _ _ _ _ _ _ _ _ c.requires.nodes (at_node (goal.at.add-requires-clause-node c).In-Some)

pub add-requires-clause-fits : goal.add-requires-clause-fits
add-requires-clause-fits c =
    let scan = rw (to_z-of_z w64 c.args.height c.ranges.height) at c.visit.ensures.scan in
    added_fits _ _ _ _ _ _ _ _ _ _ _ c.requires.sums (at_node (goal.at.add-requires-clause-fits c).In-Some) scan

pub loop-n-preserved : goal.loop-n-preserved
loop-n-preserved c =
    let w = goal.at.loop-n-preserved c in
    let h : FitsSigned w64 c.args.height = c.ranges.height in
    let d : FitsSigned w64 c.args.max_depth = c.ranges.max_depth in
    let visit = simp to_z-of_z at c.visit.ensures in
    let shorter = ap length c.in-Some.ensures.steps in
    record {
      can_next = tt;
      is_finite = tt;
      ahead = c.takes_glue-glue_next.ensures.rest ∙ ap (drop 1) (ahead_is w.After-visit);
      finding = simp to_z-of_z (goes _ _ _ _ _ _ _ _ _ _ _ _ _ (at_node w.In-Some) _ (place_is w.After-visit) (is_legal _ c.place_penalty-place.ensures.legal) (sym visit.stop ∙ c.if-visit.false) visit.scan (best_is w.After-visit) c.add.ensures.value c.is_lasting-lasting.ensures);
      few = omega (arith, shorter, c.loop-n.invariant.few);
    }

pub returns : goal.returns
returns c =
    let h : FitsSigned w64 c.args.height = c.ranges.height in
    let d : FitsSigned w64 c.args.max_depth = c.ranges.max_depth in
    let so_far = simp to_z-of_z at c.loop-n.invariant.finding in
    let g = rw c.in-None.ensures.steps.0 at so_far in
    let best = simp to_z-of_z at c.visit-2.ensures.best in
    let last : c.len-len.result ≡ c.loop-n.index = omega (arith, c.len-len.ensures, c.loop-n.invariant.few, ap length c.in-None.ensures.steps.0) in
    ends _ _ _ _ _ _ _ _ g (best ∙ ap (λ i. found_after c.loop-n.scan c.loop-n.best i c.args.height Last (Some eject_penalty)) last)
