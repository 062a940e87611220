use Rattle.std.proofs.Common.{◌≡◌, ◌≤◌, ap, length, ◌+◌, ◌++◌, false, sym, ◌∙◌, suc, None, append_assoc, arith}
use Rattle.tb_plans.specs.declared.walk.Before.TheVariants as befores
use Rattle.tb_plans.specs.Places.{places_of}
use Rattle.tb_plans.specs.Walk.{places_left}
use Rattle.tb_plans.proofs.WalkLemmas.{passes, visits, all-found, few-items}
use Rattle.tb_plans.proofs.walk.places.Goals as goal
use Rattle.tb_plans.proofs.walk.places.Goals.{then-is_looked_past, else-is_looked_past+in_ok-walk}

pub loop-k-init : goal.loop-k-init
unfolding places_of
loop-k-init c = λ i. c.new-found.ensures.items i ++ places_left c.args.galley.now.params (record { two = false; before = befores.Nothing; kern = None }) 0 (c.as_slice-item-items.ensures i)

pub overflow_cast-k : goal.overflow_cast-k
overflow_cast-k c =
    let few : length c.args.galley.now.items ≤ 100000 = few-items c.args.galley.now c.requires in
    let same : length c.as_slice-item-items.result.now ≡ length c.args.galley.now.items = ap length c.as_slice-item-items.ensures in
    omega (arith, c.loop-k-test.true)

pub loop-k-preserved : goal.loop-k-preserved
loop-k-preserved c =
    let one : c.loop-k.k + 1 ≡ suc c.loop-k.k = omega arith in
    elim c.if-is_looked_past.branch [
      | then-is_looked_past w ↦ rw (w.found-is, w.walk-is, w.passed-walk.ensures, one)
          (passes c.args.galley.now.params c.as_slice-item-items.result.now c.loop-k.walk c.loop-k.k c.item-item.result c.loop-k.found.items (places_of c.args.galley.now) c.loop-k-test.true c.item-item.is
          (sym c.is_looked_past.ensures ∙ w.if-is_looked_past.true) c.loop-k.invariant)
      | else-is_looked_past+in_ok-walk w ↦ rw (w.found-is, w.walk-is, w.in_ok-walk.ensures.walk, one)
          (visits c.args.galley.now.params c.as_slice-item-items.result.now c.loop-k.walk c.loop-k.k c.item-item.result c.loop-k.found.items w.visit.new.found.items (places_of c.args.galley.now) c.loop-k-test.true c.item-item.is
          (sym c.is_looked_past.ensures ∙ w.if-is_looked_past.false) (w.in_ok-walk.ensures.found ∙ append_assoc c.loop-k.found.items _ _) c.loop-k.invariant)
    ]

pub returns : goal.returns
returns c = all-found c.args.galley.now.params c.as_slice-item-items.result.now c.loop-k.walk c.loop-k.k c.loop-k.found.items (places_of c.args.galley.now) (let h = c.loop-k-test.false in omega (arith, h)) c.loop-k.invariant
