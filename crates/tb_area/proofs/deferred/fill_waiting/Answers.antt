use Rattle.std.proofs.Common.{◌<◌, ◌≤◌, length, take, refl, sym, ap, ◌∙◌, subst, arith}
use Rattle.std.proofs.lemmas.Option.{slice_get_within}
use Rattle.tb_node.specs.declared.Float.{Float}
use Rattle.tb_float.specs.declared.Part.TheVariants as parts
use Rattle.tb_float.specs.Pool.{FloatPool}
use Rattle.tb_area.specs.Area.{AreaPlace, at_top, at_bottom, next_area_place}
use Rattle.tb_area.specs.Deferred.{filled}
use Rattle.tb_area.specs.Laws.{column_order}
use Rattle.tb_area.proofs.DeferredLemmas.{waiting_stands, waiting_entry, there_some}
use Rattle.tb_area.proofs.OrderLemmas.{fill-order}
use Rattle.tb_area.proofs.DeferredWalks.{IsMoved, moved-top, moved-bottom, area-goes, area-over, way-start, way-over, fewer-left}
use Rattle.tb_area.proofs.deferred.fill_waiting.Goals as goal
use Rattle.tb_area.proofs.deferred.fill_waiting.Goals.{in-Top, in-Bottom}

pub loop-turn-init : goal.loop-turn-init
loop-turn-init c =
    let v = c.args.pool.now in
    let kept = c.none-kept in
    record {
      way = way-start parts.Deferred (filled c.args.p.now c.args.s.now) kept.result v.lists kept.ensures.count kept.ensures.classes (kept.ensures.left parts.Deferred);
      fewer = omega arith;
      size = refl;
      unmarked = λ h. h;
    }

pub move_to-requires-clause-float : goal.move_to-requires-clause-float
move_to-requires-clause-float c = waiting_stands parts.Deferred tt c.loop-turn.pool.lists c.next_moved.new.kept.count (c.in-Top.ensures.within (λ e. absurd cc))

pub move_to-requires-in-Bottom-clause-float : goal.move_to-requires-in-Bottom-clause-float
move_to-requires-in-Bottom-clause-float c = waiting_stands parts.Deferred tt c.loop-turn.pool.lists c.next_moved.new.kept.count (c.in-Bottom.ensures.within (λ e. absurd cc))

pub loop-turn-preserved : goal.loop-turn-preserved
loop-turn-preserved c =
    let p = c.args.p.now in
    let s = c.args.s.now in
    let v = c.loop-turn.pool in
    let fs = v.lists.deferred in
    let k = c.next_moved.new.kept.count in
    let so_far = c.loop-turn.invariant in
    let m : (f : Float) × (a : AreaPlace) × IsMoved p s k f a v c.match-next_moved.pool = elim c.match-next_moved.branch [
      | in-Top w ↦
          let at = there_some fs k (w.in-Top.ensures.within (λ e. absurd cc)) in
          let moved = w.move_to.ensures.moved at.0 (waiting_entry parts.Deferred tt v.lists k at.0 at.1) in
          (at.0, at_top, subst (λ (u : FloatPool). IsMoved p s k at.0 at_top v u) (sym w.pool-is) (moved-top p s k at.0 v w.move_to.new.self at.1 (w.in-Top.ensures.place _ at.0 so_far.way at.1) moved w.move_to.ensures.unmarked))
      | in-Bottom w ↦
          let at = there_some fs k (w.in-Bottom.ensures.within (λ e. absurd cc)) in
          let moved = w.move_to-in-Bottom.ensures.moved at.0 (waiting_entry parts.Deferred tt v.lists k at.0 at.1) in
          (at.0, at_bottom, subst (λ (u : FloatPool). IsMoved p s k at.0 at_bottom v u) (sym w.pool-is) (moved-bottom p s k at.0 v w.move_to-in-Bottom.new.self at.1 (w.in-Bottom.ensures.place _ at.0 so_far.way at.1) moved w.move_to-in-Bottom.ensures.unmarked))
    ] in
    let done = m.2 in
    let lt : k < length fs = slice_get_within fs k m.0 done.there in
    record {
      way = area-goes p s c.next_moved.new.kept v.lists c.match-next_moved.pool.lists _ m.0 m.1 done.still done.there done.decided done.lists (c.next_moved.ensures.way _ so_far.way);
      fewer = fewer-left fs c.match-next_moved.pool.lists.deferred k c.loop-turn._turn _ done.fewer lt so_far.fewer;
      size = done.size ∙ so_far.size;
      unmarked = λ h. done.unmarked (so_far.unmarked h);
    }

pub returns-in_default : goal.returns-in_default
returns-in_default c =
    let p = c.args.p.now in
    let s = c.args.s.now in
    let l = c.loop-turn.pool.lists in
    let w = c.next_moved.new.kept in
    let so_far = c.loop-turn.invariant in
    let over : length l.deferred ≤ w.count = area-over l.deferred w.count c.next_moved.result (λ f. next_area_place p l s (take w.count l.deferred) f) (λ f got. c.next_moved.ensures.place _ f so_far.way got) c.in_default.not-Top c.in_default.not-Bottom c.next_moved.ensures.over in
    let lists = way-over parts.Deferred (filled p s) w l _ (λ before m. refl) over (c.next_moved.ensures.way _ so_far.way) in
    record {
      lists = lists;
      order = λ k. ap (λ m. column_order k m) lists ∙ fill-order k p s c.args.pool.now.lists;
      size = so_far.size;
      unmarked = so_far.unmarked;
    }

pub returns-clause-lists : goal.returns-clause-lists
returns-clause-lists c =
    let l = c.loop-turn.pool.lists in
    let so_far = c.loop-turn.invariant in
    let over : length l.deferred ≤ c.loop-turn.kept.count = omega (arith, so_far.fewer, c.len-turn-end.ensures.value, c.loop-turn-test.false) in
    way-over parts.Deferred (filled c.args.p.now c.args.s.now) c.loop-turn.kept l _ (λ before m. refl) over so_far.way

pub returns-clause-order : goal.returns-clause-order
returns-clause-order c = λ k.
    ap (λ l. column_order k l) (returns-clause-lists c) ∙ fill-order k c.args.p.now c.args.s.now c.args.pool.now.lists
