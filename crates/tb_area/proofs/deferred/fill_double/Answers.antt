use Rattle.std.proofs.Common.{◌≡◌, ◌<◌, ◌≤◌, [], false, length, take, refl, ap, ◌∙◌, arith}
use Rattle.tb_float.specs.declared.Suppress.{Suppress}
use Rattle.tb_float.specs.Lists.{floats_of}
use Rattle.tb_float.specs.Pool.{FloatPool}
use Rattle.tb_float.proofs.WaitingLemmas.{waiting-count}
use Rattle.tb_area.specs.Area.{goes_double}
use Rattle.tb_area.specs.Deferred.{doubled}
use Rattle.tb_area.specs.Laws.{double_order}
use Rattle.tb_area.proofs.DeferredLemmas.{waiting_stands, waiting_entry, there_some}
use Rattle.tb_area.proofs.OrderLemmas.{double-order}
use Rattle.tb_area.proofs.DeferredWalks.{is_double, way-start, way-over, double-goes, double-parts, gone-double, size-double, double-over, fewer-left}
use Rattle.tb_area.proofs.deferred.fill_double.Goals as goal

-- the lists do not depend on what is suppressed
abbrev any : Suppress
any = record { all = false; top = false; bottom = false }

pub loop-turn-init : goal.loop-turn-init
loop-turn-init c =
    let v = c.args.pool.now in
    let from = c.args.from in
    let kept = c.none-kept in
    record {
      way = λ s. way-start from (doubled from c.args.p.now s) kept.result v.lists kept.ensures.count kept.ensures.classes (kept.ensures.left from);
      fewer = omega arith;
      size = refl;
      unmarked = λ h. h;
    }

pub move_to-requires-clause-float : goal.move_to-requires-clause-float
move_to-requires-clause-float c = waiting_stands c.args.from c.requires.waiting c.loop-turn.pool.lists c.next_double.new.kept.count ((c.in-Double.ensures any).within (λ e. absurd cc))

pub loop-turn-preserved : goal.loop-turn-preserved
loop-turn-preserved c =
    let p = c.args.p.now in
    let from = c.args.from in
    let waits = c.requires.waiting in
    let v = c.loop-turn.pool in
    let u = c.move_to.new.self in
    let fs = floats_of from v.lists in
    let w = c.next_double.new.kept in
    let so_far = c.loop-turn.invariant in
    let lt : w.count < length fs = (c.in-Double.ensures any).within (λ e. absurd cc) in
    let at = there_some fs w.count lt in
    let moved = c.move_to.ensures.moved at.0 (waiting_entry from waits v.lists w.count at.0 at.1) in
    let lists = ap (λ (t : FloatPool). t.lists) moved ∙ gone-double from waits w.count at.0 v in
    record {
      way = λ s. double-goes from waits p s w v.lists u.lists _ at.0 at.1 (is_double _ ((c.in-Double.ensures s).place _ at.0 (so_far.way s) at.1)) lists ((c.in-Double.ensures s).way _ (so_far.way s));
      fewer = fewer-left fs (floats_of from u.lists) w.count c.loop-turn._turn _ (ap (λ (t : FloatPool). floats_of from t.lists) moved ∙ double-parts from waits w.count at.0 v) lt so_far.fewer;
      size = ap (λ (t : FloatPool). t.size) moved ∙ size-double from waits w.count at.0 v ∙ so_far.size;
      unmarked = λ h. c.move_to.ensures.unmarked (so_far.unmarked h);
    }

pub returns-in_default : goal.returns-in_default
returns-in_default c =
    let p = c.args.p.now in
    let from = c.args.from in
    let l = c.loop-turn.pool.lists in
    let fs = floats_of from l in
    let w = c.next_double.new.kept in
    let so_far = c.loop-turn.invariant in
    let over : length fs ≤ w.count = double-over fs w.count c.next_double.result (λ f. goes_double p l any (take w.count fs) f) (λ f got. (c.next_double.ensures any).place _ f (so_far.way any) got) c.in_default.not-Double (c.next_double.ensures any).over in
    let lists : (s : Suppress) → l ≡ doubled from p s [] (floats_of from c.args.pool.now.lists) c.args.pool.now.lists = λ s. way-over from (doubled from p s) w l _ (λ before m. refl) over ((c.next_double.ensures s).way _ (so_far.way s)) in
    record {
      lists = lists;
      order = λ k. ap (λ m. double_order from k m) (lists any) ∙ double-order from c.requires.waiting k p any c.args.pool.now.lists;
      size = so_far.size;
      unmarked = so_far.unmarked;
    }

pub returns-clause-lists : goal.returns-clause-lists
returns-clause-lists c = λ s.
    let from = c.args.from in
    let l = c.loop-turn.pool.lists in
    let so_far = c.loop-turn.invariant in
    let count = waiting-count from c.requires.waiting c.args.pool.now.lists in
    let over : length (floats_of from l) ≤ c.loop-turn.kept.count = omega (arith, count, so_far.fewer, c.len-turn-end.ensures.value, c.loop-turn-test.false) in
    way-over from (doubled from c.args.p.now s) c.loop-turn.kept l _ (λ before m. refl) over (so_far.way s)

pub returns-clause-order : goal.returns-clause-order
returns-clause-order c = λ k.
    ap (λ l. double_order c.args.from k l) (returns-clause-lists c any) ∙ double-order c.args.from c.requires.waiting k c.args.p.now any c.args.pool.now.lists
