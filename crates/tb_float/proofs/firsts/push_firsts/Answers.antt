use Rattle.std.proofs.Common.{◌≡◌, suc, Some, slice_get, take, drop, length, refl, sym, ap, ◌∙◌, subst, add-one, arith}
use Rattle.tb_pool.specs.Lists.{list_at}
use Rattle.tb_float.specs.Slots.{SlotView}
use Rattle.tb_float.specs.Lists.{float_entries}
use Rattle.tb_float.specs.Shelves.{entries_in, floats_in, is_float}
use Rattle.tb_float.proofs.EntryLemmas.{next-entry, next-is_float}
use Rattle.tb_float.proofs.HasLemmas.{has-there}
use Rattle.tb_float.proofs.FindLemmas.{AreFound, found-all, found-one, found-same, passed-one}
use Rattle.tb_float.proofs.firsts.push_firsts.Goals.{After-float-f, then-not-has+in_ok-push+else-is_full, else-not-has}
use Rattle.tb_float.proofs.firsts.push_firsts.Goals as goal

pub float-f-requires : goal.float-f-requires
float-f-requires c =
    let all = floats_in (list_at c.args.store.now c.args.list) in
    let next = ap entries_in (sym c.in-Some.ensures.steps) ∙ c.loop-slot.invariant.entries in
    ap (λ (s : SlotView). is_float s.entry) c.slot.view_is ∙ next-is_float c.in-Some.slot.now.entry (entries_in c.next.new.self) (drop c.loop-slot.place all) next

-- the float is at the place, and the others come behind it
there : (c : After-float-f) → let all = floats_in (list_at c.args.store.now c.args.list) in (slice_get all c.loop-slot.place ≡ Some c.float-f.result.now) × (entries_in c.next.new.self ≡ float_entries (drop (suc c.loop-slot.place) all))
there c = next-entry (floats_in (list_at c.args.store.now c.args.list)) c.loop-slot.place _ _ _ (ap entries_in (sym c.in-Some.ensures.steps) ∙ c.loop-slot.invariant.entries) (ap (λ (s : SlotView). s.entry) (sym c.slot.view_is) ∙ c.float-f.ensures)

pub returns-then-is_full : goal.returns-then-is_full
returns-then-is_full c =
    let all = floats_in (list_at c.args.store.now c.args.list) in
    let k = c.loop-slot.place in
    let f = c.float-f.result.now in
    let before = c.loop-slot.invariant.found in
    let at = there (goal.at.returns-then-is_full c).After-float-f in
    let new = sym (c.has.ensures (take k all) before.classes) ∙ c.if-not-has.true in
    let found = found-one all k c.loop-slot.items.items c.loop-slot.classes f at.0 before c.add.new.self new (c.add.ensures.classes (take k all) f refl before.classes) (c.add.ensures.left all (has-there all k f at.0) before.left) in
    let end = found-all all (suc k) _ c.add.new.self found (c.is_full.ensures.all c.if-is_full.true (take (suc k) all) all found.classes found.left) in
    record { items = c.in_ok-push.ensures.items ∙ end.items_are; classes = end.classes }

pub loop-slot-preserved : goal.loop-slot-preserved
loop-slot-preserved c =
    let all = floats_in (list_at c.args.store.now c.args.list) in
    let k = c.loop-slot.place in
    let f = c.float-f.result.now in
    let before = c.loop-slot.invariant.found in
    let at = there (goal.at.loop-slot-preserved c).After-float-f in
    let has = c.has.ensures (take k all) before.classes in
    let found : AreFound all (suc k) c.if-not-has.items.items c.if-not-has.classes = elim c.if-not-has.branch [
      | then-not-has+in_ok-push+else-is_full w ↦ found-same all (suc k) _ _ _ _ ((λ i. (w.items-is i).items) ∙ w.in_ok-push.ensures.items) w.classes-is (found-one all k c.loop-slot.items.items c.loop-slot.classes f at.0 before w.add.new.self (sym has ∙ w.if-not-has.true) (w.add.ensures.classes (take k all) f refl before.classes) (w.add.ensures.left all (has-there all k f at.0) before.left))
      | else-not-has w ↦ found-same all (suc k) _ _ _ _ (λ i. (w.items-is i).items) w.classes-is (passed-one all k c.loop-slot.items.items c.loop-slot.classes f at.0 before (sym has ∙ w.if-not-has.false))
    ] in
    record {
      can_next = tt;
      is_finite = tt;
      few = omega (arith, c.loop-slot.invariant.few, ap length c.in-Some.ensures.steps);
      entries = at.1 ∙ ap (λ n. float_entries (drop n all)) (sym (add-one k));
      found = subst (λ n. AreFound all n c.if-not-has.items.items c.if-not-has.classes) (sym (add-one k)) found;
    }
