use Rattle.std.proofs.Common.{◌-◌, ◌≡◌, ◌<◌, [], ◌∷◌, length, Some, slice_get, refl, sym, ap, ◌∙◌, subst, FitsSigned, w64, rules, arith}
use Rattle.std.proofs.lemmas.Int.{to_z-of_z}
use Rattle.std.proofs.lemmas.List.{length-map}
use Rattle.tb_pool.specs.Lists.{Lists}
use Rattle.tb_float.specs.declared.Entry.TheVariants as entries
use Rattle.tb_float.specs.Slots.{SlotView}
use Rattle.tb_float.specs.Lists.{floats_of}
use Rattle.tb_float.specs.Pool.{marks_of, marked_floats, unmarked_floats, first_marked, without_entry}
use Rattle.tb_float.specs.Shelves.{shelf_of, slots_of, seen_pool, marks_in, is_float, IsPooled, HasTaken}
use Rattle.tb_float.proofs.SlotLemmas.{slot-there, float-at_slot}
use Rattle.tb_float.proofs.SoundLemmas.{marks_of-seen, sums-are_rooms, floats_of-seen}
use Rattle.tb_float.proofs.WaitingLemmas.{waiting-floats}
use Rattle.tb_float.proofs.PoolLemmas.{IsPool, taken-out, room-there, marks-shown}
use Rattle.tb_float.proofs.MarkLemmas.{unmarked-all, none-marked, first-left}
use Rattle.tb_float.specs.Classes.{AreSetFrom, IsTracked, Tracks}
use Rattle.tb_float.proofs.KnownLemmas.{without-only}
use Rattle.tb_float.proofs.TrackLemmas.{pooled-marked, tracked-fewer, all-unmarked}
use Rattle.std.proofs.lemmas.Option.{slice_get_within}
use Rattle.tb_float.proofs.PlaceLemmas.{place-of, place-without}
use Rattle.tb_float.proofs.Pool.retire_marked.Goals.{Then-self-eq0, In_default, In-Some, After-lower, After-float}
use Rattle.tb_float.proofs.Pool.retire_marked.Goals as goal

pub take_marked-requires : goal.take_marked-requires
take_marked-requires c =
    let i = c.self.inside in
    let k = c.self.invariant.stored.shelves_are in
    let p = c.args.from in
    rw c.of.ensures (record {
      from_live = k.live p;
      one_live = k.one_live;
      rest_live = k.rest_live;
      differ = (k.one_apart p, k.rest_apart p, k.helpers_apart);
      one_empty = k.one_empty;
      rest_empty = k.rest_empty;
      marks_from = subst (AreSetFrom i.marks_from) (marks_of-seen p (slots_of i.store i.shelves) i.size c.requires) (place-of p i.marks_from _ c.requires c.self.invariant.marked_from);
    })

-- no float is chosen, so none of the list is marked
none_chosen : (c : Then-self-eq0) → marked_floats c.args.from c.args.self.now ≡ []
none_chosen c =
    let i = c.self.inside in
    let v = seen_pool (slots_of i.store i.shelves) i.size in
    let P = IsTracked i.known.flags i.least in
    sym (ap (marked_floats c.args.from) c.self.view_is) ∙ all-unmarked c.args.from P v c.requires (subst (λ n. Tracks P n v) c.if-self-eq0.true c.self.invariant.tracked)

pub returns-then-self-eq0-clause-none : goal.returns-then-self-eq0-clause-none
returns-then-self-eq0-clause-none c = (λ e. none_chosen (goal.at.returns-then-self-eq0-clause-none c).Then-self-eq0, λ e. refl)

pub returns-then-self-eq0-clause-all_unmarked : goal.returns-then-self-eq0-clause-all_unmarked
returns-then-self-eq0-clause-all_unmarked c =
    let old = c.args.self.now in
    unmarked-all (marks_of c.args.from old) (floats_of c.args.from old.lists) (none_chosen (goal.at.returns-then-self-eq0-clause-all_unmarked c).Then-self-eq0)

-- no slot of the list is marked
none_found : (c : In_default) → marked_floats c.args.from c.args.self.now ≡ []
none_found c =
    let i = c.self.inside in
    let p = c.args.from in
    let at = slots_of i.store i.shelves in
    let v = seen_pool at i.size in
    let first : first_marked (marks_in (at p)) ≡ length (at p) = rw c.of.ensures at c.in_default.ensures.none in
    let end = ap first_marked (marks_of-seen p at i.size c.requires) ∙ first ∙ sym (ap length (marks_of-seen p at i.size c.requires) ∙ length-map (at p) (λ s. s.marked)) in
    sym (ap (marked_floats p) c.self.view_is) ∙ (none-marked (marks_of p v) (floats_of p v.lists) (marks-shown p at i.size c.requires (c.self.invariant.stored.sound.slots p)) end).0

pub returns-in_default-clause-none : goal.returns-in_default-clause-none
returns-in_default-clause-none c = (λ e. none_found (goal.at.returns-in_default-clause-none c).In_default, λ e. refl)

pub returns-in_default-clause-all_unmarked : goal.returns-in_default-clause-all_unmarked
returns-in_default-clause-all_unmarked c =
    let old = c.args.self.now in
    unmarked-all (marks_of c.args.from old) (floats_of c.args.from old.lists) (none_found (goal.at.returns-in_default-clause-all_unmarked c).In_default)

-- the slot that left was the first marked one
gone : (c : In-Some) → HasTaken c.in-Some.slot (shelf_of c.self.inside.shelves c.args.from) c.self.inside.store c.take_marked.new.store
gone c = rw c.of.ensures at c.in-Some.ensures.taken

pub lower-requires : goal.lower-requires
lower-requires c =
    let i = c.self.inside in
    let f : FitsSigned w64 c.entry_height.result = search rules in
    record {
      before = sums-are_rooms (slots_of i.store i.shelves) i.heights i.size i.store.spare c.args.from c.self.invariant.stored.sound c.self.invariant.stored.places;
      less = simp to_z-of_z (room-there i.store i.shelves i.heights i.size c.args.from _ _ _ _ c.self.invariant.stored (gone (goal.at.lower-requires c).In-Some).was c.entry_height.ensures c.slot.view_is);
    }

pub float-requires : goal.float-requires
float-requires c =
    let at = slots_of c.self.inside.store c.self.inside.shelves in
    let there = slot-there c.args.from _ (at c.args.from) c.in-Some.slot (c.self.invariant.stored.sound.slots c.args.from) (gone (goal.at.float-requires c).In-Some).was in
    ap (λ (s : SlotView). is_float s.entry) c.slot.view_is ∙ there.float (waiting-floats c.args.from c.requires)

pub invariant_of-self : goal.invariant_of-self
invariant_of-self c =
    let i = c.self.inside in
    subst (λ (store : Lists SlotView). IsPooled store i.shelves i.heights i.size i.known i.chosen i.least i.marks_from i.firsts) (sym c.in_default.ensures.unchanged) c.self.invariant

-- the pool without that slot
made : (c : After-lower) → let i = c.self.inside in let v = seen_pool (slots_of i.store i.shelves) i.size in IsPool c.take_marked.new.store i.shelves c.lower.new.self i.size (without_entry c.args.from (first_marked (marks_of c.args.from v)) v)
made c =
    let i = c.self.inside in
    let at = slots_of i.store i.shelves in
    let f : FitsSigned w64 c.entry_height.result = search rules in
    let taken = gone (goal.at.After-lower c).In-Some in
    let lowered = simp to_z-of_z at c.lower.ensures in
    let pool = taken-out i.store c.take_marked.new.store i.shelves i.heights c.lower.new.self i.size c.args.from _ _ _ _ c.self.invariant.stored taken.was taken.taken taken.spare c.entry_height.ensures c.slot.view_is lowered in
    record { stored = pool.stored; seen = pool.seen ∙ ap (λ ms. without_entry c.args.from (first_marked ms) (seen_pool at i.size)) (sym (marks_of-seen c.args.from at i.size c.requires)) }

-- the float that is returned is at the place of the first mark
was_first : (c : After-float) → let v = seen_pool (slots_of c.self.inside.store c.self.inside.shelves) c.self.inside.size in slice_get (floats_of c.args.from v.lists) (first_marked (marks_of c.args.from v)) ≡ Some c.float.result.now
was_first c =
    let p = c.args.from in
    let at = slots_of c.self.inside.store c.self.inside.shelves in
    let is : c.in-Some.slot.entry ≡ entries.Float c.float.result.now = ap (λ (r : SlotView). r.entry) (sym c.slot.view_is) ∙ c.float.ensures in
    (λ j. slice_get (floats_of-seen p at j) (first_marked (marks_of-seen p at c.self.inside.size c.requires j)))
    ∙ float-at_slot p _ (at p) c.in-Some.slot c.float.result.now (waiting-floats p c.requires) (c.self.invariant.stored.sound.slots p) (gone (goal.at.After-float c).In-Some).was is

pub invariant_of-self-2 : goal.invariant_of-self-2
invariant_of-self-2 c =
    let i = c.self.inside in
    let p = c.args.from in
    let w = goal.at.invariant_of-self-2 c in
    let v = seen_pool (slots_of i.store i.shelves) i.size in
    let k = first_marked (marks_of p v) in
    let pool = made w.After-lower in
    let there = was_first w.After-float in
    let many = marks-shown p (slots_of i.store i.shelves) i.size c.requires (c.self.invariant.stored.sound.slots p) in
    let left = first-left p v c.float.result.now c.requires many there in
    let lt : k < length (marks_of p v) = omega (arith, many, slice_get_within (floats_of p v.lists) k c.float.result.now there) in
    pooled-marked c.take_marked.new.store i.shelves c.lower.new.self i.size i.known (i.chosen - 1) i.least i.marks_from c.lose.new.self _ pool.stored pool.seen
    (tracked-fewer (IsTracked i.known.flags i.least) i.chosen p k c.float.result.now v c.requires c.self.invariant.tracked left.0) (place-without i.marks_from p k v c.requires refl lt c.self.invariant.marked_from)
    (c.lose.ensures v.lists (without_entry p k v).lists (without-only p k v) c.self.invariant.firsts_known)

pub returns : goal.returns
returns c =
    let i = c.self.inside in
    let p = c.args.from in
    let w = goal.at.returns c in
    let seen = (made w.After-lower).seen in
    let many = marks-shown p (slots_of i.store i.shelves) i.size c.requires (c.self.invariant.stored.sound.slots p) in
    let left = first-left p (seen_pool (slots_of i.store i.shelves) i.size) c.float.result.now c.requires many (was_first w.After-float) in
    let marked = sym (ap (marked_floats p) c.self.view_is) ∙ left.0 ∙ ap (λ u. c.float.result.now ∷ marked_floats p u) (sym seen) in
    record {
      none = (λ e. cc, λ e. let clash = sym e ∙ marked in cc);
      first = marked;
      others = ap (unmarked_floats p) seen ∙ left.1 ∙ ap (unmarked_floats p) c.self.view_is;
      rest = seen ∙ ap (λ u. without_entry p (first_marked (marks_of p u)) u) c.self.view_is;
      unchanged = tt;
      all_unmarked = tt;
    }
