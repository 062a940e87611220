use Rattle.std.proofs.Common.{◌≡◌, [], ◌∷◌, Some, slice_get, sym, ap, ◌∙◌, subst, FitsSigned, w64, to_z, of_z, rules}
use Rattle.std.proofs.lemmas.Int.{to_z-of_z}
use Rattle.std.proofs.lemmas.Option.{slice_get_within}
use Rattle.tb_pool.specs.Lists.{list_at}
use Rattle.tb_node.specs.declared.Float.{Float}
use Rattle.tb_float.specs.declared.Entry.TheVariants as entries
use Rattle.tb_float.specs.Lists.{entries_of}
use Rattle.tb_float.specs.Slots.{SlotView}
use Rattle.tb_float.specs.Pool.{HasNoMarks, moved_float, with_floats_after, without_entry}
use Rattle.tb_float.specs.Ranges.{IsRoom}
use Rattle.tb_float.specs.ByPart.{of_part}
use Rattle.tb_float.specs.Shelves.{slots_of, seen_pool}
use Rattle.tb_float.proofs.PartLemmas.{part-other}
use Rattle.tb_float.proofs.PoolLemmas.{IsPool, float-there, float-is, all-marks, moved-to, room-there}
use Rattle.tb_float.proofs.SoundLemmas.{sums-are_rooms}
use Rattle.tb_float.proofs.WaitingLemmas.{HasAllMarks}
use Rattle.tb_float.proofs.MarkLemmas.{unmarked-moved_float}
use Rattle.tb_float.specs.Classes.{IsTracked}
use Rattle.tb_float.proofs.KnownLemmas.{after-floats, after-only, without-only}
use Rattle.tb_float.proofs.TrackLemmas.{pooled, known-entry, tracked-moved}
use Rattle.tb_float.proofs.Pool.move_to.Goals.{After-move_slot-slot, After-entry_height-height, After-raise}
use Rattle.tb_float.proofs.Pool.move_to.Goals as goal

pub move_slot-slot-requires : goal.move_slot-slot-requires
move_slot-slot-requires c =
    let i = c.self.inside in
    let at = slots_of i.store i.shelves in
    let k = c.self.invariant.stored.shelves_are in
    let float = rw (← c.self.view_is) at c.requires.float in
    let there = float-there at c.args.from c.args.k float.0 (c.self.invariant.stored.sound.slots c.args.from) float.1 in
    rw (c.of.ensures, c.of-2.ensures) (record {
      from_live = k.live c.args.from;
      to_live = k.live c.args.to;
      one_live = k.one_live;
      rest_live = k.rest_live;
      differ = (k.apart c.args.from c.args.to c.requires.apart, k.one_apart c.args.from, k.rest_apart c.args.from, k.one_apart c.args.to, k.rest_apart c.args.to, k.helpers_apart);
      one_empty = k.one_empty;
      rest_empty = k.rest_empty;
      within = slice_get_within (at c.args.from) c.args.k there.0 there.1;
    })

-- the slot that went was at the place
slot_was : (c : After-move_slot-slot) → slice_get (slots_of c.self.inside.store c.self.inside.shelves c.args.from) c.args.k ≡ Some c.move_slot-slot.result
slot_was c = ap (λ l. slice_get (list_at c.self.inside.store l) c.args.k) (sym c.of.ensures) ∙ c.move_slot-slot.ensures.was

-- it held the float that contracts see there
entry_is : (c : After-move_slot-slot) (f : Float) → slice_get (entries_of c.args.from c.args.self.now.lists) c.args.k ≡ Some (entries.Float f) → c.move_slot-slot.result.entry ≡ entries.Float f
entry_is c f e =
    float-is (slots_of c.self.inside.store c.self.inside.shelves) c.args.from c.args.k f _ (c.self.invariant.stored.sound.slots c.args.from) (rw (← c.self.view_is) at e) (slot_was c)

-- its height is a room
room : (c : After-entry_height-height) → IsRoom (to_z w64 (of_z w64 c.entry_height-height.result))
room c =
    let i = c.self.inside in
    let f : FitsSigned w64 c.entry_height-height.result = search rules in
    simp to_z-of_z (room-there i.store i.shelves i.heights i.size c.args.from c.args.k _ _ _ c.self.invariant.stored (slot_was (goal.at.After-entry_height-height c).After-move_slot-slot) c.entry_height-height.ensures c.slot.view_is)

pub lower-requires : goal.lower-requires
lower-requires c =
    let i = c.self.inside in
    record {
      before = sums-are_rooms (slots_of i.store i.shelves) i.heights i.size i.store.spare c.args.from c.self.invariant.stored.sound c.self.invariant.stored.places;
      less = room (goal.at.lower-requires c).After-entry_height-height;
    }

pub raise-requires : goal.raise-requires
raise-requires c =
    let i = c.self.inside in
    let other = ap (λ h. of_part h c.args.to) c.lower.ensures ∙ part-other c.args.from c.args.to _ i.heights (λ e. c.requires.apart (sym e)) in
    record {
      before = subst IsRoom (sym other) (sums-are_rooms (slots_of i.store i.shelves) i.heights i.size i.store.spare c.args.to c.self.invariant.stored.sound c.self.invariant.stored.places);
      more = room (goal.at.raise-requires c).After-entry_height-height;
    }

-- the pool with the float at the end of the other list
moved : (c : After-raise) (f : Float) → c.move_slot-slot.result.entry ≡ entries.Float f → let i = c.self.inside in IsPool c.move_slot-slot.new.store i.shelves c.raise.new.self i.size (moved_float c.args.from c.args.k c.args.to f (seen_pool (slots_of i.store i.shelves) i.size))
moved c f is =
    let i = c.self.inside in
    let fits : FitsSigned w64 c.entry_height-height.result = search rules in
    let links = rw (c.of.ensures, c.of-2.ensures) at c.move_slot-slot.ensures.moved in
    let lowered = simp to_z-of_z at c.lower.ensures in
    let raised = simp to_z-of_z at c.raise.ensures in
    moved-to i.store c.move_slot-slot.new.store i.shelves i.heights _ _ i.size c.args.from c.args.to c.args.k _ _ f _ c.self.invariant.stored c.requires.apart (slot_was (goal.at.After-raise c).After-move_slot-slot) is links c.move_slot-slot.ensures.spare c.entry_height-height.ensures c.slot.view_is lowered raised

pub invariant_of-self : goal.invariant_of-self
invariant_of-self c =
    let i = c.self.inside in
    let w = goal.at.invariant_of-self c in
    let f = c.requires.float.0 in
    let is = entry_is w.After-move_slot-slot f c.requires.float.1 in
    let made = moved w.After-raise f is in
    let P = IsTracked i.known.flags i.least in
    let v = seen_pool (slots_of i.store i.shelves) i.size in
    let left = without_entry c.args.from c.args.k v in
    let known = known-entry P c.args.from c.args.k f v.lists (c.self.invariant.tracked.floats c.args.from) (rw (← c.self.view_is) at c.requires.float.1) in
    let entry = ap (λ (r : SlotView). r.entry) c.slot.view_is ∙ is in
    pooled c.move_slot-slot.new.store i.shelves c.raise.new.self i.size i.known i.chosen i.least c.gain.new.self _ made.stored made.seen (tracked-moved P i.chosen c.args.from c.args.k c.args.to f v (all-marks (slots_of i.store i.shelves) i.size c.self.invariant.stored.sound.slots) c.self.invariant.tracked known)
    (c.gain.ensures left.lists (with_floats_after c.args.to (f ∷ []) left).lists f entry (after-only c.args.to (f ∷ []) left) (after-floats c.args.to (f ∷ []) left) (c.lose.ensures v.lists left.lists (without-only c.args.from c.args.k v) c.self.invariant.firsts_known))

pub returns-clause-moved : goal.returns-clause-moved
returns-clause-moved c = λ f e.
    let w = goal.at.returns-clause-moved c in
    (moved w.After-raise f (entry_is w.After-move_slot-slot f e)).seen ∙ ap (moved_float c.args.from c.args.k c.args.to f) c.self.view_is

pub returns-clause-unmarked : goal.returns-clause-unmarked
returns-clause-unmarked c = λ none.
    let i = c.self.inside in
    let f = c.requires.float.0 in
    let same = subst HasAllMarks c.self.view_is (all-marks (slots_of i.store i.shelves) i.size c.self.invariant.stored.sound.slots) in
    subst HasNoMarks (sym (returns-clause-moved c f c.requires.float.1)) (unmarked-moved_float c.args.from c.args.k c.args.to f c.args.self.now same none)
