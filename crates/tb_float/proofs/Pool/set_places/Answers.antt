use Rattle.std.proofs.Common.{◌≡◌, ◌<◌, [], ◌∷◌, length, Some, slice_get, refl, sym, ap, ◌∙◌, subst}
use Rattle.std.specs.Prelude.{slice_set}
use Rattle.std.proofs.lemmas.Option.{slice_get_within}
use Rattle.tb_pool.specs.Lists.{with_list}
use Rattle.tb_node.specs.declared.Float.{Float}
use Rattle.tb_float.specs.declared.Entry.TheVariants as entries
use Rattle.tb_float.specs.Slots.{SlotView}
use Rattle.tb_float.specs.Lists.{entries_of}
use Rattle.tb_float.specs.Pool.{HasNoMarks, with_float_at, with_places}
use Rattle.tb_float.specs.Shelves.{seen_pool, slots_of, shelf_of, is_float}
use Rattle.tb_float.proofs.PoolLemmas.{IsPool, float-there, float-is, places-set, same-float}
use Rattle.tb_float.proofs.MarkLemmas.{unmarked-with_float_at}
use Rattle.tb_float.proofs.KnownLemmas.{set-only}
use Rattle.tb_float.proofs.TrackLemmas.{pooled, known-entry, tracked-set}
use Rattle.std.specs.List.{AllByRecursion}
use Rattle.tb_float.specs.Classes.{IsTracked}
use Rattle.tb_float.proofs.Pool.set_places.Goals.{After-of-list, After-slot_at-slot, After-float-float, After-replace}
use Rattle.tb_float.proofs.Pool.set_places.Goals as goal

-- a slot is at the place
within : (c : After-of-list) → c.args.k < length (slots_of c.self.inside.store c.self.inside.shelves c.args.p)
within c =
    let at = slots_of c.self.inside.store c.self.inside.shelves in
    let float = rw (← c.self.view_is) at c.requires in
    let there = float-there at c.args.p c.args.k float.0 (c.self.invariant.stored.sound.slots c.args.p) float.1 in
    slice_get_within (at c.args.p) c.args.k there.0 there.1

pub slot_at-slot-requires-clause-within : goal.slot_at-slot-requires-clause-within
slot_at-slot-requires-clause-within c = rw c.of-list.ensures (within (goal.at.slot_at-slot-requires-clause-within c).After-of-list)

pub replace-requires-clause-within : goal.replace-requires-clause-within
replace-requires-clause-within c = rw c.of-list.ensures (within (goal.at.replace-requires-clause-within c).After-of-list)

-- it holds the float that contracts see there
entry_is : (c : After-slot_at-slot) (g : Float) → slice_get (entries_of c.args.p c.args.self.now.lists) c.args.k ≡ Some (entries.Float g) → c.slot_at-slot.result.entry ≡ entries.Float g
entry_is c g e =
    let at = slots_of c.self.inside.store c.self.inside.shelves in
    float-is at c.args.p c.args.k g _ (c.self.invariant.stored.sound.slots c.args.p) (rw (← c.self.view_is) at e) (rw c.of-list.ensures at c.slot_at-slot.ensures)

pub float-float-requires : goal.float-float-requires
float-float-requires c =
    let w = (goal.at.float-float-requires c).After-slot_at-slot in
    ap (λ (s : SlotView). is_float s.entry) c.slot.view_is ∙ ap is_float (entry_is w c.requires.0 c.requires.1)

-- the entry is the float that is read
read : (c : After-float-float) → c.slot_at-slot.result.entry ≡ entries.Float c.float-float.result.now
read c = ap (λ (r : SlotView). r.entry) (sym c.slot.view_is) ∙ c.float-float.ensures

-- the pool has the float with its new places
made : (c : After-replace) → let i = c.self.inside in IsPool c.replace.new.self i.shelves i.heights i.size (with_float_at c.args.p c.args.k (with_places c.args.places c.float-float.result.now) (seen_pool (slots_of i.store i.shelves) i.size))
made c =
    let i = c.self.inside in
    let at = slots_of i.store i.shelves in
    let f = c.float-float.result.now in
    let got : slice_get (at c.args.p) c.args.k ≡ Some c.slot_at-slot.result = rw c.of-list.ensures at c.slot_at-slot.ensures in
    let after = rw (c.of-list.ensures, c.with_places.ensures) at c.replace.ensures.after in
    let written = after ∙ ap (λ (r : SlotView). with_list i.store (shelf_of i.shelves c.args.p) (slice_set (at c.args.p) c.args.k (record { entry = entries.Float (with_places c.args.places f); marked = r.marked }))) c.slot.view_is in
    places-set i.store c.replace.new.self i.shelves i.heights i.size c.args.p c.args.k _ f (with_places c.args.places f) c.self.invariant.stored got (read (goal.at.After-replace c).After-float-float) refl written c.replace.ensures.spare

pub invariant_of-self : goal.invariant_of-self
invariant_of-self c =
    let i = c.self.inside in
    let w = goal.at.invariant_of-self c in
    let set = made w.After-replace in
    let g = c.requires.0 in
    let same = same-float _ g (sym (read w.After-float-float) ∙ entry_is w.After-slot_at-slot g c.requires.1) in
    let P = IsTracked i.known.flags i.least in
    let v = seen_pool (slots_of i.store i.shelves) i.size in
    let known = subst (λ (h : Float). AllByRecursion P (h ∷ [])) (sym same) (known-entry P c.args.p c.args.k g v.lists (c.self.invariant.tracked.floats c.args.p) (rw (← c.self.view_is) at c.requires.1)) in
    let placed = with_places c.args.places c.float-float.result.now in
    pooled c.replace.new.self i.shelves i.heights i.size i.known i.chosen i.least c.lose.new.self _ set.stored set.seen (tracked-set P i.chosen c.args.p c.args.k placed v c.self.invariant.tracked known)
    (c.lose.ensures v.lists (with_float_at c.args.p c.args.k placed v).lists (set-only c.args.p c.args.k placed v) c.self.invariant.firsts_known)

pub returns-clause-set : goal.returns-clause-set
returns-clause-set c = λ g e.
    let w = goal.at.returns-clause-set c in
    let same = same-float _ g (sym (read w.After-float-float) ∙ entry_is w.After-slot_at-slot g e) in
    (made w.After-replace).seen ∙ ap (with_float_at c.args.p c.args.k (with_places c.args.places c.float-float.result.now)) c.self.view_is ∙ ap (λ (h : Float). with_float_at c.args.p c.args.k (with_places c.args.places h) c.args.self.now) same

pub returns-clause-unmarked : goal.returns-clause-unmarked
returns-clause-unmarked c = λ none.
    subst HasNoMarks (sym (returns-clause-set c c.requires.0 c.requires.1)) (unmarked-with_float_at c.args.p c.args.k (with_places c.args.places c.requires.0) c.args.self.now none)
