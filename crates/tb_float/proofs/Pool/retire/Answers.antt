use Rattle.std.proofs.Common.{◌≡◌, ◌∷◌, Some, drop, length, slice_get, sym, ap, ◌∙◌, subst, FitsSigned, w64, rules, arith}
use Rattle.std.specs.Option.{option_map}
use Rattle.std.proofs.lemmas.Int.{to_z-of_z}
use Rattle.std.proofs.lemmas.Option.{slice_get-map}
use Rattle.tb_pool.specs.Lists.{Lists, with_list}
use Rattle.tb_float.specs.Slots.{SlotView}
use Rattle.tb_float.specs.Lists.{entries_of, entry_count}
use Rattle.tb_float.specs.Pool.{HasNoMarks, without_entry}
use Rattle.tb_float.specs.Shelves.{slots_of, seen_pool, shelf_of, IsPooled}
use Rattle.tb_float.proofs.SoundLemmas.{sums-are_rooms, entries_of-seen, entry_count-seen}
use Rattle.tb_float.proofs.PoolLemmas.{IsPool, taken-out, room-there, without-first}
use Rattle.tb_float.proofs.MarkLemmas.{unmarked-without_entry}
use Rattle.tb_float.specs.Classes.{IsTracked}
use Rattle.tb_float.proofs.KnownLemmas.{without-only}
use Rattle.tb_float.proofs.TrackLemmas.{pooled, tracked-without}
use Rattle.tb_float.proofs.Pool.retire.Goals.{In-Some, After-lower}
use Rattle.tb_float.proofs.Pool.retire.Goals as goal

-- the slot that left was the first
popped : (c : In-Some) → let at = slots_of c.self.inside.store c.self.inside.shelves in at c.args.p ≡ c.in-Some.slot ∷ drop 1 (at c.args.p)
popped c = rw c.of.ensures at c.in-Some.ensures.popped

pub lower-requires : goal.lower-requires
lower-requires c =
    let i = c.self.inside in
    let f : FitsSigned w64 c.entry_height.result = search rules in
    record {
      before = sums-are_rooms (slots_of i.store i.shelves) i.heights i.size i.store.spare c.args.p c.self.invariant.stored.sound c.self.invariant.stored.places;
      less = simp to_z-of_z (room-there i.store i.shelves i.heights i.size c.args.p 0 _ _ _ c.self.invariant.stored (ap (λ ss. slice_get ss 0) (popped (goal.at.lower-requires c).In-Some)) c.entry_height.ensures c.slot.view_is);
    }

pub invariant_of-self : goal.invariant_of-self
invariant_of-self c =
    let i = c.self.inside in
    subst (λ (store : Lists SlotView). IsPooled store i.shelves i.heights i.size i.known i.chosen i.least i.marks_from i.firsts) (sym c.in_default.ensures.none) c.self.invariant

-- the pool without the first entry
made : (c : After-lower) → let i = c.self.inside in IsPool c.pop_front.new.self i.shelves c.lower.new.self i.size (without_entry c.args.p 0 (seen_pool (slots_of i.store i.shelves) i.size))
made c =
    let i = c.self.inside in
    let f : FitsSigned w64 c.entry_height.result = search rules in
    let rest = rw c.of.ensures at c.in-Some.ensures.rest in
    let written = rest ∙ ap (with_list i.store (shelf_of i.shelves c.args.p)) (sym (without-first (slots_of i.store i.shelves c.args.p))) in
    let lowered = simp to_z-of_z at c.lower.ensures in
    taken-out i.store c.pop_front.new.self i.shelves i.heights _ i.size c.args.p 0 _ _ _ c.self.invariant.stored (ap (λ ss. slice_get ss 0) (popped (goal.at.After-lower c).In-Some)) written c.in-Some.ensures.spare c.entry_height.ensures c.slot.view_is lowered

pub invariant_of-self-2 : goal.invariant_of-self-2
invariant_of-self-2 c =
    let i = c.self.inside in
    let pool = made (goal.at.invariant_of-self-2 c).After-lower in
    let v = seen_pool (slots_of i.store i.shelves) i.size in
    pooled c.pop_front.new.self i.shelves c.lower.new.self i.size i.known i.chosen i.least c.lose.new.self _ pool.stored pool.seen (tracked-without (IsTracked i.known.flags i.least) i.chosen c.args.p 0 v c.self.invariant.tracked)
    (c.lose.ensures v.lists (without_entry c.args.p 0 v).lists (without-only c.args.p 0 v) c.self.invariant.firsts_known)

pub returns-clause-first : goal.returns-clause-first
returns-clause-first c =
    let i = c.self.inside in
    let at = slots_of i.store i.shelves in
    let got = ap (λ ss. slice_get ss 0) (popped (goal.at.returns-clause-first c).In-Some) in
    let seen = ap (λ v. slice_get (entries_of c.args.p v.lists) 0) (sym c.self.view_is) ∙ ap (λ es. slice_get es 0) (entries_of-seen c.args.p at (c.self.invariant.stored.sound.slots c.args.p)) ∙ slice_get-map (λ r. r.entry) (at c.args.p) 0 ∙ ap (option_map (λ r. r.entry)) got in
    ap (λ r. Some r.entry) c.slot.view_is ∙ sym seen

pub returns-clause-empty : goal.returns-clause-empty
returns-clause-empty c =
    let at = slots_of c.self.inside.store c.self.inside.shelves in
    let counted = ap (λ v. entry_count c.args.p v.lists) (sym c.self.view_is) ∙ entry_count-seen c.args.p at (c.self.invariant.stored.sound.slots c.args.p) ∙ ap length (popped (goal.at.returns-clause-empty c).In-Some) in
    (λ e. cc, λ e. absurd (omega (arith, sym counted ∙ e)))

pub returns-clause-rest : goal.returns-clause-rest
returns-clause-rest c = (made (goal.at.returns-clause-rest c).After-lower).seen ∙ ap (without_entry c.args.p 0) c.self.view_is

pub returns-clause-unmarked : goal.returns-clause-unmarked
returns-clause-unmarked c = λ none. subst HasNoMarks (sym (returns-clause-rest c)) (unmarked-without_entry c.args.p 0 c.args.self.now none)
