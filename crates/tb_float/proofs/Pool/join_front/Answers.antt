use Rattle.std.proofs.Common.{ℤ, sym, ap, ◌∙◌, subst, FitsSigned, w64, rules}
use Rattle.std.proofs.lemmas.Int.{to_z-of_z}
use Rattle.tb_float.specs.declared.by_part.ByPart.{ByPart}
use Rattle.tb_float.specs.Lists.{floats_of}
use Rattle.tb_float.specs.Pool.{HasNoMarks, joined_before, with_floats_before, without_entries}
use Rattle.tb_float.specs.Ranges.{IsRoom}
use Rattle.tb_float.specs.ByPart.{of_part}
use Rattle.tb_float.specs.Shelves.{slots_of, shelf_of, seen_pool, IsStored}
use Rattle.tb_float.proofs.MoveLemmas.{joined-lists, live-joined}
use Rattle.tb_float.proofs.SoundLemmas.{sums-are_rooms, floats_of-seen}
use Rattle.tb_float.proofs.PartLemmas.{part-other}
use Rattle.tb_float.proofs.PoolLemmas.{joined-front, bare-list, joined-without_marks, sums-moved}
use Rattle.tb_float.proofs.MarkLemmas.{unmarked-joined_before}
use Rattle.tb_float.specs.Classes.{IsTracked}
use Rattle.tb_float.proofs.KnownLemmas.{before-only, emptied-only}
use Rattle.tb_float.proofs.TrackLemmas.{pooled, tracked-joined}
use Rattle.tb_float.proofs.Pool.join_front.Goals as goal

pub append-requires : goal.append-requires
append-requires c =
    let k = c.self.invariant.stored.shelves_are in
    rw (c.of-front.ensures, c.of-back.ensures) (record { first_live = k.live c.args.from; second_live = k.live c.args.to; apart = k.apart c.args.from c.args.to c.requires.apart })

pub append-requires-2 : goal.append-requires-2
append-requires-2 c =
    let i = c.self.inside in
    let k = c.self.invariant.stored.shelves_are in
    let joined = rw (c.of-front.ensures, c.of-back.ensures) at c.append.ensures.joined in
    rw (c.of-front.ensures, c.of-back.ensures) (record {
      first_live = live-joined i.store c.append.new.self _ _ _ _ joined (k.live c.args.to);
      second_live = live-joined i.store c.append.new.self _ _ _ _ joined (k.live c.args.from);
      apart = k.apart c.args.to c.args.from (λ e. c.requires.apart (sym e));
    })

pub lower-requires : goal.lower-requires
lower-requires c =
    let i = c.self.inside in
    let at = slots_of i.store i.shelves in
    let f : FitsSigned w64 c.of-height.result = search rules in
    let room = sums-are_rooms at i.heights i.size i.store.spare c.args.from c.self.invariant.stored.sound c.self.invariant.stored.places in
    record { before = room; less = simp to_z-of_z (subst IsRoom (sym c.of-height.ensures) room) }

pub raise-requires : goal.raise-requires
raise-requires c =
    let i = c.self.inside in
    let at = slots_of i.store i.shelves in
    let f : FitsSigned w64 c.of-height.result = search rules in
    let room = sums-are_rooms at i.heights i.size i.store.spare c.args.from c.self.invariant.stored.sound c.self.invariant.stored.places in
    let other = ap (λ h. of_part h c.args.to) c.lower.ensures ∙ part-other c.args.from c.args.to _ i.heights (λ e. c.requires.apart (sym e)) in
    record {
      before = subst IsRoom (sym other) (sums-are_rooms at i.heights i.size i.store.spare c.args.to c.self.invariant.stored.sound c.self.invariant.stored.places);
      more = simp to_z-of_z (subst IsRoom (sym c.of-height.ensures) room);
    }

pub invariant_of-self : goal.invariant_of-self
invariant_of-self c =
    let i = c.self.inside in
    let at = slots_of i.store i.shelves in
    let k = c.self.invariant.stored.shelves_are in
    let f : FitsSigned w64 c.of-height.result = search rules in
    let bare = bare-list c.args.from at i.size c.args.self.now (c.self.invariant.stored.sound.slots c.args.from) (c.self.view_is ∙ c.unmark.ensures) c.requires.floats in
    let first = rw (c.of-front.ensures, c.of-back.ensures) at c.append.ensures.joined in
    let second = rw (c.of-front.ensures, c.of-back.ensures) at c.append-2.ensures.joined in
    let joined = joined-lists i.store c.append.new.self c.append-2.new.self (shelf_of i.shelves c.args.from) (shelf_of i.shelves c.args.to) (k.apart c.args.from c.args.to c.requires.apart) first second in
    let made = joined-front i.store c.append-2.new.self i.shelves i.heights i.size c.args.from c.args.to c.self.invariant.stored c.requires.apart bare joined (c.append-2.ensures.spare ∙ c.append.ensures.spare) in
    let lowered = simp to_z-of_z at c.lower.ensures in
    let raised = simp to_z-of_z at c.raise.ensures in
    let floats = ap (λ fs. with_floats_before c.args.to fs (without_entries c.args.from (seen_pool at i.size))) (sym (floats_of-seen c.args.from at)) in
    let stored = subst (λ (g : ByPart ℤ). IsStored c.append-2.new.self i.shelves g i.size) (sym (sums-moved i.heights c.lower.new.self c.raise.new.self c.args.from c.args.to c.of-height.result (of_part i.heights c.args.from) c.of-height.ensures lowered raised)) made.stored in
    let v = seen_pool at i.size in
    let emptied = without_entries c.args.from v in
    pooled c.append-2.new.self i.shelves c.raise.new.self i.size i.known i.chosen i.least c.lose-2.new.self _ stored (made.seen ∙ floats) (tracked-joined (IsTracked i.known.flags i.least) i.chosen c.args.from c.args.to v c.self.invariant.tracked)
    (c.lose-2.ensures emptied.lists (joined_before c.args.from c.args.to v).lists (before-only c.args.to (floats_of c.args.from v.lists) emptied) (c.lose.ensures v.lists emptied.lists (emptied-only c.args.from v) c.self.invariant.firsts_known))

pub returns : goal.returns
returns c =
    let i = c.self.inside in
    let at = slots_of i.store i.shelves in
    let k = c.self.invariant.stored.shelves_are in
    let old = c.args.self.now in
    let bare = bare-list c.args.from at i.size old (c.self.invariant.stored.sound.slots c.args.from) (c.self.view_is ∙ c.unmark.ensures) c.requires.floats in
    let first = rw (c.of-front.ensures, c.of-back.ensures) at c.append.ensures.joined in
    let second = rw (c.of-front.ensures, c.of-back.ensures) at c.append-2.ensures.joined in
    let joined = joined-lists i.store c.append.new.self c.append-2.new.self (shelf_of i.shelves c.args.from) (shelf_of i.shelves c.args.to) (k.apart c.args.from c.args.to c.requires.apart) first second in
    let made = joined-front i.store c.append-2.new.self i.shelves i.heights i.size c.args.from c.args.to c.self.invariant.stored c.requires.apart bare joined (c.append-2.ensures.spare ∙ c.append.ensures.spare) in
    let floats = ap (λ fs. with_floats_before c.args.to fs (without_entries c.args.from (seen_pool at i.size))) (sym (floats_of-seen c.args.from at)) in
    let seen = made.seen ∙ floats ∙ ap (joined_before c.args.from c.args.to) (c.self.view_is ∙ c.unmark.ensures) ∙ joined-without_marks c.args.from c.args.to old in
    record {
      joined = seen;
      unmarked = λ none. subst HasNoMarks (sym seen) (unmarked-joined_before c.args.from c.args.to old none);
    }
