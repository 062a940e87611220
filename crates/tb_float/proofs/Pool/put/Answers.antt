use Rattle.std.proofs.Common.{ℤ, ◌<◌, [], ◌∷◌, sym, ap, ◌∙◌, subst, FitsSigned, w64, rules, arith}
use Rattle.std.specs.Prelude.{◌+ℤ◌}
use Rattle.std.proofs.lemmas.Int.{to_z-of_z}
use Rattle.tb_float.specs.declared.Part.TheVariants as parts
use Rattle.tb_float.specs.declared.by_part.ByPart.{ByPart}
use Rattle.tb_float.specs.Lists.{float_before, live_count}
use Rattle.tb_float.specs.Pool.{with_current}
use Rattle.tb_float.specs.ByPart.{of_part, with_part}
use Rattle.tb_float.specs.Shelves.{slots_of, seen_lists, seen_pool, IsPooled, IsStored}
use Rattle.tb_float.proofs.SoundLemmas.{sums-are_rooms, live_count-seen}
use Rattle.tb_float.proofs.PoolLemmas.{put-in}
use Rattle.tb_float.specs.Classes.{IsTracked}
use Rattle.tb_float.proofs.KnownLemmas.{known-put}
use Rattle.tb_float.proofs.TrackLemmas.{pooled, tracked-put, tracked-more, tracked-both}
use Rattle.tb_float.proofs.Pool.put.Goals as goal

pub raise-requires-clause-before : goal.raise-requires-clause-before
raise-requires-clause-before c =
    let i = c.self.inside in
    sums-are_rooms (slots_of i.store i.shelves) i.heights i.size i.store.spare parts.Current c.self.invariant.stored.sound c.self.invariant.stored.places

pub push_back-requires-clause-live : goal.push_back-requires-clause-live
push_back-requires-clause-live c = c.self.invariant.stored.shelves_are.live parts.Current

pub push_back-requires-clause-room : goal.push_back-requires-clause-room
push_back-requires-clause-room c =
    let i = c.self.inside in
    let live = live_count-seen (slots_of i.store i.shelves) c.self.invariant.stored.sound.slots in
    let room : live_count (seen_lists (slots_of i.store i.shelves)) < i.size = rw (← c.self.view_is) at c.requires.room in
    let places = c.self.invariant.stored.places in
    omega arith

pub invariant_of-self : goal.invariant_of-self
invariant_of-self c =
    let i = c.self.inside in
    let f : FitsSigned w64 c.entry_height.result = search rules in
    let raised = simp to_z-of_z at c.raise.ensures in
    let g : FitsSigned w64 i.least = search rules in
    let lower = simp to_z-of_z at c.least_with-self-inside.ensures.lower in
    let heights = raised ∙ ap (λ z. with_part parts.Current (of_part i.heights parts.Current +ℤ z) i.heights) c.entry_height.ensures in
    let room : live_count (seen_lists (slots_of i.store i.shelves)) < i.size = rw (← c.self.view_is) at c.requires.room in
    let made = put-in i.store c.push_back.new.self i.shelves i.heights i.size c.args.entry c.self.invariant.stored c.requires.sized room c.push_back.ensures.pushed c.push_back.ensures.spare in
    let stored = subst (λ (g : ByPart ℤ). IsStored c.push_back.new.self i.shelves g i.size) (sym heights) made.stored in
    let h : FitsSigned w64 c.least_with-self-inside.result = search rules in
    subst (λ (z : ℤ). IsPooled c.push_back.new.self i.shelves c.raise.new.self i.size c.know.new.known i.chosen z 0 i.firsts) (sym (to_z-of_z w64 c.least_with-self-inside.result h))
    (pooled c.push_back.new.self i.shelves c.raise.new.self i.size c.know.new.known i.chosen c.least_with-self-inside.result i.firsts _ stored made.seen
    (tracked-put (IsTracked i.known.flags i.least) (IsTracked c.know.new.known.flags c.least_with-self-inside.result) i.chosen c.args.entry _ c.self.invariant.tracked
    (tracked-more i.known.flags c.know.new.known.flags i.least c.least_with-self-inside.result c.know.ensures.more lower)
    (tracked-both c.know.new.known.flags c.least_with-self-inside.result (float_before c.args.entry []) c.know.ensures.float c.least_with-self-inside.ensures.float))
    (known-put i.firsts c.args.entry (seen_pool (slots_of i.store i.shelves) i.size) c.self.invariant.firsts_known))

pub returns : goal.returns
returns c =
    let i = c.self.inside in
    let room : live_count (seen_lists (slots_of i.store i.shelves)) < i.size = rw (← c.self.view_is) at c.requires.room in
    let made = put-in i.store c.push_back.new.self i.shelves i.heights i.size c.args.entry c.self.invariant.stored c.requires.sized room c.push_back.ensures.pushed c.push_back.ensures.spare in
    made.seen ∙ ap (with_current (c.args.entry ∷ [])) c.self.view_is
