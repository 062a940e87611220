use Rattle.std.proofs.Common.{◌<◌, ◌≤◌, true, length, ap, ◌∙◌, arith}
use Rattle.std.specs.Prelude.{slice_set}
use Rattle.tb_float.specs.Lists.{floats_of, live_count}
use Rattle.tb_float.specs.Pool.{marks_of, with_mark}
use Rattle.tb_float.specs.Shelves.{slots_of, seen_lists, seen_pool}
use Rattle.tb_float.proofs.SlotLemmas.{length-floats_in}
use Rattle.tb_float.proofs.SoundLemmas.{floats_of-seen, live_count-seen}
use Rattle.tb_float.proofs.ListLemmas.{some-at}
use Rattle.tb_float.proofs.WaitingLemmas.{waiting-floats}
use Rattle.tb_float.proofs.PoolLemmas.{IsPool, mark-set, all-marks}
use Rattle.tb_float.specs.Classes.{IsTracked}
use Rattle.tb_float.proofs.KnownLemmas.{known-marked}
use Rattle.tb_float.proofs.TrackLemmas.{pooled-marked, tracked-mark}
use Rattle.tb_float.proofs.PlaceLemmas.{place-mark}
use Rattle.tb_float.proofs.Pool.mark.Goals.{After-of, After-mark_slot}
use Rattle.tb_float.proofs.Pool.mark.Goals as goal

-- a float is at the place
within : (c : After-of) → c.args.k < length (slots_of c.self.inside.store c.self.inside.shelves c.args.from)
within c =
    let seen = ap (λ v. length (floats_of c.args.from v.lists)) c.self.view_is in
    let shown = ap length (floats_of-seen c.args.from (slots_of c.self.inside.store c.self.inside.shelves)) in
    omega (arith, length-floats_in c.args.from _ (waiting-floats c.args.from c.requires.waiting) (c.self.invariant.stored.sound.slots c.args.from), c.requires.place)

pub mark_slot-requires : goal.mark_slot-requires
mark_slot-requires c =
    let k = c.self.invariant.stored.shelves_are in
    rw c.of.ensures (record {
      live = k.live c.args.from;
      one_live = k.one_live;
      apart = k.one_apart c.args.from;
      one_empty = k.one_empty;
      within = within (goal.at.mark_slot-requires c).After-of;
    })

-- the pool with the float marked
made : (c : After-mark_slot) → let i = c.self.inside in IsPool c.mark_slot.new.store i.shelves i.heights i.size (with_mark c.args.from c.args.k (seen_pool (slots_of i.store i.shelves) i.size))
made c =
    let i = c.self.inside in
    let slot = some-at (slots_of i.store i.shelves c.args.from) c.args.k (within (goal.at.After-mark_slot c).After-of) in
    let marked = rw c.of.ensures at c.mark_slot.ensures.marked in
    mark-set i.store c.mark_slot.new.store i.shelves i.heights i.size c.args.from c.args.k slot.0 c.requires.waiting c.self.invariant.stored slot.1 (marked slot.0 slot.1) c.mark_slot.ensures.spare

pub invariant_of-self : goal.invariant_of-self
invariant_of-self c =
    let i = c.self.inside in
    let at = slots_of i.store i.shelves in
    let pool = made (goal.at.invariant_of-self c).After-mark_slot in
    let places = c.self.invariant.stored.places in
    let few : live_count (seen_lists at) ≤ 4096 = omega (arith, live_count-seen at c.self.invariant.stored.sound.slots, places.within, places.small) in
    let marks_from = place-mark (IsTracked i.known.flags i.least) i.chosen i.marks_from c.marks_place-self-inside.result c.args.from c.args.k (seen_pool at i.size) c.requires.waiting (all-marks at i.size c.self.invariant.stored.sound.slots) c.self.invariant.tracked c.marks_place-self-inside.ensures.place c.marks_place-self-inside.ensures.before c.self.invariant.marked_from in
    let v = seen_pool at i.size in
    pooled-marked c.mark_slot.new.store i.shelves i.heights i.size i.known c.one_more-self-inside.result i.least c.marks_place-self-inside.result i.firsts _ pool.stored pool.seen (tracked-mark (IsTracked i.known.flags i.least) i.chosen c.one_more-self-inside.result c.args.from c.args.k _ c.self.invariant.tracked c.one_more-self-inside.ensures few) marks_from
    (known-marked i.firsts c.args.from (slice_set (marks_of c.args.from v) c.args.k true) v c.self.invariant.firsts_known)

pub returns : goal.returns
returns c = (made (goal.at.returns c).After-mark_slot).seen ∙ ap (with_mark c.args.from c.args.k) c.self.view_is
