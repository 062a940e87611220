use Rattle.std.proofs.Common.{◌+◌, ◌≤◌, ◌++◌, length, take, drop, ap, ◌∙◌, arith}
use Rattle.tb_float.specs.Lists.{floats_of, live_count}
use Rattle.tb_float.specs.Pool.{marks_of, flagged, with_flags}
use Rattle.tb_float.specs.Shelves.{slots_of, seen_lists, seen_pool}
use Rattle.tb_float.specs.Classes.{IsTracked}
use Rattle.tb_float.proofs.SlotLemmas.{length-floats_in}
use Rattle.tb_float.proofs.SoundLemmas.{floats_of-seen, live_count-seen}
use Rattle.tb_float.proofs.WaitingLemmas.{waiting-floats}
use Rattle.tb_float.proofs.PoolLemmas.{IsPool, flags-set, all-marks}
use Rattle.tb_float.proofs.KnownLemmas.{known-marked}
use Rattle.tb_float.proofs.TrackLemmas.{pooled-marked, tracked-flags}
use Rattle.tb_float.proofs.PlaceLemmas.{place-flags}
use Rattle.tb_float.proofs.Pool.mark_by.Goals.{After-of, After-mark_slots}
use Rattle.tb_float.proofs.Pool.mark_by.Goals as goal

-- there is a float for each flag
within : (c : After-of) → c.args.k + length c.args.flags.now ≤ length (slots_of c.self.inside.store c.self.inside.shelves c.args.from)
within c =
    let seen = ap (λ v. length (floats_of c.args.from v.lists)) c.self.view_is in
    let shown = ap length (floats_of-seen c.args.from (slots_of c.self.inside.store c.self.inside.shelves)) in
    omega (arith, length-floats_in c.args.from _ (waiting-floats c.args.from c.requires.waiting) (c.self.invariant.stored.sound.slots c.args.from), c.requires.within)

pub mark_slots-requires : goal.mark_slots-requires
mark_slots-requires c =
    let k = c.self.invariant.stored.shelves_are in
    rw c.of.ensures (record {
      live = k.live c.args.from;
      one_live = k.one_live;
      apart = k.one_apart c.args.from;
      one_empty = k.one_empty;
      within = within (goal.at.mark_slots-requires c).After-of;
    })

-- the pool with these floats marked
made : (c : After-mark_slots) → let i = c.self.inside in IsPool c.mark_slots.new.store i.shelves i.heights i.size (with_flags c.args.from c.args.k c.args.flags.now (seen_pool (slots_of i.store i.shelves) i.size))
made c =
    let i = c.self.inside in
    let marked = rw c.of.ensures at c.mark_slots.ensures.marked in
    flags-set i.store c.mark_slots.new.store i.shelves i.heights i.size c.args.from c.args.k c.args.flags.now c.requires.waiting c.self.invariant.stored marked c.mark_slots.ensures.spare

pub invariant_of-self : goal.invariant_of-self
invariant_of-self c =
    let i = c.self.inside in
    let at = slots_of i.store i.shelves in
    let pool = made (goal.at.invariant_of-self c).After-mark_slots in
    let places = c.self.invariant.stored.places in
    let few : live_count (seen_lists at) ≤ 4096 = omega (arith, live_count-seen at c.self.invariant.stored.sound.slots, places.within, places.small) in
    let v = seen_pool at i.size in
    let k = c.args.k in
    let bs = c.args.flags.now in
    let marks_from = place-flags (IsTracked i.known.flags i.least) i.chosen i.marks_from c.marks_place-self-inside.result c.args.from k bs v c.requires.waiting (all-marks at i.size c.self.invariant.stored.sound.slots) c.self.invariant.tracked c.marks_place-self-inside.ensures.place c.marks_place-self-inside.ensures.before c.self.invariant.marked_from in
    pooled-marked c.mark_slots.new.store i.shelves i.heights i.size i.known c.more_chosen-self-inside.result i.least c.marks_place-self-inside.result i.firsts _ pool.stored pool.seen
    (tracked-flags (IsTracked i.known.flags i.least) i.chosen c.more_chosen-self-inside.result c.count_set-set.result c.args.from k bs _ c.self.invariant.tracked c.count_set-set.ensures c.more_chosen-self-inside.ensures few) marks_from
    (known-marked i.firsts c.args.from (take k (marks_of c.args.from v) ++ flagged bs (drop k (marks_of c.args.from v))) v c.self.invariant.firsts_known)

pub returns : goal.returns
returns c = (made (goal.at.returns c).After-mark_slots).seen ∙ ap (with_flags c.args.from c.args.k c.args.flags.now) c.self.view_is
