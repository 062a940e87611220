use Rattle.std.proofs.Common.{false, length, replicate, ap, ◌∙◌}
use Rattle.tb_float.specs.Pool.{marks_of, without_marks}
use Rattle.tb_float.specs.Shelves.{seen_pool, slots_of}
use Rattle.tb_float.proofs.PoolLemmas.{unmarked-store}
use Rattle.tb_float.specs.Classes.{IsTracked}
use Rattle.tb_float.proofs.KnownLemmas.{known-marked}
use Rattle.tb_float.proofs.TrackLemmas.{pooled, tracked-unmarked}
use Rattle.tb_float.proofs.Pool.unmark_waiting.Goals as goal

pub unmark_all-requires : goal.unmark_all-requires
unmark_all-requires c = rw c.of-list.ensures (c.self.invariant.stored.shelves_are.live c.args.p)

pub invariant_of-self : goal.invariant_of-self
invariant_of-self c =
    let i = c.self.inside in
    let unmarked = rw c.of-list.ensures at c.unmark_all.ensures.unmarked in
    let made = unmarked-store i.store c.unmark_all.new.store i.shelves i.heights i.size c.args.p c.requires c.self.invariant.stored unmarked c.unmark_all.ensures.spare in
    let v = seen_pool (slots_of i.store i.shelves) i.size in
    pooled c.unmark_all.new.store i.shelves i.heights i.size i.known i.chosen i.least i.firsts _ made.stored made.seen (tracked-unmarked (IsTracked i.known.flags i.least) i.chosen c.args.p v c.self.invariant.tracked)
    (known-marked i.firsts c.args.p (replicate (length (marks_of c.args.p v)) false) v c.self.invariant.firsts_known)

pub returns : goal.returns
returns c =
    let i = c.self.inside in
    let unmarked = rw c.of-list.ensures at c.unmark_all.ensures.unmarked in
    let made = unmarked-store i.store c.unmark_all.new.store i.shelves i.heights i.size c.args.p c.requires c.self.invariant.stored unmarked c.unmark_all.ensures.spare in
    made.seen ∙ ap (without_marks c.args.p) c.self.view_is
