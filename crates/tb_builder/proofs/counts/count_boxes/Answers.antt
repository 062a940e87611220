use Rattle.std.proofs.Common.{◌≡◌, ◌∙◌, sym, ap, subst, length, map, drop, min, ◌+◌, arith}
use Rattle.std.proofs.Math.Seq.{drop-length}
use Rattle.tb_pool.specs.Lists.{IsLive, list_at}
use Rattle.tb_builder.specs.declared.ClassList.{ClassList}
use Rattle.tb_builder.specs.Contents.{boxed_of, box_count}
use Rattle.tb_builder.proofs.Amounts.CountLemmas.{Boxing, boxing_begins, boxing_live, boxing_next, boxing_ends}
use Rattle.tb_builder.proofs.counts.count_boxes.Goals as goal

pub loop-entry-init : goal.loop-entry-init
loop-entry-init c = boxing_begins c.args.store.now 18446744073709551615 c.args.boxes.now c.requires.live c.requires.void

pub len-requires : goal.len-requires
len-requires c =
    subst (λ (e : ClassList). IsLive c.args.store.now e.list) (sym c.entry-item.is)
    (boxing_live c.args.store.now 18446744073709551615 _ c.loop-entry.total c.args.boxes.now c.loop-entry.entry-index c.entry-item.result c.loop-entry-test.true c.loop-entry.invariant)

pub loop-entry-preserved : goal.loop-entry-preserved
loop-entry-preserved c =
    boxing_next c.args.store.now 18446744073709551615 _ c.loop-entry.total c.args.boxes.now c.loop-entry.entry-index c.entry-item.result c.loop-entry-test.true c.loop-entry.invariant c.more-total.result
    (c.more-total.ensures ∙ ap (λ k. min (c.loop-entry.total + k) 18446744073709551615) (c.len.ensures ∙ ap (λ (e : ClassList). length (list_at c.args.store.now e.list)) c.entry-item.is))

pub returns : goal.returns
returns c =
    let e : c.loop-entry.entry-index ≡ length c.args.boxes.now = omega arith in
    boxing_ends c.args.store.now 18446744073709551615 (box_count (map (boxed_of c.args.store.now) c.args.boxes.now)) c.loop-entry.total
    (subst (λ es. Boxing c.args.store.now 18446744073709551615 (box_count (map (boxed_of c.args.store.now) c.args.boxes.now)) es c.loop-entry.total) (ap (λ k. drop k c.args.boxes.now) e ∙ drop-length c.args.boxes.now) c.loop-entry.invariant)
