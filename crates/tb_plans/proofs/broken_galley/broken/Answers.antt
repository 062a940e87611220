use Rattle.std.proofs.Common.{◌≡◌, ◌+◌, ◌++◌, suc, ap, arith}
use Rattle.tb_plans.specs.Plans.{broken}
use Rattle.tb_plans.proofs.BrokenLemmas.{item-more, still-within, all-made}
use Rattle.tb_plans.proofs.broken_galley.broken.Goals as goal

pub loop-k-init : goal.loop-k-init
loop-k-init c = record { made = ap (λ l. l ++ broken 0 c.args.items.now c.args.places.now) c.in_ok-made.ensures; within = omega arith }

pub next_after-next-requires : goal.next_after-next-requires
next_after-next-requires c = c.loop-k.invariant.within

pub loop-k-preserved : goal.loop-k-preserved
loop-k-preserved c =
    let one : c.loop-k.k + 1 ≡ suc c.loop-k.k = omega arith in
    record {
      made = rw one (item-more c.args.items.now c.args.places.now c.loop-k.k c.loop-k.next c.index-items-k.result c.is_first-here.result c.loop-k.made c.push_item.new.made c.next_after-next.result c.loop-k-test.true c.index-items-k.is c.is_first-here.ensures
          c.in_ok-push_item.ensures c.next_after-next.ensures c.loop-k.invariant.made);
      within = still-within c.args.places.now c.loop-k.next c.loop-k.k c.next_after-next.result c.is_first-here.result c.is_first-here.ensures c.next_after-next.ensures c.loop-k.invariant.within;
    }

pub returns : goal.returns
returns c = all-made c.args.items.now c.args.places.now c.loop-k.k c.loop-k.next c.loop-k.made (let h = c.loop-k-test.false in omega (arith, h)) c.loop-k.invariant.made
