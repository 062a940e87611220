use Rattle.std.proofs.Common.{◌≡◌, ◌∙◌, sym, subst, ap, ◌+◌, ◌-◌, true, take, arith}
use Rattle.tb_galley.specs.declared.Item.{Item}
use Rattle.tb_items.specs.ItemsLeft.{ends_batch, are_ended}
use Rattle.tb_items.proofs.LeftLemmas.{ended-at}
use Rattle.tb_items.proofs.items_left.batch_len.Goals as goal

pub returns-then-ends_batch-clause-ended : goal.returns-then-ends_batch-clause-ended
returns-then-ends_batch-clause-ended c =
    let whole : (c.loop-count.count - 1) + 1 ≡ c.loop-count.count = omega arith in
    λ within. subst (λ k. are_ended (take k c.args.items.now) ≡ true) whole
    (ended-at c.args.items.now (c.loop-count.count - 1) c.index-items-count.result (omega arith) c.index-items-count.is (ap (λ (x : Item). ends_batch x.kind) c.index-items-count.is ∙ sym c.ends_batch.ensures ∙ c.if-ends_batch.true))
