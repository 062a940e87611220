use Rattle.std.proofs.Common.{◌∙◌, ◌+◌, ◌++◌, ap, sym, map, arith}
use Rattle.tb_pool.specs.Lists.{list_at}
use Rattle.tb_node.specs.PlainNodes.{plain_of}
use Rattle.tb_items.specs.ItemsLeft.{nodes_left}
use Rattle.tb_rate.specs.RatedRun.{inserted_first, insertions_first}
use Rattle.tb_rate.proofs.HeldLemmas.{feet-are}
use Rattle.tb_rate.proofs.held.insertions_first.Goals as goal

-- the list was all insertions, and the items that are left go on
pub returns-in-Some-left : goal.returns-in-Some-left
returns-in-Some-left c =
    let behind =
    ap (λ l. insertions_first (map (plain_of (list_at c.args.store.now)) l ++ nodes_left c.args.left.now)) c.in-None.ensures.steps.0
    ∙ ap (λ o. insertions_first (nodes_left o)) c.in-Some-left.is ∙ feet-are c.in-Some-left.left ∙ sym (c.inserted_first.ensures ∙ ap inserted_first c.items.ensures)
    in
    ap (λ n. c.loop-node.count + n) (sym behind) ∙ c.loop-node.invariant.counted

pub overflow_add-result : goal.overflow_add-result
overflow_add-result c = let e = returns-in-Some-left c in omega (arith, e, c.requires.few)
