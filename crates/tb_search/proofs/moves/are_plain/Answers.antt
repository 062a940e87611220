use Rattle.std.proofs.Common.{sym, ◌∙◌, ap, ◌&&◌}
use Rattle.tb_pool.specs.Lists.{list_at}
use Rattle.tb_search.proofs.PlainLemmas.{are_plain_nodes, plain-shown}
use Rattle.tb_search.proofs.moves.are_plain.Goals as goal

pub returns-then-not-is_plain : goal.returns-then-not-is_plain
returns-then-not-is_plain c =
    sym (ap (λ b. b && are_plain_nodes c.next.new.self) (sym c.is_plain.ensures ∙ c.if-not-is_plain.true))
    ∙ sym (ap are_plain_nodes c.in-Some.ensures.steps)
    ∙ c.loop-node.invariant.same
    ∙ plain-shown (list_at c.args.store.now) (list_at c.args.store.now c.args.list)

pub returns : goal.returns
returns c = sym (ap are_plain_nodes c.in-None.ensures.steps.0) ∙ c.loop-node.invariant.same ∙ plain-shown (list_at c.args.store.now) (list_at c.args.store.now c.args.list)
