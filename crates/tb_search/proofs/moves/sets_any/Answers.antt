use Rattle.std.proofs.Common.{sym, ◌∙◌, ap, ◌||◌}
use Rattle.tb_pool.specs.Lists.{list_at}
use Rattle.tb_search.proofs.ToldLemmas.{has_set, sets-shown}
use Rattle.tb_search.proofs.moves.sets_any.Goals as goal

pub returns-then-is_set : goal.returns-then-is_set
returns-then-is_set c =
    sym (ap (λ b. b || has_set c.next.new.self) (sym c.is_set.ensures ∙ c.if-is_set.true))
    ∙ sym (ap has_set c.in-Some.ensures.steps)
    ∙ c.loop-node.invariant.same
    ∙ sets-shown (list_at c.args.store.now) (list_at c.args.store.now c.args.list)

pub returns : goal.returns
returns c = sym (ap has_set c.in-None.ensures.steps.0) ∙ c.loop-node.invariant.same ∙ sets-shown (list_at c.args.store.now) (list_at c.args.store.now c.args.list)
