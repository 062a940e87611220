use Rattle.std.proofs.Common.{sym, ◌∙◌, ap, ◌||◌}
use Rattle.tb_pool.specs.Lists.{list_at}
use Rattle.tb_search.proofs.BoxLemmas.{has_box, boxes-shown}
use Rattle.tb_search.proofs.moves.holds_box.Goals as goal

pub returns-then-is_box : goal.returns-then-is_box
returns-then-is_box c =
    sym (ap (λ b. b || has_box c.next.new.self) (sym c.is_box.ensures ∙ c.if-is_box.true))
    ∙ sym (ap has_box c.in-Some.ensures.steps)
    ∙ c.loop-node.invariant.same
    ∙ boxes-shown (list_at c.args.store.now) (list_at c.args.store.now c.args.list)

pub returns : goal.returns
returns c = sym (ap has_box c.in-None.ensures.steps.0) ∙ c.loop-node.invariant.same ∙ boxes-shown (list_at c.args.store.now) (list_at c.args.store.now c.args.list)
