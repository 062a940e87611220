use Rattle.std.proofs.Common.{◌∙◌, ap, sym, ◌++◌}
use Rattle.tb_pool.specs.Lists.{list_at, with_list}
use Rattle.tb_column.specs.FloatColumns.{rule_list}
use Rattle.tb_column.proofs.MovingLemmas.{nothing-added}
use Rattle.tb_column.proofs.nodes.push_rule.Goals as goal

pub returns-in-None-clause-lists : goal.returns-in-None-clause-lists
returns-in-None-clause-lists c = nothing-added c.args.store.now c.args.l (rule_list c.args.of c.args.rule) c.requires.live (ap (rule_list c.args.of) c.in-None.is)

pub returns-in-Some-clause-lists : goal.returns-in-Some-clause-lists
returns-in-Some-clause-lists c =
    c.push_some_rule.ensures.lists
    ∙ ap (λ r. with_list c.args.store.now c.args.l (list_at c.args.store.now c.args.l ++ rule_list c.args.of r)) (sym c.in-Some.is)
