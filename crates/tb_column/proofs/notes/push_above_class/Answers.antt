use Rattle.std.proofs.Common.{◌∙◌, ap, ◌++◌, ◌∷◌, Option}
use Rattle.tb_pool.specs.Lists.{list_at, with_list}
use Rattle.tb_node.specs.declared.Kind.TheVariants as kinds
use Rattle.tb_node.specs.declared.RuleOf.TheVariants.{Footnotes}
use Rattle.tb_param.specs.declared.Rule.{Rule}
use Rattle.tb_column.specs.FloatColumns.{made_node, rule_list}
use Rattle.tb_column.proofs.StoreLemmas.{with_list-added}
use Rattle.tb_column.proofs.notes.push_above_class.Goals as goal

pub returns-clause-lists : goal.returns-clause-lists
returns-clause-lists c =
    with_list-added c.args.store.now c.push_made.new.store c.push_rule.new.store c.args.l _ _ c.push_made.ensures.lists c.push_rule.ensures.lists
    ∙ ap (λ (r : Option Rule). with_list c.args.store.now c.args.l (list_at c.args.store.now c.args.l ++ (made_node (kinds.Skip c.args.skip) ∷ rule_list Footnotes r))) c.unwrap_or.ensures
