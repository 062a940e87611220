use Rattle.std.proofs.Common.{◌∙◌, ap, ◌∷◌, [], ◌++◌}
use Rattle.tb_scaled.specs.declared.Glue.{Glue}
use Rattle.tb_pool.specs.Lists.{list_at, with_list}
use Rattle.tb_node.specs.declared.Kind.TheVariants as kinds
use Rattle.tb_column.specs.FloatColumns.{made_node}
use Rattle.tb_column.proofs.StoreLemmas.{with_list-added}
use Rattle.tb_output.proofs.back_list.push_clear_nodes.Goals as goal

pub returns : goal.returns
returns c =
    let one = c.push_made.ensures.lists ∙ ap (λ (g : Glue). with_list c.args.store.now c.args.l (list_at c.args.store.now c.args.l ++ made_node (kinds.Skip g) ∷ [])) c.filling_glue.ensures in
    let two = with_list-added c.args.store.now c.push_made.new.store c.push_made-2.new.store c.args.l _ _ one c.push_made-2.ensures.lists in
    let three = with_list-added c.args.store.now c.push_made-2.new.store c.push_made-3.new.store c.args.l _ _ two c.push_made-3.ensures.lists in
    let four = with_list-added c.args.store.now c.push_made-3.new.store c.push_made-4.new.store c.args.l _ _ three c.push_made-4.ensures.lists in
    with_list-added c.args.store.now c.push_made-4.new.store c.push_made-5.new.store c.args.l _ _ four c.push_made-5.ensures.lists
