use Rattle.std.proofs.Common.{◌≡◌, ◌∙◌, ◌++◌, ◌∷◌, [], ap, subst, FitsSigned, w64, to_z, of_z, rules}
use Rattle.std.proofs.lemmas.Int.{to_z-of_z}
use Rattle.tb_scaled.specs.declared.Glue.{Glue}
use Rattle.tb_node.specs.declared.Kind.TheVariants as kinds
use Rattle.tb_pool.specs.Lists.{list_at, with_list}
use Rattle.tb_pool.proofs.CallerLemmas.{live_same}
use Rattle.tb_column.proofs.StoreLemmas.{with_list-added}
use Rattle.tb_galley.specs.GalleyNodes.{back_glue}
use Rattle.tb_items.proofs.WaitsLemmas.{on-ok}
use Rattle.tb_items.proofs.enlarging_nodes.put_box_and_glue.Goals as goal

pub put_node-requires-2 : goal.put_node-requires-2
put_node-requires-2 c = live_same c.args.store.now c.put_node.new.store c.args.l _ c.in_ok-put_node.ensures

pub returns : goal.returns
returns c =
    let fits : FitsSigned w64 c.args.by = search rules in
    let by : to_z w64 (of_z w64 c.args.by) ≡ c.args.by = to_z-of_z w64 c.args.by fits in
    on-ok c.put_node-2.result
    (λ put. with_list-added c.args.store.now c.put_node.new.store c.put_node-2.new.store c.args.l _ (record { line = 0; kind = kinds.Skip (back_glue c.args.by) } ∷ []) c.in_ok-put_node.ensures
    (subst (λ (g : Glue). c.put_node-2.new.store.lists ≡ with_list c.put_node.new.store c.args.l (list_at c.put_node.new.store c.args.l ++ record { line = 0; kind = kinds.Skip g } ∷ [])) (c.back_glue.ensures ∙ ap back_glue by) put))
    c.put_node-2.ensures
