use Rattle.std.proofs.Common.{◌≡◌, ◌∙◌, rules, ap, sym, subst, [], ◌∷◌, ◌++◌, FitsSigned, w64}
use Rattle.std.proofs.lemmas.Int.{to_z-of_z}
use Rattle.tb_pool.specs.Lists.{list_at, with_list}
use Rattle.tb_node.specs.declared.Kind.TheVariants as kinds
use Rattle.tb_node.specs.declared.Node.{Node}
use Rattle.tb_node.specs.Fit.{shapes}
use Rattle.tb_node.specs.SmallAmounts.{IsAmount, IsSmall}
use Rattle.tb_node.specs.Sums.{limited_depth, sums_of}
use Rattle.tb_node.proofs.FitLemmas.{list_nodes_fit, list_sums_fit}
use Rattle.tb_column.specs.TextColumns.{made_node, closing_by}
use Rattle.tb_column.proofs.ClosingLemmas.{text_small, closing_is, closing_fits, closed_sums, closed_small, closed_page}
use Rattle.tb_column.proofs.text_columns.close_text.Goals.{After-list_sums-sums, After-made_node-glue}
use Rattle.tb_column.proofs.text_columns.close_text.Goals as goal

-- the sums are those of the text
sums_is : (c : After-list_sums-sums) → c.list_sums-sums.result ≡ sums_of c.args.p.now.maxdepth (shapes c.args.store.now c.args.body)
sums_is c = let limit : FitsSigned w64 c.args.p.now.maxdepth = search rules in simp to_z-of_z at c.list_sums-sums.ensures

-- the node closes the text
closes : (c : After-made_node-glue) → c.made_node-glue.result ≡ made_node (kinds.Skip (closing_by c.args.p.now.bottom (limited_depth c.args.p.now.maxdepth (shapes c.args.store.now c.args.body))))
closes c =
    let limit : FitsSigned w64 c.args.p.now.maxdepth = search rules in
    let depth : FitsSigned w64 c.list_sums-sums.result.depth = search rules in
    let sums = simp to_z-of_z at c.list_sums-sums.ensures in
    let glue = simp to_z-of_z at c.closing_glue.ensures in
    closing_is c.args.p.now (list_at c.args.store.now c.args.body) _ _ _ sums glue c.made_node-glue.ensures

pub closing_glue-requires : goal.closing_glue-requires
closing_glue-requires c =
    let depth : FitsSigned w64 c.list_sums-sums.result.depth = search rules in
    let sums = sums_is (goal.at.closing_glue-requires c).After-list_sums-sums in
    simp to_z-of_z (subst IsAmount (sym (ap (λ s. s.depth) sums)) (text_small c.args.p.now c.requires.params.maxdepth _ c.requires.page.sized c.requires.few).depth)

pub add-requires-clause-small : goal.add-requires-clause-small
add-requires-clause-small c =
    let sums = sums_is (goal.at.add-requires-clause-small c).After-list_sums-sums in
    subst IsSmall (sym sums) (text_small c.args.p.now c.requires.params.maxdepth _ c.requires.page.sized c.requires.few)

pub add-requires-clause-node : goal.add-requires-clause-node
add-requires-clause-node c = closing_fits c.args.p.now c.requires.params.maxdepth _ c.requires.page.sized _ (closes (goal.at.add-requires-clause-node c).After-made_node-glue)

pub returns-clause-lists : goal.returns-clause-lists
returns-clause-lists c =
    let is = closes (goal.at.returns-clause-lists c).After-made_node-glue in
    c.push_back.ensures.pushed ∙ ap (λ (n : Node). with_list c.args.store.now c.args.body (list_at c.args.store.now c.args.body ++ n ∷ [])) is

pub returns-clause-page : goal.returns-clause-page
returns-clause-page c = closed_page c.args.p.now _ _ _ c.requires.params.maxdepth c.requires.page c.requires.few (returns-clause-lists c)

pub returns-clause-sums : goal.returns-clause-sums
returns-clause-sums c =
    let w = goal.at.returns-clause-sums c in
    let limit : FitsSigned w64 c.args.p.now.maxdepth = search rules in
    let added = simp to_z-of_z at c.add.ensures in
    closed_sums c.args.p.now c.requires.params.maxdepth _ c.requires.page.sized _ (closes w.After-made_node-glue) _ _ (sums_is w.After-list_sums-sums) added

pub returns-clause-small : goal.returns-clause-small
returns-clause-small c = subst IsSmall (sym (returns-clause-sums c)) (closed_small c.args.p.now c.requires.params.maxdepth _ c.requires.page.sized c.requires.few)

pub list_sums-sums-requires-clause-nodes : goal.list_sums-sums-requires-clause-nodes
list_sums-sums-requires-clause-nodes c = list_nodes_fit c.args.store.now c.args.body c.requires.page.sized

pub list_sums-sums-requires-clause-sums : goal.list_sums-sums-requires-clause-sums
list_sums-sums-requires-clause-sums c =
    let limit : FitsSigned w64 c.args.p.now.maxdepth = search rules in
    simp to_z-of_z (list_sums_fit c.args.store.now c.args.body c.args.p.now.maxdepth c.requires.params.maxdepth.low c.requires.page.sized c.requires.page.few)
