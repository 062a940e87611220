use Rattle.std.proofs.Common.{◌≡◌, ◌∙◌, ap, sym, subst, [], ◌∷◌, ◌++◌, map, List}
use Rattle.std.proofs.lemmas.Int.{to_z-of_z}
use Rattle.std.proofs.Common.{rules, FitsSigned, w64}
use Rattle.tb_pool.specs.Lists.{list_at}
use Rattle.tb_node.specs.declared.Node.{Node}
use Rattle.tb_node.specs.declared.Kind.TheVariants as kinds
use Rattle.tb_node.specs.PlainNodes.{shape_of}
use Rattle.tb_node.specs.SmallAmounts.{IsSmall}
use Rattle.tb_node.specs.Sums.{sums_of}
use Rattle.tb_column.specs.FloatColumns.{made_node, glue_list}
use Rattle.tb_column.proofs.MovingLemmas.{nothing-added, glue-is}
use Rattle.tb_column.proofs.ClosingLemmas.{glued-page, glued-small, glued-sums}
use Rattle.tb_column.proofs.text_columns.put_bottom_glue.Goals as goal

pub returns-then-is_no_glue-clause-lists : goal.returns-then-is_no_glue-clause-lists
returns-then-is_no_glue-clause-lists c =
    nothing-added c.args.store.now c.args.body (glue_list c.args.p.now.textbottom) c.requires.page.live (glue-is c.args.p.now.textbottom _ (sym c.is_no_glue.ensures ∙ c.if-is_no_glue.true))

-- the sums are those of the longer list
sums_is : (c : goal.After-add_glue) → c.add_glue.new.s ≡ sums_of c.args.p.now.maxdepth (map shape_of (list_at c.args.store.now c.args.body ++ made_node (kinds.Skip c.args.p.now.textbottom) ∷ []))
sums_is c =
    let limit : FitsSigned w64 c.args.p.now.maxdepth = search rules in
    let added = simp to_z-of_z at c.add_glue.ensures in
    glued-sums c.args.p.now c.requires.params.maxdepth c.args.store.now c.push_made.new.store c.args.body c.args.p.now.textbottom c.requires.params.textbottom c.requires.page c.requires.few c.push_made.ensures.lists
    _ _ c.requires.sums added

pub returns-clause-page : goal.returns-clause-page
returns-clause-page c =
    glued-page c.args.p.now c.requires.params.maxdepth c.args.store.now c.push_made.new.store c.args.body c.args.p.now.textbottom c.requires.params.textbottom c.requires.page c.requires.few c.push_made.ensures.lists

pub returns-clause-sums : goal.returns-clause-sums
returns-clause-sums c =
    sums_is c
    ∙ ap (λ (xs : List Node). sums_of c.args.p.now.maxdepth (map shape_of (list_at c.args.store.now c.args.body ++ xs))) (sym (glue-is c.args.p.now.textbottom _ (sym c.is_no_glue.ensures ∙ c.if-is_no_glue.false)))

pub returns-clause-small : goal.returns-clause-small
returns-clause-small c =
    subst IsSmall (sym (sums_is c))
    (glued-small c.args.p.now c.requires.params.maxdepth c.args.store.now c.push_made.new.store c.args.body c.args.p.now.textbottom c.requires.params.textbottom c.requires.page c.requires.few c.push_made.ensures.lists)
