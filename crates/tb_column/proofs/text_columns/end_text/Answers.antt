use Rattle.std.proofs.Common.{◌≡◌, ◌∙◌, ap, sym, [], ◌∷◌, ◌++◌, map, List, length, length-append, arith}
use Rattle.tb_pool.specs.Lists.{list_at, with_list}
use Rattle.tb_pool.proofs.CallerLemmas.{list_same, with_list-twice}
use Rattle.tb_node.specs.declared.Node.{Node}
use Rattle.tb_node.specs.PlainNodes.{shape_of}
use Rattle.tb_node.specs.Sums.{sums_of, limited_depth}
use Rattle.tb_node.specs.declared.Kind.TheVariants as kinds
use Rattle.tb_column.specs.FloatColumns.{made_node, glue_list}
use Rattle.tb_column.specs.TextColumns.{closing_by, closed_list}
use Rattle.tb_column.proofs.text_columns.end_text.Goals.{After-close_text-sums}
use Rattle.tb_column.proofs.text_columns.end_text.Goals as goal

-- what the list holds between the two
closed_is : (c : After-close_text-sums) → list_at c.close_text-sums.new.store c.args.body ≡ closed_list c.args.p.now (list_at c.args.store.now c.args.body)
closed_is c = list_same c.args.store.now c.close_text-sums.new.store c.args.body _ c.close_text-sums.ensures.lists

pub put_bottom_glue-requires-clause-few : goal.put_bottom_glue-requires-clause-few
put_bottom_glue-requires-clause-few c =
    let ns = list_at c.args.store.now c.args.body in
    omega (
      arith,
      c.requires.few,
      ap length (closed_is (goal.at.put_bottom_glue-requires-clause-few c).After-close_text-sums),
      length-append ns (made_node (kinds.Skip (closing_by c.args.p.now.bottom (limited_depth c.args.p.now.maxdepth (map shape_of ns)))) ∷ []),
    )

pub put_bottom_glue-requires-clause-sums : goal.put_bottom_glue-requires-clause-sums
put_bottom_glue-requires-clause-sums c =
    c.close_text-sums.ensures.sums ∙ ap (λ (ns : List Node). sums_of c.args.p.now.maxdepth (map shape_of ns)) (sym (closed_is (goal.at.put_bottom_glue-requires-clause-sums c).After-close_text-sums))

pub returns-clause-lists : goal.returns-clause-lists
returns-clause-lists c =
    with_list-twice c.args.store.now c.close_text-sums.new.store c.put_bottom_glue.new.store c.args.body _ _ c.close_text-sums.ensures.lists c.put_bottom_glue.ensures.lists
    ∙ ap (λ (ns : List Node). with_list c.args.store.now c.args.body (ns ++ glue_list c.args.p.now.textbottom)) (closed_is (goal.at.returns-clause-lists c).After-close_text-sums)

pub returns-clause-sums : goal.returns-clause-sums
returns-clause-sums c =
    c.put_bottom_glue.ensures.sums
    ∙ ap (λ (ns : List Node). sums_of c.args.p.now.maxdepth (map shape_of (ns ++ glue_list c.args.p.now.textbottom))) (closed_is (goal.at.returns-clause-sums c).After-close_text-sums)
