use Rattle.std.proofs.Common.{◌≡◌, false, List, [], ◌∷◌, Some, slice_get, sym, ap, ◌∙◌}
use Rattle.std.specs.Prelude.{if◌then◌else◌}
use Rattle.tb_node.specs.declared.Node.{Node}
use Rattle.tb_node.specs.PlainNodes.{shape_of}
use Rattle.tb_break.specs.SplitPlace.{is_glue, penalty_by}
use Rattle.tb_builder.specs.Courses.{is_act, nodes_glue_first}
use Rattle.tb_builder.proofs.front_nodes.glue_behind.Goals as goal

-- whether glue comes first is told by a first node that is no act
told : (ns : List Node) (m : Node) → slice_get ns 0 ≡ Some m → is_act m ≡ false → nodes_glue_first ns ≡ is_glue (shape_of m)
told [] m e not_act = cc
told (n ∷ ns) m e not_act =
    let same : n ≡ m = cc in
    ap (λ x. if is_act x then nodes_glue_first ns else is_glue (shape_of x)) same ∙ ap (λ b. if b then nodes_glue_first ns else is_glue (shape_of m)) not_act

pub returns-clause-place : goal.returns-clause-place
returns-clause-place c = λ lasting ns e.
    let not_act : is_act c.args.behind.now ≡ false = sym c.is_act.ensures ∙ c.if-is_act.false in
    ap (λ b. penalty_by lasting b (shape_of c.args.n.now)) (told ns c.args.behind.now e not_act ∙ sym c.is_glue.ensures)
