use Rattle.std.proofs.Common.{◌≡◌, ap, ◌∙◌, ◌∷◌, [], ◌++◌, true, false}
use Rattle.tb_scaled.specs.declared.Glue.{Glue}
use Rattle.tb_pool.specs.Lists.{list_at, with_list}
use Rattle.tb_node.specs.declared.Node.{Node}
use Rattle.tb_node.specs.declared.Kind.TheVariants as kinds
use Rattle.tb_column.specs.FloatColumns.{made_node}
use Rattle.tb_column.proofs.StoreLemmas.{with_list-added}
use Rattle.tb_output.specs.BackList.{here_list}
use Rattle.tb_output.proofs.InText.PushLemmas.{pushed-first, grown-of}
use Rattle.tb_output.proofs.text_floats.push_here.Goals.{After-push_made-4}
use Rattle.tb_output.proofs.text_floats.push_here.Goals as goal
use Rattle.tb_node.proofs.FitLemmas.{dimension_small}

pub negate-requires-clause-width : goal.negate-requires-clause-width
negate-requires-clause-width c = dimension_small _ c.requires.parskip.width

pub negate-requires-clause-stretch : goal.negate-requires-clause-stretch
negate-requires-clause-stretch c = dimension_small _ c.requires.parskip.stretch

pub negate-requires-clause-shrink : goal.negate-requires-clause-shrink
negate-requires-clause-shrink c = dimension_small _ c.requires.parskip.shrink

-- up to the glue behind the float's box the nodes are those of a float from within a paragraph
four_put : (c : After-push_made-4) → c.push_made-4.new.store.lists ≡ with_list c.args.store.now c.args.back (list_at c.args.store.now c.args.back ++ here_list c.args.p.now false c.args.f.now)
four_put c =
    let s = c.args.store.now in
    let l = c.args.back in
    let one = pushed-first s c.reserve.new.self c.push_made.new.store l _ c.in_ok-reserve.ensures.lists c.push_made.ensures.lists in
    let two = with_list-added s c.push_made.new.store c.push_made-2.new.store l _ _ one (c.push_made-2.ensures.lists ∙ ap (λ (n : Node). with_list c.push_made.new.store l (list_at c.push_made.new.store l ++ n ∷ [])) c.float_kind.ensures) in
    let three = with_list-added s c.push_made-2.new.store c.push_made-3.new.store l _ _ two (c.push_made-3.ensures.lists ∙ ap (λ (n : Node). with_list c.push_made-2.new.store l (list_at c.push_made-2.new.store l ++ n ∷ [])) c.penalty_kind.ensures) in
    with_list-added s c.push_made-3.new.store c.push_made-4.new.store l _ _ three c.push_made-4.ensures.lists

pub returns-then-vert-clause-ok : goal.returns-then-vert-clause-ok
returns-then-vert-clause-ok c =
    let s = c.args.store.now in
    let l = c.args.back in
    let four = four_put (goal.at.returns-then-vert-clause-ok c).After-push_made-4 in
    let five = with_list-added s c.push_made-4.new.store c.push_made-then-vert.new.store l _ _ four (c.push_made-then-vert.ensures.lists ∙ ap (λ (g : Glue). with_list c.push_made-4.new.store l (list_at c.push_made-4.new.store l ++ made_node (kinds.Skip g) ∷ [])) c.negate.ensures) in
    rw c.if-vert.true (grown-of s c.push_made-then-vert.new.store l (here_list c.args.p.now true c.args.f.now) [] five)

pub returns-else-vert-clause-ok : goal.returns-else-vert-clause-ok
returns-else-vert-clause-ok c =
    rw c.if-vert.false (grown-of c.args.store.now c.push_made-4.new.store c.args.back (here_list c.args.p.now false c.args.f.now) [] (four_put (goal.at.returns-else-vert-clause-ok c).After-push_made-4))
