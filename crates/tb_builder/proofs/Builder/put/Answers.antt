use Rattle.std.proofs.Common.{refl, sym, subst, ◌++◌, ◌∷◌, []}
use Rattle.tb_pool.specs.Lists.{list_at}
use Rattle.tb_node.specs.PlainNodes.{plain_of}
use Rattle.tb_builder.specs.Contents.{contents_of}
use Rattle.tb_builder.specs.Courses.{IsCourseOf}
use Rattle.tb_builder.specs.PageTurns.{PutFits, Shifted}
use Rattle.tb_builder.proofs.Turns.FillLemmas.{Went, went_from, same_first}
use Rattle.tb_builder.proofs.Builder.put.Goals.{In-Some, After-move_first}
use Rattle.tb_builder.proofs.Builder.put.Goals as goal

-- what is asked of the node
asked : (c : In-Some) → PutFits c.args.self.now.course c.in-Some.n.now
asked c = c.requires.node c.in-Some.n.now (sym c.in-Some.ensures)

pub put-requires-clause-node : goal.put-requires-clause-node
put-requires-clause-node c = (asked (goal.at.put-requires-clause-node c).In-Some).small

pub put-requires-clause-fits : goal.put-requires-clause-fits
put-requires-clause-fits c = (asked (goal.at.put-requires-clause-fits c).In-Some).sums

-- the node went on the page
went : (c : After-move_first) → Went c.args.self.now (record c.args.self.now { course = c.put.new.self }) c.args.store.now c.move_first.new.self c.in-Some.n.now
went c = went_from _ _ _ c.move_first.new.self _ refl refl refl c.requires.own (sym c.in-Some.ensures) c.move_first.ensures.moved

pub returns-clause-moves : goal.returns-clause-moves
returns-clause-moves c = (went c).moves

pub returns-clause-shifted : goal.returns-clause-shifted
returns-clause-shifted c = λ m e.
    subst (λ x. Shifted (plain_of (list_at c.args.store.now) x) (contents_of c.args.self.now c.args.store.now) (contents_of (record c.args.self.now { course = c.put.new.self }) c.move_first.new.self))
    (same_first _ c.in-Some.n.now m (sym c.in-Some.ensures) e) (went c).shifted

pub returns-clause-course : goal.returns-clause-course
returns-clause-course c = λ m e z bs h.
    let held = list_at c.args.store.now in
    let before = (contents_of c.args.self.now c.args.store.now).page in
    let fits = asked (goal.at.returns-clause-course c).In-Some in
    subst (λ x. IsCourseOf z c.put.new.self (before ++ plain_of held x ∷ []) bs) (same_first _ c.in-Some.n.now m (sym c.in-Some.ensures) e)
    (c.put.ensures z before bs held h fits.no_act fits.no_insertion)

pub returns-clause-behind : goal.returns-clause-behind
returns-clause-behind c = (went c).behind
