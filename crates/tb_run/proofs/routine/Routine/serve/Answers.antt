use Rattle.std.proofs.Common.{sym, subst, ◌∙◌, None}
use Rattle.tb_run.specs.RoutinePages.{ServesAll}
use Rattle.tb_run.proofs.Turns.ServingLemmas.{counted-serves}
use Rattle.tb_run.proofs.Turns.UnlimitedLemmas.{none-ended}
use Rattle.tb_run.proofs.routine.Routine.serve.Goals as goal

pub returns : goal.returns
returns c =
    let none = none-ended c.in_ok-ending.ending (sym c.is_some.ensures ∙ c.if-is_some.false) in
    let d = c.serve_all.new.self in
    let goes : ServesAll c.args.page c.args.self.now None d = subst (λ o. ServesAll c.args.page c.args.self.now o d) none c.in_ok-ending.ensures in
    counted-serves c.args.page c.args.self.now d goes c.node_limit.result c.node_limit.new.self c.node_limit.ensures.limit c.node_limit.ensures.same c.node_limit.ensures.bounded c.node_limit.ensures.within
