use Rattle.std.proofs.Common.{subst}
use Rattle.tb_run.specs.TurnParts.{HasPage}
use Rattle.tb_run.proofs.Turns.PartLemmas.{ends-part, serves-result}
use Rattle.tb_run.proofs.routine.Routine.go_on.Goals as goal

pub returns-in-Ends : goal.returns-in-Ends
returns-in-Ends c =
    ends-part c.args.wanted c.args.part.now c.args.self.now c.args.happened.now.items c.in-Ends.ending c.page_of.new.self c.page_of.new.happened.items
    (subst (λ x. HasPage c.args.wanted c.args.part.now c.args.self.now c.args.happened.now.items x c.page_of.new.self c.page_of.new.happened.items) c.in-Ends.is c.in_ok-page.ensures)

pub returns : goal.returns
returns c =
    serves-result c.args.wanted c.args.part.now c.args.self.now c.args.happened.now.items c.in-Fires.page c.page_of.new.self c.page_of.new.happened.items
    (subst (λ x. HasPage c.args.wanted c.args.part.now c.args.self.now c.args.happened.now.items x c.page_of.new.self c.page_of.new.happened.items) c.in-Fires.is c.in_ok-page.ensures)
    c.in_default.not-Filling _ c.serve_next.new.self c.serve_next.new.happened.items c.serve_next.result
    c.serve_next.ensures.served c.serve_next.ensures.ready c.serve_next.ensures.params c.serve_next.ensures.ended c.serve_next.ensures.pages c.serve_next.ensures.lists
