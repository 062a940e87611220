use Rattle.std.proofs.Common.{ap, subst, sym, ◌∙◌}
use Rattle.tb_galley.specs.GalleyReader.{Answers}
use Rattle.tb_galley.specs.Pieces.{IsReached}
use Rattle.tb_galley.specs.declared.pieces.Progress.TheVariants.{Lines, TooLong}
use Rattle.tb_galley.proofs.Fed.{ended, few_lines, valid_end}
use Rattle.tb_galley.proofs.pieces.Reader.finish.Goals as goal

pub end_text-requires-clause-lines : goal.end_text-requires-clause-lines
end_text-requires-clause-lines c =
    let h = subst (IsReached c.self.inside.taken) c.in-Lines.is c.self.invariant in (few_lines c.self.inside.taken c.in-Lines.lines h).0

pub end_text-requires-clause-count : goal.end_text-requires-clause-count
end_text-requires-clause-count c =
    let h = subst (IsReached c.self.inside.taken) c.in-Lines.is c.self.invariant in (few_lines c.self.inside.taken c.in-Lines.lines h).1

pub returns-in-Lines-clause-grammar : goal.returns-in-Lines-clause-grammar
returns-in-Lines-clause-grammar c = λ bytes e.
    subst (Answers c.end_text.result) (ended bytes c.args.self (Lines c.in-Lines.lines c.in-Lines.unfinished) e (ap (λ r. r.progress) (sym c.self.view_is) ∙ c.in-Lines.is)) c.end_text.ensures

pub returns-in-Lines-clause-valid : goal.returns-in-Lines-clause-valid
returns-in-Lines-clause-valid c =
    let h = subst (IsReached c.self.inside.taken) c.in-Lines.is c.self.invariant in
    valid_end c.self.inside.taken c.in-Lines.lines c.in-Lines.unfinished c.end_text.result h c.end_text.ensures

pub returns-in-TooLong-clause-grammar : goal.returns-in-TooLong-clause-grammar
returns-in-TooLong-clause-grammar c = λ bytes e.
    sym (ended bytes c.args.self TooLong e (ap (λ r. r.progress) (sym c.self.view_is) ∙ c.in-TooLong.is))
