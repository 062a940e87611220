use Rattle.std.proofs.Common.{◌++◌, ◌+◌, drop, sym, ap, ◌∙◌, append-nil}
use Rattle.std.proofs.Math.ListN.{drop_of_length-le}
use Rattle.tb_told.specs.ColumnPieces.{in_column, taken_told}
use Rattle.tb_told.proofs.ChoiceLemmas.{at-index}
use Rattle.tb_told.proofs.CompanyLemmas.{next-taken}
use Rattle.tb_told.proofs.company.tell_taken.Goals as goal

pub loop-choice-preserved : goal.loop-choice-preserved
loop-choice-preserved c =
    let cs = c.args.company.now in
    let i = c.loop-choice.choice-index in
    let x = c.choice-item.result in
    next-taken (drop (i + 1) cs) (drop i cs) x _ c.loop-choice.pieces.items c.tell_if_taken.new.pieces.items (at-index cs i x c.loop-choice-test.true c.choice-item.is) c.loop-choice.invariant c.in_ok-tell_if_taken.ensures

pub returns : goal.returns
returns c =
    sym (append-nil c.loop-choice.pieces.items)
    ∙ ap (λ cs. c.loop-choice.pieces.items ++ in_column (taken_told cs)) (sym (drop_of_length-le c.args.company.now c.loop-choice-test.false))
    ∙ c.loop-choice.invariant
