use Rattle.std.proofs.Common.{◌≡◌, [], sym, ◌∙◌, arith}
use Rattle.tb_float.specs.Pool.{marked_floats}
use Rattle.tb_float.proofs.RetireLemmas.{all-left}
use Rattle.tb_float.proofs.WaitingLemmas.{marks-count}
use Rattle.tb_told.proofs.taken.drop_one.Goals as goal

pub returns-in-None-clause-none : goal.returns-in-None-clause-none
returns-in-None-clause-none c = λ _.
    let v = c.args.pool.now in
    let none : marked_floats c.args.from v ≡ [] = grind (arith, c.in-None.ensures.none, c.in-None.is) in
    c.in-None.ensures.unchanged ∙ sym (all-left c.args.from v c.requires (marks-count c.args.from c.requires v c.len-marks.ensures.marks c.len-marks.ensures.second_marks) none c.in-None.ensures.all_unmarked)
