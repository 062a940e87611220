use Rattle.std.proofs.Common.{◌+◌, ◌-◌, ◌≤◌, ◌++◌, refl, length, take, drop, ap, sym, ◌∙◌, arith}
use Rattle.std.proofs.lemmas.List.{length-take-le}
use Rattle.tb_float.specs.Lists.{floats_of}
use Rattle.tb_float.specs.Pool.{flagged, marks_of, with_marks_of}
use Rattle.tb_fpage.proofs.MarkingLemmas.{flagged-none, unmarked-are}
use Rattle.tb_fpage.proofs.companies.mark_by.Goals as goal

pub returns : goal.returns
returns c =
    let v = c.args.pool.now in
    let from = c.args.from in
    let all = floats_of from v.lists in
    let head = c.args.found.walk.seen - 1 in
    let said = c.flag_company-count.ensures in
    let bs = take c.flag_company-count.result c.flag_company-count.new.flags in
    let made = said.flags in
    let end : head + length bs ≤ length all = omega (arith, said.within, length-take-le c.flag_company-count.result c.flag_company-count.new.flags said.few) in (
      made.0,
      made.1,
      c.mark_by.ensures ∙ ap (λ ms. with_marks_of from (take head ms ++ flagged bs (drop head ms)) v) (unmarked-are (marks_of from v) all c.requires.marks c.requires.unmarked)
          ∙ ap (λ ms. with_marks_of from ms v) (flagged-none head (head + length bs) bs all refl end ∙ sym made.2),
    )
