use Rattle.std.proofs.Common.{ap, ◌∙◌, not, FitsSigned, w64, rules}
use Rattle.std.proofs.lemmas.Int.{to_z-of_z}
use Rattle.tb_builder.specs.PageSums.{made_sums}
use Rattle.tb_builder.specs.Contents.{contents_of}
use Rattle.tb_builder.proofs.Amounts.SummedLemmas.{sums_none, sums_some}
use Rattle.tb_builder.proofs.Builder.page_sums.Goals as goal

pub returns-then-is_none-clause-sums : goal.returns-then-is_none-clause-sums
returns-then-is_none-clause-sums c = λ s sound. sums_none c.args.self.now.frozen c.args.self.now.stopped c.args.self.now.course (contents_of c.args.self.now s) (c.is_none.ensures ∙ ap not c.if-is_none.true) sound.page

pub returns-clause-sums : goal.returns-clause-sums
returns-clause-sums c = λ s sound.
    let g : FitsSigned w64 c.goal.result = search rules in
    let made = simp to_z-of_z at c.made_sums.ensures in
    made
    ∙ ap (λ x. made_sums x c.goal.result) c.sums.ensures.value
    ∙ sums_some c.goal.result c.args.self.now.frozen c.args.self.now.stopped c.args.self.now.course (contents_of c.args.self.now s) c.goal.ensures (c.is_none.ensures ∙ ap not c.if-is_none.false) sound.page
