use Rattle.std.proofs.Common.{◌+◌, drop, Some, sym, ap, ◌∙◌}
use Rattle.std.specs.Prelude.{if◌then◌else◌}
use Rattle.std.proofs.Math.ListN.{drop_of_length-le}
use Rattle.tb_fpage.specs.Company.{Choice, left_floats}
use Rattle.tb_told.specs.Tested.{first_of_class}
use Rattle.tb_told.proofs.ChoiceLemmas.{at-index, left-step}
use Rattle.tb_told.proofs.choices.first_left.Goals as goal

pub returns-then-is_left : goal.returns-then-is_left
returns-then-is_left c =
    let cs = c.args.choices.now in
    let k = c.args.class in
    let i = c.loop-choice.choice-index in
    let x = c.choice-item.result in
    ap (λ (y : Choice). Some y.float) c.choice.view_is ∙ sym (
    sym c.loop-choice.invariant
    ∙ ap (λ ds. first_of_class k (left_floats ds)) (at-index cs i x c.loop-choice-test.true c.choice-item.is)
    ∙ left-step k x (drop (i + 1) cs)
    ∙ ap (λ b. if b then Some x.float else first_of_class k (left_floats (drop (i + 1) cs))) (sym c.is_left.ensures ∙ c.if-is_left.true)
    )

pub loop-choice-preserved : goal.loop-choice-preserved
loop-choice-preserved c =
    let cs = c.args.choices.now in
    let k = c.args.class in
    let i = c.loop-choice.choice-index in
    let x = c.choice-item.result in
    sym (
    ap (λ ds. first_of_class k (left_floats ds)) (at-index cs i x c.loop-choice-test.true c.choice-item.is)
    ∙ left-step k x (drop (i + 1) cs)
    ∙ ap (λ b. if b then Some x.float else first_of_class k (left_floats (drop (i + 1) cs))) (sym c.is_left.ensures ∙ c.if-is_left.false)
    ) ∙ c.loop-choice.invariant

pub returns : goal.returns
returns c =
    ap (λ ds. first_of_class c.args.class (left_floats ds)) (sym (drop_of_length-le c.args.choices.now c.loop-choice-test.false)) ∙ c.loop-choice.invariant
