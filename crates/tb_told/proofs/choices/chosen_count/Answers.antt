use Rattle.std.proofs.Common.{◌≡◌, ◌+◌, ◌≤◌, length, drop, sym, ap, ◌∙◌, arith}
use Rattle.std.specs.Prelude.{Bool, true, false, if◌then◌else◌}
use Rattle.tb_fpage.specs.Company.{Choice, chosen_floats}
use Rattle.tb_told.proofs.ChoiceLemmas.{at-index, count-step}
use Rattle.tb_told.proofs.choices.chosen_count.Goals as goal

at_most_one : (b : Bool) → (if b then 1 else 0) ≤ 1
at_most_one true = omega arith
at_most_one false = omega arith

pub overflow_add-count : goal.overflow_add-count
overflow_add-count c =
    let one : c.one_if-count.result ≡ (if c.choice-item.result.chosen then 1 else 0) = c.one_if-count.ensures ∙ ap (λ (y : Choice). if y.chosen then 1 else 0) c.choice.view_is in
    omega (arith, one, at_most_one c.choice-item.result.chosen, c.loop-choice.invariant.few, c.loop-choice-test.true)

pub loop-choice-preserved : goal.loop-choice-preserved
loop-choice-preserved c =
    let cs = c.args.choices.now in
    let i = c.loop-choice.choice-index in
    let x = c.choice-item.result in
    let next = at-index cs i x c.loop-choice-test.true c.choice-item.is in
    let one : c.one_if-count.result ≡ (if x.chosen then 1 else 0) = c.one_if-count.ensures ∙ ap (λ (y : Choice). if y.chosen then 1 else 0) c.choice.view_is in
    let more : length (chosen_floats (drop i cs)) ≡ c.one_if-count.result + length (chosen_floats (drop (i + 1) cs)) =
    ap (λ ds. length (chosen_floats ds)) next ∙ count-step x (drop (i + 1) cs) ∙ ap (λ n. n + length (chosen_floats (drop (i + 1) cs))) (sym one) in
    let few : c.one_if-count.result ≤ 1 = omega (arith, one, at_most_one x.chosen) in
    record {
      counted = omega (arith, c.loop-choice.invariant.counted, more);
      few = omega (arith, few, c.loop-choice.invariant.few);
    }
