use mir.Syntax.{w128}
use mir.Val.{to_z, of_z}
use Rattle.std.proofs.Common.{◌≡◌, ◌+◌, drop, ap, ◌∙◌, FitsSigned, w64, rules, arith}
use Rattle.std.specs.Prelude.{pos, ◌+ℤ◌, if◌then◌else◌}
use Rattle.std.proofs.lemmas.Int.{ints, to_z-of_z}
use Rattle.std.proofs.Math.ListN.{drop_of_length-le}
use Rattle.tb_fpage.specs.Company.{separated}
use Rattle.tb_told.proofs.ChoiceLemmas.{at-index, separated-step}
use Rattle.tb_told.proofs.choices.separated.Goals as goal

pub loop-choice-init : goal.loop-choice-init
loop-choice-init c = record { summed = omega (arith, ints); within = record { low = omega (arith, ints); high = omega (arith, ints) } }

pub sum_of-sum-requires-clause-sum : goal.sum_of-sum-requires-clause-sum
sum_of-sum-requires-clause-sum c =
    let low = c.loop-choice.invariant.within.low in
    let high = c.loop-choice.invariant.within.high in
    let more = c.loop-choice-test.true in
    let few = c.requires in
    record { low = omega (arith, ints); high = omega (arith, ints) }

pub loop-choice-preserved : goal.loop-choice-preserved
loop-choice-preserved c =
    let cs = c.args.choices.now in
    let i = c.loop-choice.choice-index in
    let x = c.choice-item.result in
    let s = to_z w64 (of_z w64 c.args.sep) in
    let fits_sep : FitsSigned w64 c.args.sep = search rules in
    let fits_sum : FitsSigned w128 c.sum_of-sum.result = search rules in
    let e_sep : s ≡ c.args.sep = to_z-of_z _ _ fits_sep in
    let fits_share : FitsSigned w128 c.share.result = search rules in
    let e_share : to_z w128 (of_z w128 c.share.result) ≡ c.share.result = to_z-of_z _ _ fits_share in
    let e_sum : to_z w128 (of_z w128 c.sum_of-sum.result) ≡ c.sum_of-sum.result = to_z-of_z _ _ fits_sum in
    let next : separated s (drop i cs) ≡ (if x.chosen then s +ℤ x.float.height else pos 0) +ℤ separated s (drop (i + 1) cs) = ap (separated s) (at-index cs i x c.loop-choice-test.true c.choice-item.is) ∙ separated-step s x (drop (i + 1) cs) in
    let low = c.loop-choice.invariant.within.low in
    let high = c.loop-choice.invariant.within.high in
    let more_low = c.share.ensures.within.low in
    let more_high = c.share.ensures.within.high in
    record {
      summed = omega (arith, ints, e_sum, e_share, c.share.ensures.value, next, c.loop-choice.invariant.summed, c.sum_of-sum.ensures);
      within = record { low = omega (arith, ints, e_sum, e_share, c.sum_of-sum.ensures); high = omega (arith, ints, e_sum, e_share, c.sum_of-sum.ensures) };
    }

pub returns : goal.returns
returns c =
    let low = c.loop-choice.invariant.within.low in
    let high = c.loop-choice.invariant.within.high in
    let few = c.requires in
    let s = to_z w64 (of_z w64 c.args.sep) in
    let fits_sep : FitsSigned w64 c.args.sep = search rules in
    let e_sep : s ≡ c.args.sep = to_z-of_z _ _ fits_sep in
    let end = ap (separated (to_z w64 (of_z w64 c.args.sep))) (drop_of_length-le c.args.choices.now c.loop-choice-test.false) in
    let value : to_z w128 c.loop-choice.sum-bits ≡ separated s c.args.choices.now = omega (arith, ints, end, c.loop-choice.invariant.summed) in
    record {
      value = value ∙ ap (λ y. separated y c.args.choices.now) e_sep;
      within = record { low = omega (arith, ints); high = omega (arith, ints) };
    }
