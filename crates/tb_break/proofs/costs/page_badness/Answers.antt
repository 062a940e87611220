use Rattle.std.proofs.Common.{FitsSigned, w64, rules, ◌-ℤ◌, sym, ◌∙◌, ap, arith}
use Rattle.std.proofs.lemmas.Int.{ints, to_z-of_z}
use Rattle.tb_scaled.specs.Scaled.{badness_of}
use Rattle.tb_break.proofs.CostLemmas.{under_badness, over_awful, over_badness}
use Rattle.tb_break.proofs.costs.page_badness.Goals as goal

pub returns-then-missing-gt0-clause-value : goal.returns-then-missing-gt0-clause-value
returns-then-missing-gt0-clause-value c =
    let g : FitsSigned w64 c.args.goal = c.ranges.goal in
    let t : FitsSigned w64 c.args.s.now.total = search rules in
    let d : FitsSigned w64 (c.args.goal -ℤ c.args.s.now.total) = omega (arith, ints) in
    let b : FitsSigned w64 c.badness.result = search rules in
    let f : FitsSigned w64 c.finite.result = search rules in
    let value = simp to_z-of_z at c.badness.ensures.value in
    let more = simp to_z-of_z at c.if-missing-gt0.true in
    simp to_z-of_z (value ∙ ap (badness_of (c.args.goal -ℤ c.args.s.now.total)) c.finite.ensures ∙ under_badness c.args.s.now c.args.goal more (sym c.is_infinite.ensures ∙ c.if-is_infinite.false))

pub returns-then-s-goal-clause-value : goal.returns-then-s-goal-clause-value
returns-then-s-goal-clause-value c =
    let g : FitsSigned w64 c.args.goal = c.ranges.goal in
    let t : FitsSigned w64 c.args.s.now.total = search rules in
    let k : FitsSigned w64 c.args.s.now.shrink = search rules in
    let d : FitsSigned w64 (c.args.goal -ℤ c.args.s.now.total) = omega (arith, ints) in
    let e : FitsSigned w64 (c.args.s.now.total -ℤ c.args.goal) = omega (arith, ints) in
    over_awful c.args.s.now c.args.goal (simp to_z-of_z at c.if-missing-gt0.false) (simp to_z-of_z at c.if-s-goal.true)

pub returns-else-s-goal-clause-value : goal.returns-else-s-goal-clause-value
returns-else-s-goal-clause-value c =
    let g : FitsSigned w64 c.args.goal = c.ranges.goal in
    let t : FitsSigned w64 c.args.s.now.total = search rules in
    let k : FitsSigned w64 c.args.s.now.shrink = search rules in
    let d : FitsSigned w64 (c.args.goal -ℤ c.args.s.now.total) = omega (arith, ints) in
    let e : FitsSigned w64 (c.args.s.now.total -ℤ c.args.goal) = omega (arith, ints) in
    let b : FitsSigned w64 c.badness-else-s-goal.result = search rules in
    let value = simp to_z-of_z at c.badness-else-s-goal.ensures.value in
    simp to_z-of_z (value ∙ over_badness c.args.s.now c.args.goal (simp to_z-of_z at c.if-missing-gt0.false) (simp to_z-of_z at c.if-s-goal.false))
