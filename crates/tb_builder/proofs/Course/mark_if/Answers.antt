use Rattle.std.proofs.Common.{sym, ◌∙◌, w64}
use Rattle.std.proofs.lemmas.Bool.{true≢false}
use Rattle.std.proofs.lemmas.Int.{to_z-of_z}
use Rattle.tb_builder.proofs.Course.mark_if.Goals as goal

pub returns-clause-marks : goal.returns-clause-marks
returns-clause-marks c = λ z page. record {
  taken = λ e marked stands. c.mark_best.ensures z page marked stands;
  goal_is = λ e. to_z-of_z w64 c.args.goal c.ranges.goal;
  kept = λ e. absurd (true≢false (sym c.if-not-champion.false ∙ e));
  goal_kept = λ e. absurd (true≢false (sym c.if-not-champion.false ∙ e));
}
