use Rattle.std.proofs.Common.{refl, FitsSigned, w64}
use Rattle.std.proofs.lemmas.Int.{to_z-of_z}
use Rattle.tb_plain.proofs.FireLemmas.{not-below}
use Rattle.tb_routine_tests.proofs.SceneLemmas.{few-held}
use Rattle.tb_routine_tests.proofs.output.scene.is_ready.Goals as goal

pub returns : goal.returns
returns c = λ k. record {
  penalty_low = let f : FitsSigned w64 c.args.penalty = c.ranges.penalty in not-below _ _ (simp to_z-of_z at c.if-penalty-lt-HOLD_PENALTY.false);
  note_bottom = c.if-not-notes_in_reach.ensures.within refl;
  held = few-held _ _ c.held_nodes.ensures k;
}
