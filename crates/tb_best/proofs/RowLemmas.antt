-- The worked rows. The checker computes them from the definitions.
use Rattle.std.proofs.Common.{refl}
use Rattle.std.specs.Fmt.{digits}
use Rattle.tb_scaled.specs.Scaled.{badness_of}
use Rattle.tb_param.specs.Defaults.{default_params}
use Rattle.tb_param.specs.Table.{row_of}
use Rattle.tb_galley.specs.Words.{word_of}
use Rattle.tb_galley.specs.GalleyNodes.{expanded}
use Rattle.tb_galley.specs.Grammar.{grammar}
use Rattle.tb_break.specs.Cost.{page_badness, cost_of_badness}
use Rattle.tb_output.specs.Output.{out}
use Rattle.tb_plans.specs.Places.{places_of}
use Rattle.tb_best.specs.PlanDemerits.{unlimited_step, unlimited_demerits_from, unlimited_demerits, plan_demerits}
use Rattle.tb_rate.specs.RatedRun.{rated_from, rated_run}
use Rattle.tb_steps.specs.Run.{step}
use Rattle.tb_best.specs.BestOf.{best_of}
use Rattle.tb_best.specs.BestLines.{best_lines}
use Rattle.tb_best.specs.Rows.{PlanRows, LineRows}

pub plan_rows : PlanRows
unfolding grammar row_of word_of best_of plan_demerits unlimited_demerits unlimited_demerits_from unlimited_step expanded places_of default_params out digits page_badness cost_of_badness badness_of
plan_rows = record {
  later_break = refl;
  no_pages = refl;
  page_at_a_penalty = refl;
  page_before_a_float = refl;
  whole_footnote = refl;
  overfull_box = refl;
  ragged_page = refl;
  refused_run = refl;
  two_columns = refl;
}

pub line_rows : LineRows
unfolding grammar row_of word_of best_lines best_of plan_demerits unlimited_demerits unlimited_demerits_from unlimited_step rated_run rated_from step expanded places_of default_params out digits page_badness cost_of_badness badness_of
line_rows = record {
  later_break = refl;
  no_pages = refl;
  page_at_a_penalty = refl;
  page_before_a_float = refl;
  whole_footnote = refl;
  overfull_box = refl;
  ragged_page = refl;
  refused_run = refl;
  two_columns = refl;
}
