-- Worked rows of the best pages. The checker computes them from the definitions: all plans of each galley are run.
use Rattle.std.proofs.Common.{refl}
use Rattle.std.specs.Fmt.{digits}
use Rattle.tb_scaled.specs.Scaled.{badness_of}
use Rattle.tb_param.specs.Defaults.{default_params}
use Rattle.tb_param.specs.Table.{row_of}
use Rattle.tb_galley.specs.Words.{word_of}
use Rattle.tb_galley.specs.GalleyNodes.{expanded}
use Rattle.tb_galley.specs.Grammar.{grammar}
use Rattle.tb_break.specs.Cost.{page_badness, cost_of_badness}
use Rattle.tb_output.specs.Output.{out}
use Rattle.tb_steps.specs.Run.{run_of, run_from, step}
use Rattle.tb_rate.specs.RatedRun.{rated_from, rated_run}
use Rattle.tb_plans.specs.Places.{places_of}
use Rattle.tb_best.specs.PlanDemerits.{unlimited_step, unlimited_demerits_from, unlimited_demerits, plan_demerits}
use Rattle.tb_best.specs.BestOf.{best_of}
use Rattle.tb_best.specs.BestLines.{best_lines}
use Rattle.tb_top.specs.Report.{report}
use Rattle.tb_top.specs.BestRows.{BestRows}

pub best_rows : BestRows
unfolding grammar row_of word_of report best_lines best_of plan_demerits unlimited_demerits unlimited_demerits_from unlimited_step rated_run rated_from run_of run_from step expanded places_of default_params out digits page_badness cost_of_badness badness_of
best_rows = record {
  later_break = record { answered = refl; written = refl; told = refl };
  no_pages = record { answered = refl; written = refl; told = refl };
  page_at_a_penalty = record { answered = refl; written = refl; told = refl };
  page_before_a_float = record { answered = refl; written = refl; told = refl };
  whole_footnote = record { answered = refl; written = refl; told = refl };
  overfull_box = record { answered = refl; written = refl; told = refl };
  ragged_page = record { answered = refl; written = refl; told = refl };
  refused_run = record { answered = refl; written = refl; told = refl };
  two_columns = record { answered = refl; written = refl; told = refl };
}
